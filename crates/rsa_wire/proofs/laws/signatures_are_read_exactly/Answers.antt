use Rattle.rsa_wire.proofs.FoundLemmas.{signature_is_found}
use Rattle.rsa_wire.proofs.ReadLemmas.{signature_is_read}
use Rattle.rsa_wire.proofs.laws.signatures_are_read_exactly.Goals as goal

pub returns : goal.returns
returns c = λ text signature small. (signature_is_found text signature small, signature_is_read text signature)
