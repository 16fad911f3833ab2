use Rattle.ecdsa_wire.proofs.FoundLemmas.{signature_is_found}
use Rattle.ecdsa_wire.proofs.ReadLemmas.{signature_is_read}
use Rattle.ecdsa_wire.proofs.laws.signatures_are_read_exactly.Goals as goal

pub returns : goal.returns
returns c = λ curve text numbers small. (signature_is_found curve text numbers small, signature_is_read curve text numbers)
