use Rattle.ed25519_wire.proofs.SignatureLemmas.{signature_is_found, signature_is_read}
use Rattle.ed25519_wire.proofs.laws.signatures_are_read_exactly.Goals as goal

pub returns : goal.returns
returns c = λ text bytes small. (signature_is_found text bytes small, signature_is_read text bytes)
