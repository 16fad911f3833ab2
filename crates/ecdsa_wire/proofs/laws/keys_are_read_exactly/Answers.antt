use Rattle.ecdsa_wire.proofs.FoundLemmas.{pair_is_found}
use Rattle.ecdsa_wire.proofs.ReadLemmas.{pair_is_read}
use Rattle.ecdsa_wire.proofs.laws.keys_are_read_exactly.Goals as goal

pub returns : goal.returns
returns c = λ private blob pair small blob_small. (pair_is_found private blob pair small blob_small, pair_is_read private blob pair)
