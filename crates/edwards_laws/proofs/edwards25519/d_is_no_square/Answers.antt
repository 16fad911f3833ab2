use Rattle.edwards_laws.proofs.GroupLemmas.{d-is-no-square}
use Rattle.edwards_laws.proofs.edwards25519.d_is_no_square.Goals as goal

pub returns : goal.returns
returns c = d-is-no-square
