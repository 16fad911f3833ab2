use Rattle.edwards_laws.proofs.GroupLemmas.{group}
use Rattle.edwards_laws.proofs.edwards25519.the_points_are_a_group.Goals as goal

pub returns : goal.returns
returns c = group
