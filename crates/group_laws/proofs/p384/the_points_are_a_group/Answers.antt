use Rattle.group_laws.proofs.P384GroupLemmas.{group}
use Rattle.group_laws.proofs.p384.the_points_are_a_group.Goals as goal

pub returns : goal.returns
returns c = group
