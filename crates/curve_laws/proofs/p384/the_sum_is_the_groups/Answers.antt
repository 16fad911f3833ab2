use Rattle.curve_laws.proofs.P384GroupLemmas.{group-sum}
use Rattle.curve_laws.proofs.p384.the_sum_is_the_groups.Goals as goal

pub returns : goal.returns
returns c = group-sum
