use Rattle.curve_laws.proofs.P521GroupLemmas.{group-sum}
use Rattle.curve_laws.proofs.p521.the_sum_is_the_groups.Goals as goal

pub returns : goal.returns
returns c = group-sum
