use Rattle.curve_laws.proofs.P256GroupLemmas.{group-sum}
use Rattle.curve_laws.proofs.p256.the_sum_is_the_groups.Goals as goal

pub returns : goal.returns
returns c = group-sum
