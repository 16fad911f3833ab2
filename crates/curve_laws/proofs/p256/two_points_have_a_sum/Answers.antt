use Rattle.curve_laws.proofs.P256GroupLemmas.{has-sum}
use Rattle.curve_laws.proofs.p256.two_points_have_a_sum.Goals as goal

pub returns : goal.returns
returns c = has-sum
