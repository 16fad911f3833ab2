use Rattle.curve_laws.proofs.P521GroupLemmas.{has-sum}
use Rattle.curve_laws.proofs.p521.two_points_have_a_sum.Goals as goal

pub returns : goal.returns
returns c = has-sum
