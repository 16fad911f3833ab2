use Rattle.curve_laws.proofs.P521Lemmas.{tangent-sum}
use Rattle.curve_laws.proofs.p521.the_double_is_the_tangent.Goals as goal

pub returns : goal.returns
returns c = tangent-sum
