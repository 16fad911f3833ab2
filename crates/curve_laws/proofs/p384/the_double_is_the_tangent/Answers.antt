use Rattle.curve_laws.proofs.P384Lemmas.{tangent-sum}
use Rattle.curve_laws.proofs.p384.the_double_is_the_tangent.Goals as goal

pub returns : goal.returns
returns c = tangent-sum
