use Rattle.curve_laws.proofs.P256Lemmas.{tangent-sum}
use Rattle.curve_laws.proofs.p256.the_double_is_the_tangent.Goals as goal

pub returns : goal.returns
returns c = tangent-sum
