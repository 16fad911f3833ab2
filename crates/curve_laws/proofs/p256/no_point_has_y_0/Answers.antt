use Rattle.curve_laws.proofs.P256RootLemmas.{y-nonzero}
use Rattle.curve_laws.proofs.p256.no_point_has_y_0.Goals as goal

pub returns : goal.returns
returns c = y-nonzero
