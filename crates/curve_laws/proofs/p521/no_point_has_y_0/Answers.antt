use Rattle.curve_laws.proofs.P521RootLemmas.{y-nonzero}
use Rattle.curve_laws.proofs.p521.no_point_has_y_0.Goals as goal

pub returns : goal.returns
returns c = y-nonzero
