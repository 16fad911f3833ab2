use Rattle.curve_laws.proofs.P384RootLemmas.{y-nonzero}
use Rattle.curve_laws.proofs.p384.no_point_has_y_0.Goals as goal

pub returns : goal.returns
returns c = y-nonzero
