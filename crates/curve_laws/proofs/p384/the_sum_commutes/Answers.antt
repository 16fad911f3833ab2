use Rattle.curve_laws.proofs.P384Lemmas.{commutes}
use Rattle.curve_laws.proofs.p384.the_sum_commutes.Goals as goal

pub returns : goal.returns
returns c = commutes
