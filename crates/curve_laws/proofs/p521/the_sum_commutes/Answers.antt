use Rattle.curve_laws.proofs.P521Lemmas.{commutes}
use Rattle.curve_laws.proofs.p521.the_sum_commutes.Goals as goal

pub returns : goal.returns
returns c = commutes
