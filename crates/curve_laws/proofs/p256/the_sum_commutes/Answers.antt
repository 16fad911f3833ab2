use Rattle.curve_laws.proofs.P256Lemmas.{commutes}
use Rattle.curve_laws.proofs.p256.the_sum_commutes.Goals as goal

pub returns : goal.returns
returns c = commutes
