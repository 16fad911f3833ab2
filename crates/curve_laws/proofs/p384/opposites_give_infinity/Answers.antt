use Rattle.curve_laws.proofs.P384Lemmas.{opposites-sum}
use Rattle.curve_laws.proofs.p384.opposites_give_infinity.Goals as goal

pub returns : goal.returns
returns c = opposites-sum
