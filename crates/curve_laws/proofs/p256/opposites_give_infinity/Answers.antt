use Rattle.curve_laws.proofs.P256Lemmas.{opposites-sum}
use Rattle.curve_laws.proofs.p256.opposites_give_infinity.Goals as goal

pub returns : goal.returns
returns c = opposites-sum
