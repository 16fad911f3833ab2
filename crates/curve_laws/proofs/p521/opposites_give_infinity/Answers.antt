use Rattle.curve_laws.proofs.P521Lemmas.{opposites-sum}
use Rattle.curve_laws.proofs.p521.opposites_give_infinity.Goals as goal

pub returns : goal.returns
returns c = opposites-sum
