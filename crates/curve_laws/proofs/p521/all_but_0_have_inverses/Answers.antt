use Rattle.curve_laws.proofs.P521RootLemmas.{inverse-at}
use Rattle.curve_laws.proofs.p521.all_but_0_have_inverses.Goals as goal

pub returns : goal.returns
returns c = inverse-at
