use Rattle.curve_laws.proofs.P256RootLemmas.{inverse-at}
use Rattle.curve_laws.proofs.p256.all_but_0_have_inverses.Goals as goal

pub returns : goal.returns
returns c = inverse-at
