use Rattle.curve_laws.proofs.P521Lemmas.{chord-sum}
use Rattle.curve_laws.proofs.p521.the_sum_is_the_chord.Goals as goal

pub returns : goal.returns
returns c = chord-sum
