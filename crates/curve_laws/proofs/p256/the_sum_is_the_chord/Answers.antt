use Rattle.curve_laws.proofs.P256Lemmas.{chord-sum}
use Rattle.curve_laws.proofs.p256.the_sum_is_the_chord.Goals as goal

pub returns : goal.returns
returns c = chord-sum
