use Rattle.loop_model.proofs.FrontLemmas.{has_front}
use Rattle.loop_model.proofs.laws.every_front_is_legal.Goals as goal

pub returns : goal.returns
returns c = has_front
