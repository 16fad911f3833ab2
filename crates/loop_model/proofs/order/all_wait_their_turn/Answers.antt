use Rattle.loop_model.proofs.FairnessLemmas.{served_between}
use Rattle.loop_model.proofs.order.all_wait_their_turn.Goals as goal

pub returns : goal.returns
returns c = served_between
