use Rattle.loop_model.proofs.FrontLemmas.{rests_after}
use Rattle.loop_model.proofs.laws.nothing_waits_at_a_poll.Goals as goal

pub returns : goal.returns
returns c = rests_after
