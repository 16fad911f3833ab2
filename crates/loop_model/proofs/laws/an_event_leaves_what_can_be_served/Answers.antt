use Rattle.loop_model.proofs.StandLemmas.{servable_after}
use Rattle.loop_model.proofs.laws.an_event_leaves_what_can_be_served.Goals as goal

pub returns : goal.returns
returns c = servable_after
