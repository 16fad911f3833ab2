use Rattle.loop_model.proofs.ElsewhereLemmas.{wanted_before}
use Rattle.loop_model.proofs.laws.an_event_wants_no_other_port.Goals as goal

pub returns : goal.returns
returns c = wanted_before
