use Rattle.agent_model.proofs.ClosesLemmas.{closes-closed}
use Rattle.agent_model.proofs.laws.what_was_open_and_is_not_was_closed.Goals as goal

pub returns : goal.returns
returns c = closes-closed
