use Rattle.agent_model.proofs.RunLemmas.{lost-closed}
use Rattle.agent_model.proofs.laws.a_lost_helper_answers_nothing.Goals as goal

pub returns-clause-closed : goal.returns-clause-closed
returns-clause-closed c = lost-closed
