use Rattle.agent_model.proofs.RunLemmas.{run-rises, run-unused}
use Rattle.agent_model.proofs.laws.no_number_is_used_again.Goals as goal

pub returns-clause-last : goal.returns-clause-last
returns-clause-last c = run-rises

pub returns-clause-closed : goal.returns-clause-closed
returns-clause-closed c = run-unused
