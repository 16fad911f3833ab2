use Rattle.agent_laws.proofs.HistoryLemmas.{first-lawful, first-only}
use Rattle.agent_laws.proofs.laws.history.Goals as goal

pub returns-clause-lawful : goal.returns-clause-lawful
returns-clause-lawful c = first-lawful

pub returns-clause-only : goal.returns-clause-only
returns-clause-only c = first-only
