use Rattle.agent_laws.proofs.HistoryLemmas.{first-puts}
use Rattle.agent_laws.proofs.laws.what_is_put_is_asked_for.Goals as goal

pub returns : goal.returns
returns c = first-puts
