use Rattle.log_laws.proofs.JobsLemmas.{raises-step}
use Rattle.log_laws.proofs.laws.an_event_asks_about_its_own_client.Goals as goal

pub returns : goal.returns
returns c = raises-step
