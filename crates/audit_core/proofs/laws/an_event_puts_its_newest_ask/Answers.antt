use Rattle.audit_core.proofs.NewestLemmas.{newest-step}
use Rattle.audit_core.proofs.laws.an_event_puts_its_newest_ask.Goals as goal

pub returns : goal.returns
returns c = newest-step
