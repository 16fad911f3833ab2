use Rattle.audit_core.proofs.HistoryLemmas.{all_signed}
use Rattle.audit_core.proofs.laws.all_that_is_put_is_listed.Goals as goal

pub returns : goal.returns
returns c = all_signed
