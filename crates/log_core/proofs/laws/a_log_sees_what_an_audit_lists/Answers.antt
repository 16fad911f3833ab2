use Rattle.log_core.proofs.AuditLemmas.{seen-listed, seen-number}
use Rattle.log_core.proofs.laws.a_log_sees_what_an_audit_lists.Goals as goal

pub returns-clause-ports : goal.returns-clause-ports
returns-clause-ports c = seen-listed

pub returns-clause-number : goal.returns-clause-number
returns-clause-number c = seen-number
