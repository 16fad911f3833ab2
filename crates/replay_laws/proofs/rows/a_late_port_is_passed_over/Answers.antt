use Rattle.replay_laws.proofs.RowLemmas.{late_of_bytes}
use Rattle.replay_laws.proofs.rows.a_late_port_is_passed_over.Goals as goal

pub returns-clause-bytes : goal.returns-clause-bytes
returns-clause-bytes c = late_of_bytes
