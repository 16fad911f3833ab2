use Rattle.loop_model.proofs.JobLemmas.{started-first}
use Rattle.loop_model.proofs.order.a_job_is_started_first.Goals as goal

pub returns : goal.returns
returns c = started-first
