use Rattle.replay_run.proofs.BroughtLemmas.{run-schedule, schedule-lawful}
use Rattle.replay_run.proofs.FitLemmas.{schedule-fits}
use Rattle.replay_run.proofs.PieceLemmas.{schedule-bytes}
use Rattle.replay_run.proofs.lawful.a_schedule_is_lawful.Goals as goal

pub returns-clause-run : goal.returns-clause-run
returns-clause-run c = run-schedule

pub returns-clause-lawful : goal.returns-clause-lawful
returns-clause-lawful c = schedule-lawful

pub returns-clause-fits : goal.returns-clause-fits
returns-clause-fits c = schedule-fits

pub returns-clause-bytes : goal.returns-clause-bytes
returns-clause-bytes c = schedule-bytes
