use Rattle.agent_laws.proofs.HistoryLemmas.{first-lawful}
use Rattle.agent_model.specs.State.{no_settings}
use Rattle.replay_run.specs.Drill.{drilled}
use Rattle.replay_run.proofs.DrillFitLemmas.{drill-fits}
use Rattle.replay_run.proofs.DrillPieceLemmas.{drill-bytes}
use Rattle.replay_run.proofs.lawful.a_drill_is_lawful.Goals as goal

pub returns-clause-lawful : goal.returns-clause-lawful
returns-clause-lawful c = λ rounds seed numbers. first-lawful no_settings (drilled rounds seed).events numbers

pub returns-clause-fits : goal.returns-clause-fits
returns-clause-fits c = drill-fits

pub returns-clause-bytes : goal.returns-clause-bytes
returns-clause-bytes c = drill-bytes
