use Rattle.std.proofs.Common.{[], ap, subst, sym, ◌∙◌}
use Rattle.agent_model.specs.State.{first_state}
use Rattle.log_laws.specs.Tellings.{TellsEnds}
use Rattle.log_laws.specs.Reads.{told_of_client}
use Rattle.log_laws.proofs.AllEndLemmas.{tells-what-came}
use Rattle.log_laws.proofs.TellLemmas.{tells-what-is-read}
use Rattle.log_laws.proofs.WhyLemmas.{puts-what-was-read}
use Rattle.replay_run.specs.Replay.{events_of, settings_of}
use Rattle.replay_run.proofs.FitLemmas.{schedule-fits}
use Rattle.log_core.specs.Lines.{whole_lines}
use Rattle.log_core.proofs.LogLemmas.{all_seen, all_told}
use Rattle.log_core.proofs.laws.a_log_is_of_the_records_run.Goals as goal

pub returns-clause-seen : goal.returns-clause-seen
returns-clause-seen c = all_seen

pub returns-clause-told : goal.returns-clause-told
returns-clause-told c = all_told

pub returns-clause-read : goal.returns-clause-read
returns-clause-read c = λ settings text port.
    ap (told_of_client port) (all_told settings text)
    ∙ tells-what-is-read (settings_of settings (whole_lines text)) (events_of settings (whole_lines text))
    (schedule-fits settings (whole_lines text)) port

pub returns-clause-came : goal.returns-clause-came
returns-clause-came c = λ settings text.
    subst (TellsEnds [] (first_state (settings_of settings (whole_lines text))) (events_of settings (whole_lines text))) (sym (all_told settings text))
    (tells-what-came (settings_of settings (whole_lines text)) (events_of settings (whole_lines text)) (schedule-fits settings (whole_lines text)))

pub returns-clause-put : goal.returns-clause-put
returns-clause-put c = λ settings text before later whole. puts-what-was-read (settings_of settings (whole_lines text)) before
