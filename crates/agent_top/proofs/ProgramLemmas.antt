-- What a status says, by how the run ended.
use Rattle.std.proofs.Common.{◌≡◌, ℕ, List, ◌++◌, ap, sym, ◌∙◌, Option, Some, None, IfSome}
use Rattle.std.specs.Io.KnownBytes.{Consumes}
use Rattle.agent_model.specs.State.{Settings}
use Rattle.schedule_text.specs.declared.fault.LineFault.{LineFault}
use Rattle.replay_run.specs.declared.run_end.RunEnd.{RunEnd}
use Rattle.replay_run.specs.declared.run_end.RunEnd.TheVariants.{Done, Refused, Memory, ReadFault, WriteFault}
use Rattle.replay_run.specs.Replay.{events_of, run_of, settings_of}
use Rattle.replay_run.specs.Claims.{Seen, IsRefused, Ends}
use Rattle.replay_run.proofs.RoundLemmas.{some_of}
use Rattle.replay_run.proofs.BroughtLemmas.{run-schedule}
use Rattle.replay_run.proofs.FitLemmas.{schedule-fits}
use Rattle.replay_run.proofs.PieceLemmas.{schedule-bytes}
use Rattle.agent_top.specs.Program.{status_of, ReplaysExactly, IsComplete, IsFinished, HasNoFault, Completes, RunsLawfully}
use Rattle.agent_top.specs.LawfulRun.{IsLawfulRun}
use Rattle.agent_top.proofs.LawfulRunLemmas.{lawful_run}

-- each end says what its status says
pub replays_by : (settings : Settings) (end : RunEnd) (old new : Seen) → Ends settings end old new
    → ReplaysExactly settings (status_of end) old new
unfolding Ends
replays_by settings Done old new ends = ends
replays_by settings (Refused line fault) old new ends = ends
replays_by settings Memory old new ends = ends
replays_by settings ReadFault old new ends = ends
replays_by settings WriteFault old new ends = ends

-- a fault is answered only where one was counted
complete_by : (settings : Settings) (end : RunEnd) (old new : Seen) → Ends settings end old new
    → HasNoFault old new → IsComplete (status_of end)
unfolding Ends
complete_by settings Done old new ends none = tt
complete_by settings (Refused line fault) old new ends none = tt
complete_by settings Memory old new ends none = tt
complete_by settings ReadFault old new ends none = absurd (none.reads ends.cause)
complete_by settings WriteFault old new ends none = absurd (none.writes ends.cause)

-- the whole input isn't both refused and accepted
refused_input : (settings : Settings) (left new_left : Option (List ℕ)) (bytes text : List ℕ) (line : ℕ) (fault : LineFault)
    → Consumes left new_left bytes
    → IfSome new_left (λ rest. IsRefused settings line fault text (bytes ++ rest))
    → IfSome left (λ input. (run_of settings input).refused ≡ None → ⊥)
refused_input settings None new_left bytes text line fault consumed refused = tt
refused_input settings (Some input) None bytes text line fault consumed refused = absurd consumed
refused_input settings (Some input) (Some rest) bytes text line fault consumed refused = λ accepted.
    let same : Some fault ≡ None = sym refused.refused ∙ sym (ap (λ (i : List ℕ). (run_of settings i).refused) consumed) ∙ accepted in
    cc

-- an input of which no line is refused is run to its end
finished_by : (settings : Settings) (end : RunEnd) (old new : Seen) → Ends settings end old new
    → HasNoFault old new
    → IfSome old.input.left (λ input. (run_of settings input).refused ≡ None → IsFinished (status_of end))
unfolding Ends
finished_by settings Done old new ends none = some_of old.input.left (λ input. (run_of settings input).refused ≡ None → Unit {0}) (λ input accepted. tt)
finished_by settings (Refused line fault) old new ends none =
    refused_input settings old.input.left new.input.left ends.bytes ends.text line fault ends.read.left ends.refused.whole
finished_by settings Memory old new ends none = some_of old.input.left (λ input. (run_of settings input).refused ≡ None → Unit {0}) (λ input accepted. tt)
finished_by settings ReadFault old new ends none = absurd (none.reads ends.cause)
finished_by settings WriteFault old new ends none = absurd (none.writes ends.cause)

pub completes_by : (settings : Settings) (end : RunEnd) (old new : Seen) → Ends settings end old new
    → Completes settings (status_of end) old new
completes_by settings end old new ends = record {
  complete = complete_by settings end old new ends;
  finished = finished_by settings end old new ends;
}

-- ---- the law of history

-- the run of any schedule is lawful
abbrev RunsByLaw : Settings → List ℕ → Type 0
RunsByLaw settings text = IsLawfulRun (settings_of settings text) (events_of settings text) (run_of settings text).agent

schedule-runs : (settings : Settings) (text : List ℕ) → RunsByLaw settings text
schedule-runs settings text =
    lawful_run (settings_of settings text) (events_of settings text) (run_of settings text).agent (schedule-fits settings text)
    (schedule-bytes settings text) (run-schedule settings text)

pub lawful_by : (settings : Settings) (old new : Seen) → RunsLawfully settings old new
lawful_by settings old new = λ bytes read. record {
  read = schedule-runs settings bytes;
  whole = some_of new.input.left (λ rest. RunsByLaw settings (bytes ++ rest)) (λ rest. schedule-runs settings (bytes ++ rest));
}
