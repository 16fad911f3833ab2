-- What the end of the program says of its input and its output (ours): `ReplaysExactly`, a line a
-- status, and `RunsLawfully` of what it ran. From here on down, each file read from its end:
--   replay_run, specs/Claims.antt: how the run of a schedule may end
--   replay_run, specs/Replay.antt: the events that each line brings, and the run that they lead to
--   replay_run, specs/Settling.antt: what ports take after each line
--   replay_run, specs/Told.antt: what is printed of each event
--   specs/LawfulRun.antt: the laws of its run
--   schedule_text, specs/Lines.antt and Deeds.antt: the lines that are read, and those that are printed
--   agent_model, specs/Step.antt: one step of the abstract agent
--   agent_model, specs/Dispatch.antt: the table of requests
use Rattle.std.specs.Prelude.{◌≡◌, ℕ, List, None, IfSome}
use Rattle.world_ports.specs.Causes.{Rose}
use Rattle.agent_model.specs.State.{Settings}
use Rattle.agent_top.specs.LawfulRun.{IsLawfulRun}
use Rattle.agent_top.specs.declared.status.Status.{Status}
use Rattle.agent_top.specs.declared.status.Status.TheVariants as status
use Rattle.replay_run.specs.declared.run_end.RunEnd.{RunEnd}
use Rattle.replay_run.specs.declared.run_end.RunEnd.TheVariants.{Done, Refused, Memory, ReadFault, WriteFault}
use Rattle.replay_run.specs.Replay.{events_of, run_of, settings_of}
use Rattle.replay_run.specs.Claims.{Seen, HasRead, HoldsOfInput, EndsDone, EndsRefused, EndsEarly, EndsAtReadFault, EndsAtWriteFault}

-- the status of a run that ended so
abbrev pub status_of : RunEnd → Status
status_of Done = status.Done
status_of (Refused line fault) = status.ScheduleRefused line fault
status_of Memory = status.Memory
status_of ReadFault = status.ReadFault
status_of WriteFault = status.WriteFault

-- the output is what the abstract agent prints for the input, as far as the status says, with the settings that
-- were chosen
abbrev pub ReplaysExactly : Settings → Status → Seen → Seen → Type 0
-- the input was read to its end, no line of it is refused, and all that it prints is written
ReplaysExactly settings status.Done old new = EndsDone settings old new
-- the first refused line of the input is this one, and all that the input prints is written
ReplaysExactly settings (status.ScheduleRefused line fault) old new = EndsRefused settings line fault old new
-- a front of what the input prints is written
ReplaysExactly settings status.Memory old new = EndsEarly settings old new
-- a read failed, and all that the whole lines before it print is written
ReplaysExactly settings status.ReadFault old new = EndsAtReadFault settings old new
-- a write failed, and a front of what the input prints is written
ReplaysExactly settings status.WriteFault old new = EndsAtWriteFault settings old new
-- the words were those of `replay`, no socket is bound, and nothing is waited for
ReplaysExactly settings other old new = ⊥

-- the input was run to its end or to its first refused line, unless memory ran out
abbrev pub IsComplete : Status → Type 0
IsComplete status.Done = Unit {0}
IsComplete (status.ScheduleRefused line fault) = Unit {0}
IsComplete status.Memory = Unit {0}
IsComplete other = ⊥

-- it was run to its end, unless memory ran out
abbrev pub IsFinished : Status → Type 0
IsFinished status.Done = Unit {0}
IsFinished status.Memory = Unit {0}
IsFinished other = ⊥

-- no read and no write failed
pub record HasNoFault (old new : Seen) : Type 0 where
  pub reads : ¬ (Rose old.input.read_faults new.input.read_faults)
  pub writes : ¬ (Rose old.output.write_faults new.output.write_faults)

-- where no read and no write failed, the run is complete, and it is finished where no line of the
-- input is refused
pub record Completes (settings : Settings) (result : Status) (old new : Seen) : Type 0 where
  pub complete : HasNoFault old new → IsComplete result
  pub finished : HasNoFault old new →
      IfSome old.input.left (λ input. (run_of settings input).refused ≡ None → IsFinished result)

-- the run of what was read is that of the events which its lines and their settlings bring, and so is that of the whole
-- input, where that is told
abbrev pub RunsLawfully : Settings → Seen → Seen → Type 0
RunsLawfully settings old new = (bytes : List ℕ) → HasRead old new bytes → HoldsOfInput new.input.left bytes
    (λ text. IsLawfulRun (settings_of settings text) (events_of settings text) (run_of settings text).agent)

-- the exit status
abbrev pub code_of : Status → ℕ
code_of status.Done = 0
code_of (status.ScheduleRefused line fault) = 1
code_of status.Usage = 2
code_of status.BindFault = 3
code_of status.PollFault = 4
code_of status.Memory = 5
code_of status.ReadFault = 6
code_of status.WriteFault = 7
code_of status.RecordFault = 8
