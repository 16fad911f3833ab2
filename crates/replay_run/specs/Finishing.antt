-- How a run ends with its schedule (ours).
use Rattle.std.specs.Prelude.{◌≡◌, ℕ, true, List, ◌++◌, Option, None, Some}
use Rattle.world_ports.specs.Causes.{Rose}
use Rattle.world_ports.specs.Streams.{StreamView, WritesPart}
use Rattle.agent_core.specs.Parts.{Moved}
use Rattle.agent_model.specs.State.{State}
use Rattle.schedule_text.specs.declared.fault.LineFault.{LineFault}
use Rattle.replay_run.specs.declared.run_end.RunEnd.{RunEnd}
use Rattle.replay_run.specs.declared.run_end.RunEnd.TheVariants.{Done, Refused, Memory, ReadFault, WriteFault}
use Rattle.replay_run.specs.Replay.{Run, parts_of, printed, ran}
use Rattle.replay_run.specs.Feeding.{Feeding, Wrote}

-- the end of a run with its last line
abbrev pub end_by : ℕ → Option LineFault → RunEnd
end_by line None = Done
end_by line (Some fault) = Refused line fault

-- how a run ends whose schedule ends here
abbrev pub end_of : Run → RunEnd
end_of run = end_by run.line run.refused

-- all that a run prints whose schedule ends here
abbrev pub ending_text : Feeding → List ℕ
ending_text feeding = feeding.out ++ printed true feeding.run (parts_of feeding.pending)

-- the run after its last line
abbrev pub ending_run : Feeding → Run
ending_run feeding = ran true feeding.run (parts_of feeding.pending)

-- the schedule ended, which left this run, and all is written
pub record FinishesDone (old : Feeding) (run : Run) (before after : StreamView) : Type 0 where
  pub run_is : run ≡ ending_run old
  pub wrote : Wrote before after (ending_text old)
  pub accepted : (ending_run old).refused ≡ None

-- its last line is refused, and all is written
pub record FinishesRefused
    (line : ℕ) (fault : LineFault) (old : Feeding) (run : Run) (before after : StreamView) : Type 0 where
  pub run_is : run ≡ ending_run old
  pub wrote : Wrote before after (ending_text old)
  pub refused : (ending_run old).refused ≡ Some fault
  pub number : (ending_run old).line ≡ line

-- a write failed
pub record FinishesAtWriteFault (old : Feeding) (before after : StreamView) : Type 0 where
  pub front : WritesPart (ending_text old) before after
  pub cause : Rose before.write_faults after.write_faults

-- how a run ends with its schedule, and which run it left
abbrev pub Finishes : RunEnd → Feeding → Run → StreamView → StreamView → Type 0
Finishes Done old run before after = FinishesDone old run before after
Finishes (Refused line fault) old run before after = FinishesRefused line fault old run before after
Finishes Memory old run before after = WritesPart (ending_text old) before after
Finishes ReadFault old run before after = ⊥
Finishes WriteFault old run before after = FinishesAtWriteFault old before after

-- the state of an agent, where one is handed back
abbrev pub state_left : Option Moved → Option State
state_left None = None
state_left (Some agent) = Some agent.state

-- the agent is handed back where the schedule was run to its end or to a refused line
abbrev pub agent_at : RunEnd → Run → Option State
agent_at Done run = Some run.agent
agent_at (Refused line fault) run = Some run.agent
agent_at Memory run = None
agent_at ReadFault run = None
agent_at WriteFault run = None
