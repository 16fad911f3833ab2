-- What is told of the run of a schedule, in order, and what each of it prints (ours: docs/PROTOCOL.md, "Output").
use Rattle.std.specs.Prelude.{ℕ, if◌then◌else◌, is_some, List, [], ◌∷◌, ◌++◌, take}
use Rattle.std.specs.List.{flat_map}
use Rattle.world_ports.specs.declared.Job.{Job}
use Rattle.agent_model.specs.Events.{Happening, Timed, Took}
use Rattle.agent_model.specs.State.{State, find_to_start, owed_of, starts}
use Rattle.agent_model.specs.Step.{step}
use Rattle.schedule_text.specs.Deeds.{to_line, close_line, start_line, refused_line}
use Rattle.schedule_text.specs.declared.fault.LineFault.{LineFault}
use Rattle.replay_run.specs.Settling.{after_event, closed_at}

-- an event comes at a line of the schedule, in this state; or a line is refused
pub data Told : Type 0 where
  Came : (line : ℕ) → (state : State) → (timed : Timed) → Told
  Barred : (line : ℕ) → (fault : LineFault) → Told

-- the events of a line come one after another, from this state on
abbrev pub told_from : ℕ → State → List Timed → List Told
told_from line state [] = []
told_from line state (timed ∷ later) =
    Came line state timed ∷ told_from line (step state timed.moment timed.event).state later

-- the events of which it is told
abbrev pub events_in : List Told → List Timed
events_in [] = []
events_in (Came line state timed ∷ later) = timed ∷ events_in later
events_in (Barred line fault ∷ later) = events_in later

-- ---- what is printed

-- a line for each of the jobs that isn't one of those that waited to be started before
abbrev pub start_lines : List Job → List Job → List ℕ
start_lines before [] = []
start_lines before (job ∷ jobs) =
    (if is_some (find_to_start job.number before) then [] else start_line job) ++ start_lines before jobs

-- the bytes that a port takes
abbrev pub taken_lines : State → Happening → List ℕ
taken_lines state (Took port count) = to_line port (take count (owed_of port state))
taken_lines state other = []

-- what is printed of what is told: the bytes that a port takes, the jobs that are to be started since, and then the ports
-- that the event closed
abbrev pub text_of : Told → List ℕ
text_of (Came line state timed) =
    taken_lines state timed.event
    ++ (start_lines (starts state) (starts (after_event timed.moment state timed.event))
    ++ flat_map close_line (closed_at timed.moment state timed.event))
text_of (Barred line fault) = refused_line line fault
