-- The run of a record beside the run that it records: docs/PROTOCOL.md, "Records" (ours). The record
-- of a list of events is, for each of them, the tick of its moment and then the events of its lines.
use Rattle.std.specs.Prelude.{◌≡◌, ◌^◌, ◌<◌, ◌≤◌, ℕ, Bool, true, false, List, [], ◌∷◌, length, Some}
use Rattle.world_ports.specs.declared.Door.TheVariants.{Clients}
use Rattle.world_ports.specs.declared.Moment.{Moment}
use Rattle.agent_model.specs.Events.{Happening, Timed, Joined, Heard, Ended, Took, Started, StartFailed, Tick}
use Rattle.agent_model.specs.Runs.{AllFit, last_after}
use Rattle.agent_model.specs.State.{Fits, Port, Settings, State, find_port, first_state, numbers, owed_of, starts}
use Rattle.agent_model.specs.Step.{step}
use Rattle.agent_model.specs.Time.{GiveTime}
use Rattle.agent_secrecy.specs.Pieces.{AreOfBytes}
use Rattle.record_world.specs.Recording.{Left, Recording, first_recording, longest_piece}
use Rattle.replay_laws.specs.Lines.{events_of, lines_of}
use Rattle.replay_laws.specs.Ticks.{is_at_one, ticked}

-- ---- events at one moment

-- an event, but for one at a port that was closed
abbrev pub stepped_unless : Bool → Moment → Happening → State → State
stepped_unless true moment event state = state
stepped_unless false moment event state = (step state moment event).state

-- the events one after another, but for those at ports that were closed
abbrev pub stepped_all : Moment → List ℕ → List Happening → State → State
stepped_all moment closed [] state = state
stepped_all moment closed (event ∷ later) state =
    stepped_all moment closed later (stepped_unless (is_at_one event closed) moment event state)

-- the event may come, but for one at a port that was closed
abbrev pub FitsUnless : Bool → Happening → State → Type 0
FitsUnless true event state = Unit {0}
FitsUnless false event state = Fits event state

-- each of them may come, but for those at ports that were closed
abbrev pub AllFitUnless : Moment → List ℕ → List Happening → State → Type 0
AllFitUnless moment closed [] state = Unit {0}
AllFitUnless moment closed (event ∷ later) state =
    FitsUnless (is_at_one event closed) event state
    × AllFitUnless moment closed later (stepped_unless (is_at_one event closed) moment event state)

-- ---- the run of a record

-- where it came to, and what the recorder keeps by then, where this is the number of the last port
-- that joined
pub record Replay : Type 0 where
  pub state : State
  pub recording : Recording
  pub last_port : ℕ

-- a record's run before its first event
abbrev pub first_replay : Settings → Replay
first_replay settings = record { state = first_state settings; recording = first_recording; last_port = 0 }

-- what the recorder keeps and tells of the next event
abbrev pub told_of : Timed → Replay → Left
told_of timed replay = lines_of timed.event replay.last_port replay.recording

-- the tick of the event's moment, and then the events of its lines: those at ports that this tick
-- closed are passed over
abbrev pub replayed : Timed → Replay → Replay
replayed timed replay = record {
  state = stepped_all timed.moment (ticked timed.moment replay.state).closes (events_of (told_of timed replay).steps)
      (ticked timed.moment replay.state).state;
  recording = (told_of timed replay).kept;
  last_port = last_after timed.event replay.last_port;
}

-- each of these events may come but for those that are passed over
abbrev pub LinesFit : Timed → Replay → Type 0
LinesFit timed replay =
    AllFitUnless timed.moment (ticked timed.moment replay.state).closes (events_of (told_of timed replay).steps)
    (ticked timed.moment replay.state).state

-- what a recorder keeps after these events
abbrev pub recording_of : Replay → List Timed → Recording
recording_of replay [] = replay.recording
recording_of replay (timed ∷ later) = recording_of (replayed timed replay) later

-- ---- the law

-- in both states the same ports are open, every client is owed the same bytes, the same jobs wait to be started,
-- and as many helpers were lost by a fault
pub record LooksAlike (one other : State) : Type 0 where
  pub ports : numbers one.ports ≡ numbers other.ports
  pub owed : (number : ℕ) (port : Port) → find_port number one.ports ≡ Some port → port.door ≡ Clients
      → owed_of number one ≡ owed_of number other
  pub jobs : starts one ≡ starts other
  pub faults : one.under_way.link.faults ≡ other.under_way.link.faults

-- event by event: the events of its lines fit, and both runs look alike behind it
abbrev pub Replays : State → Replay → List Timed → Type 0
Replays state replay [] = Unit {0}
Replays state replay (timed ∷ later) =
    LinesFit timed replay × LooksAlike (step state timed.moment timed.event).state (replayed timed replay).state
    × Replays (step state timed.moment timed.event).state (replayed timed replay) later

-- a piece is what one read brings
abbrev pub IsRead : Happening → Type 0
IsRead (Joined door) = Unit {0}
IsRead (Heard port piece) = length piece ≤ longest_piece
IsRead (Ended port) = Unit {0}
IsRead (Took port count) = Unit {0}
IsRead (Started job ticket) = Unit {0}
IsRead (StartFailed job) = Unit {0}
IsRead Tick = Unit {0}

-- each piece of these events is what one read brings
abbrev pub AreRead : List Timed → Type 0
AreRead [] = Unit {0}
AreRead (timed ∷ later) = IsRead timed.event × AreRead later

-- what a run that is recorded has: each event may come, a read brings bytes, and as many as it has
-- room for, the passphrases are counted by 64 bits, and limits that are set give a second at least
pub record IsRecorded (settings : Settings) (events : List Timed) : Type 0 where
  pub fit : AllFit (first_state settings) events
  pub bytes : AreOfBytes events
  pub read : AreRead events
  pub passphrases : length (recording_of (first_replay settings) events).passphrases < 2 ^ 64
  pub limits : GiveTime settings.limits

-- the record of each such run is its run again
abbrev pub EachReplays : Type 0
EachReplays = (settings : Settings) (events : List Timed) → IsRecorded settings events
    → Replays (first_state settings) (first_replay settings) events
