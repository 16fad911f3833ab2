-- What the events of a schedule let be heard are bytes.
use Rattle.std.proofs.Common.{◌≡◌, ℕ, zero, suc, ◌+◌, ◌==◌, nat_lt, if◌then◌else◌, Bool, true, false, List, [], ◌∷◌, ◌++◌, length, refl, Option, None, Some, Result, Ok, Err}
use Rattle.std.specs.List.{list_any}
use Rattle.world_ports.specs.declared.Moment.{Moment}
use Rattle.agent_model.specs.Events.{Happening, Timed, Joined, Heard, Ended, StartFailed, Started as JobStarted, Tick, Took}
use Rattle.agent_model.specs.State.{Port, Settings, State, find_port, find_to_start, first_state, owed_of, starts}
use Rattle.agent_model.specs.Step.{step}
use Rattle.agent_secrecy.specs.Pieces.{AreOfBytes, IsOfBytes}
use Rattle.schedule_text.specs.declared.fault.LineFault.{LineFault}
use Rattle.schedule_text.specs.declared.fault.LineFault.TheVariants.{Order, TooLong, UnknownPort, Word}
use Rattle.schedule_text.specs.Lines.{step_of}
use Rattle.schedule_text.specs.declared.step.Step.{Step}
use Rattle.schedule_text.specs.declared.step.Step.TheVariants.{Skip, Format2, At, Join, Hear, End, Hold, Free, Take, Started, Failed}
use Rattle.replay_run.specs.Formats.{settings_by}
use Rattle.replay_run.specs.Holding.{free_port, hold_port}
use Rattle.replay_run.specs.Replay.{Brought, Brings, Refuses, Run, at_peer, brought_turned, course, events_of, happens, if_found, last_turned, line_brings, longest_schedule, parts_of, settles, skips, start_run, step_brings, turned, turned_by, whole_turned}
use Rattle.replay_run.specs.Settling.{after_event, comes, delivered, next_to_take, takings, takings_by, takings_from}
use Rattle.replay_run.specs.Told.{Told, Barred, Came, events_in, told_from}
use Rattle.replay_run.proofs.HearLemmas.{HearsBytes, line-bytes}

-- ---- events

-- a settling lets nothing be heard
taking-bytes : (moment : Moment) (later : State → List Timed) (state : State) (found : Option ℕ)
    → ((after : State) → AreOfBytes (later after)) → AreOfBytes (takings_from moment later state found)
taking-bytes moment later state None are = tt
taking-bytes moment later state (Some port) are = (tt, are (delivered moment port state))

takings_by-bytes : (moment : Moment) (held : List ℕ) (fuel : ℕ) (state : State)
    → AreOfBytes (takings_by moment held fuel state)
takings_by-bytes moment held zero state = tt
takings_by-bytes moment held (suc fuel) state =
    taking-bytes moment (takings_by moment held fuel) state (next_to_take held state) (takings_by-bytes moment held fuel)

takings-bytes : (moment : Moment) (held : List ℕ) (state : State) → AreOfBytes (takings moment held state)
unfolding takings
takings-bytes moment held state = takings_by-bytes moment held _ state

pub comes-bytes : (moment : Moment) (held : List ℕ) (event : Happening) (state : State) → IsOfBytes event
    → AreOfBytes (comes moment held state event)
comes-bytes moment held event state is = (is, takings-bytes moment held (after_event moment state event))

-- ---- what is told

told-bytes : (line : ℕ) (state : State) (events : List Timed) → AreOfBytes events
    → AreOfBytes (events_in (told_from line state events))
told-bytes line state [] are = tt
told-bytes line state (timed ∷ later) are =
    (are.0, told-bytes line (step state timed.moment timed.event).state later are.1)

then-bytes : (some more : List Told) → AreOfBytes (events_in some) → AreOfBytes (events_in more)
    → AreOfBytes (events_in (some ++ more))
then-bytes [] more are also = also
then-bytes (Came line before timed ∷ some) more are also = (are.0, then-bytes some more are.1 also)
then-bytes (Barred line fault ∷ some) more are also = then-bytes some more are also

-- ---- a line

abbrev BringsBytes : Brought → Type 0
BringsBytes (Brings found events) = AreOfBytes events
BringsBytes (Refuses fault) = Unit {0}

brings-if : (test : Bool) (one other : Brought) → BringsBytes one → BringsBytes other
    → BringsBytes (if test then one else other)
brings-if true one other are also = are
brings-if false one other are also = also

brings-peer : (found : Option Port) (number : ℕ) (brought : Brought) (before : Run) → BringsBytes brought
    → BringsBytes (at_peer found number brought before)
brings-peer None number brought before are =
    brings-if (list_any (λ other. other == number) before.closed) (skips before) (Refuses UnknownPort) tt tt
brings-peer (Some port) number brought before are = are

brings-found : {A : Type 0} (found : Option A) (fault : LineFault) (brought : Brought) → BringsBytes brought
    → BringsBytes (if_found found fault brought)
brings-found None fault brought are = tt
brings-found (Some one) fault brought are = are

module _ (before : Run) where
  happens-bytes : (event : Happening) → IsOfBytes event → BringsBytes (happens event before)
  happens-bytes event is = comes-bytes before.moment before.held event before.agent is

  settles-bytes : (held : List ℕ) → BringsBytes (settles (record before { held = held }))
  settles-bytes held = takings-bytes before.moment held before.agent

  brings-step : (step : Step) → HearsBytes step → BringsBytes (step_brings step before)
  brings-step Skip are = tt
  brings-step Format2 are =
      brings-if (before.line == 0) (skips (record before { agent = first_state (settings_by true before.settings) })) (Refuses Word)
      tt tt
  brings-step (At moment) are = comes-bytes moment before.held Tick before.agent tt
  brings-step (Join door) are = happens-bytes (Joined door) tt
  brings-step (Hear port bytes) are =
      brings-peer (find_port port before.agent.ports) port (happens (Heard port bytes) before) before
      (happens-bytes (Heard port bytes) are)
  brings-step (End port) are =
      brings-peer (find_port port before.agent.ports) port (happens (Ended port) before) before (happens-bytes (Ended port) tt)
  brings-step (Hold port) are =
      brings-found (find_port port before.agent.ports) UnknownPort (settles (record before { held = hold_port port before.held }))
      (settles-bytes (hold_port port before.held))
  brings-step (Free port) are =
      brings-found (find_port port before.agent.ports) UnknownPort (settles (record before { held = free_port port before.held }))
      (settles-bytes (free_port port before.held))
  brings-step (Take port count) are =
      let over = nat_lt (length (owed_of port before.agent)) count in
      brings-peer (find_port port before.agent.ports) port (if over then Refuses Order else happens (Took port count) before)
      before (brings-if over (Refuses Order) (happens (Took port count) before) tt (happens-bytes (Took port count) tt))
  brings-step (Started job ticket) are =
      brings-found (find_to_start job (starts before.agent)) Order (happens (JobStarted job ticket) before)
      (happens-bytes (JobStarted job ticket) tt)
  brings-step (Failed job) are =
      brings-found (find_to_start job (starts before.agent)) Order (happens (StartFailed job) before)
      (happens-bytes (StartFailed job) tt)

  brings-read : (line : List ℕ) (read : Result Step LineFault) → step_of line ≡ read
      → BringsBytes (line_brings read before)
  brings-read line (Ok step) is = brings-step step (line-bytes line step is)
  brings-read line (Err fault) is = tt

  brings-line : (line : List ℕ) (late : Bool)
      → BringsBytes (line_brings (if late then Err TooLong else step_of line) before)
  brings-line line true = tt
  brings-line line false = brings-read line (step_of line) refl

  turned-brought : (brought : Brought) (size : ℕ) → BringsBytes brought
      → AreOfBytes (events_in (brought_turned brought size before).told)
  turned-brought (Brings found events) size are = told-bytes (suc before.line) found.agent events are
  turned-brought (Refuses fault) size are = tt

  turned_by-bytes : (refused : Option LineFault) (line : List ℕ) (size : ℕ)
      → AreOfBytes (events_in (turned_by refused line size before).told)
  turned_by-bytes None line size =
      turned-brought (line_brings (if nat_lt longest_schedule (before.read + size) then Err TooLong else step_of line) before)
      size (brings-line line (nat_lt longest_schedule (before.read + size)))
  turned_by-bytes (Some fault) line size = tt

turned-bytes : (line : List ℕ) (size : ℕ) (before : Run) → AreOfBytes (events_in (turned line size before).told)
unfolding turned
turned-bytes line size before = turned_by-bytes before before.refused line size

-- ---- a schedule

last-bytes : (part : List ℕ) (before : Run) → AreOfBytes (events_in (last_turned part before).told)
last-bytes [] before = tt
last-bytes (byte ∷ bytes) before = turned-bytes (byte ∷ bytes) (length (byte ∷ bytes)) before

parts-bytes : (before : Run) (parts : List (List ℕ)) → AreOfBytes (events_in (course true before parts).told)
unfolding course
parts-bytes before [] = tt
parts-bytes before (part ∷ []) = last-bytes part before
parts-bytes before (line ∷ next ∷ parts) =
    let after = whole_turned line before in
    then-bytes after.told (course true after.run (next ∷ parts)).told (turned-bytes line (length line + 1) before)
    (parts-bytes after.run (next ∷ parts))

-- whatever it says
pub schedule-bytes : (settings : Settings) (text : List ℕ) → AreOfBytes (events_of settings text)
schedule-bytes settings text = parts-bytes (start_run settings) (parts_of text)
