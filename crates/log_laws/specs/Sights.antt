-- What is seen of a run of the abstract agent, as log_book tells of it (ours). The file is read from its end.
use Rattle.std.specs.Prelude.{ℕ, Bool, true, false, List, [], ◌∷◌, ◌++◌, map, take, Option, None, Some}
use Rattle.std.specs.List.{filter_map}
use Rattle.world_ports.specs.declared.Moment.{Moment}
use Rattle.agent_model.specs.Actions.{Action, Answered, Asked, ForBinding, ForSignature, Granted, Lost, Outcome, Over, Proved, Purpose, Raised, Requested}
use Rattle.agent_model.specs.Events.{Happening, Timed, Joined, Heard, Ended, Took, Started, StartFailed, Tick}
use Rattle.agent_model.specs.State.{Port, State, find_port, is_client, owed_of}
use Rattle.agent_model.specs.Step.{step}
use Rattle.log_book.specs.Books.{told_of}
use Rattle.log_book.specs.declared.sight.Sight.{Sight}
use Rattle.log_book.specs.declared.sight.What.{What}
use Rattle.log_book.specs.declared.sight.What.TheVariants as what
use Rattle.log_book.specs.declared.told.Told.{Told}

-- seen at this second, when so many helpers were lost
abbrev pub seen_at : ℕ → ℕ → What → Sight
seen_at wall faults seen = record { wall = wall; faults = faults; what = seen }

-- ---- bytes of clients

-- a client is at this port
abbrev pub is_of_client : Option Port → Bool
is_of_client None = false
is_of_client (Some port) = is_client port.door

-- it is seen of a client alone
abbrev pub of_client : Bool → Sight → List Sight
of_client true sight = sight ∷ []
of_client false sight = []

-- the bytes that go over a client's socket with an event, in the state that the event finds
abbrev pub goes_over : Moment → State → Happening → List Sight
goes_over moment state (Joined door) = []
goes_over moment state (Heard port piece) = of_client (is_of_client (find_port port state.ports))
    (seen_at moment.wall state.under_way.link.faults (what.Sent port piece))
goes_over moment state (Ended port) = []
goes_over moment state (Took port count) = of_client (is_of_client (find_port port state.ports))
    (seen_at moment.wall state.under_way.link.faults (what.Given port (take count (owed_of port state))))
goes_over moment state (Started job ticket) = []
goes_over moment state (StartFailed job) = []
goes_over moment state Tick = []

-- ---- what came of an event

-- the client about whose request an action asks the user
abbrev pub raised_by : Action → Option ℕ
raised_by (Requested requesting) = None
raised_by (Asked asking) = None
raised_by (Answered settled) = None
raised_by (Proved proving) = None
raised_by (Raised raising) = Some raising.port
raised_by (Granted job) = None
raised_by (Over job) = None
raised_by Lost = None

-- those of actions, in their order
abbrev pub raised_in : List Action → List ℕ
raised_in actions = filter_map raised_by actions

-- the client whose request is put to the helper: an ask for a binding is none
abbrev pub put_for : ℕ → Purpose → Option ℕ
put_for port (ForSignature signing) = Some port
put_for port (ForBinding binding) = None

-- the client whose signing request an action puts to the helper
abbrev pub put_by : Action → Option ℕ
put_by (Requested requesting) = None
put_by (Asked asking) = put_for asking.port asking.purpose
put_by (Answered settled) = None
put_by (Proved proving) = None
put_by (Raised raising) = None
put_by (Granted job) = None
put_by (Over job) = None
put_by Lost = None

-- those of actions, in their order
abbrev pub put_in : List Action → List ℕ
put_in actions = filter_map put_by actions

-- the user is asked about the request of a client
abbrev pub raised_sight : ℕ → ℕ → ℕ → Sight
raised_sight wall faults port = seen_at wall faults (what.Raised port)

-- a signing request was put to the helper
abbrev pub put_sight : ℕ → ℕ → ℕ → Sight
put_sight wall faults port = seen_at wall faults (what.Put port)

-- a port was closed
abbrev pub closed_sight : ℕ → ℕ → ℕ → Sight
closed_sight wall faults port = seen_at wall faults (what.Closed port)

-- what is seen of these: about whose requests the user is asked, whose were put, and what was closed
abbrev pub outcome_sights : (wall faults : ℕ) → (raised put closes : List ℕ) → List Sight
outcome_sights wall faults raised put closes =
    map (raised_sight wall faults) raised
    ++ (map (put_sight wall faults) put ++ map (closed_sight wall faults) closes)

-- what is seen of what came of an event
abbrev pub came_of : ℕ → Outcome → List Sight
came_of wall outcome = outcome_sights wall outcome.state.under_way.link.faults
    (raised_in outcome.actions) (put_in outcome.actions) outcome.closes

-- ---- a run

-- what is seen of an event in this state: bytes of a client, and then what came of it
abbrev pub event_sights : State → Timed → List Sight
event_sights state timed = goes_over timed.moment state timed.event
    ++ came_of timed.moment.wall (step state timed.moment timed.event)

-- what is seen of events, one after another
abbrev pub run_sights : State → List Timed → List Sight
run_sights state [] = []
run_sights state (timed ∷ later) =
    event_sights state timed ++ run_sights (step state timed.moment timed.event).state later

-- the signing requests of a run, as log_book tells of them
abbrev pub told_in : State → List Timed → List Told
told_in state events = told_of (run_sights state events)
