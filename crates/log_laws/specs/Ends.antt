-- What came of a client's requests for signatures, and at which event: by the run's history, and as it is told (ours).
-- The file is read from its end.
use Rattle.std.specs.Prelude.{ℕ, ◌==◌, ◌&&◌, List, [], ◌∷◌, map, length, Bool, true, false, Option, None, Some, is_some, if◌then◌else◌}
use Rattle.std.specs.List.{cons_option, filter_map}
use Rattle.std.specs.Option.{option_map, option_or}
use Rattle.helper_link.specs.declared.answer.Answer.TheVariants as answer
use Rattle.lists.specs.Rising.{is_among}
use Rattle.agent_model.specs.Actions.{Action, Answered, Asked, Asking, Granted, Lost, Over, Proved, Raised, Requested}
use Rattle.agent_model.specs.Binds.{agent_request_of}
use Rattle.agent_model.specs.Events.{Happening, Timed, Joined, Heard, Ended, Took, Started, StartFailed, Tick}
use Rattle.agent_model.specs.Fates as fates
use Rattle.agent_model.specs.Fates.{Fate, fate_of}
use Rattle.agent_model.specs.Runs.{Stamped}
use Rattle.agent_model.specs.State.{Nothing, OnAsk, OnConfirmation, Port, State, Waits, find_port, is_client, is_some_bytes}
use Rattle.log_book.specs.declared.told.Course.{Course}
use Rattle.log_book.specs.declared.told.Fate.{Fate as ToldFate}
use Rattle.log_book.specs.declared.told.Fate.TheVariants as told
use Rattle.log_book.specs.declared.told.Told.{Told}
use Rattle.log_laws.specs.Reads.{Reading, asked_by, read_at}
use Rattle.log_laws.specs.Sights.{put_in, raised_in}

-- what came of a request for a signature: the client took one, or it took a refusal and the request was never put to
-- the helper, or was put to it, or the client left before it had taken either, or it waits
pub data Came : Type 0 where
  Signed : Came
  Refused : Came
  Failed : Came
  Left : Came
  Waiting : Came

-- how far it went: whether the user was asked about it, and whether it was put to the helper
pub record Went : Type 0 where
  pub raised : Bool
  pub put : Bool

-- what came of a request that was read, and at which second of the wall clock; of one that waits, that of the reading
pub record End : Type 0 where
  pub reading : Reading
  pub wall : ℕ
  pub came : Came
  pub went : Went

-- ---- the request that a client made last

-- a request: the second at which it was read, its body, and what was done behind it, the oldest first
pub record Request : Type 0 where
  pub wall : ℕ
  pub body : List ℕ
  pub later : List Action

-- what was done, without its moment
abbrev pub action_of : Stamped → Action
action_of one = one.action

-- a request of the client at this port, read at a second, with what was done behind it
abbrev pub request_by : ℕ → ℕ → Action → List Action → Option Request
request_by port wall (Requested requesting) later = if requesting.port == port
    then Some (record { wall = wall; body = requesting.body; later = later }) else None
request_by port wall (Asked asking) later = None
request_by port wall (Answered settled) later = None
request_by port wall (Proved proving) later = None
request_by port wall (Raised raising) later = None
request_by port wall (Granted job) later = None
request_by port wall (Over job) later = None
request_by port wall Lost later = None

-- the last one of the client at this port in a past whose oldest action stands first
abbrev pub last_request : ℕ → List Stamped → Option Request
last_request port [] = None
last_request port (one ∷ later) = option_or (last_request port later)
    (request_by port one.moment.wall one.action (map action_of later))

-- what it asks to have signed: nothing, where it is no request for a signature
abbrev pub readings_of : Request → List Reading
readings_of request = cons_option (option_map (read_at request.wall) (asked_by (agent_request_of request.body))) []

-- ---- what the helper made of it

-- an ask that is put for the client at this port, with what was done behind it
abbrev pub ask_by : ℕ → Action → List Action → Option (Asking × List Action)
ask_by port (Requested requesting) later = None
ask_by port (Asked asking) later = if asking.port == port then Some (asking, later) else None
ask_by port (Answered settled) later = None
ask_by port (Proved proving) later = None
ask_by port (Raised raising) later = None
ask_by port (Granted job) later = None
ask_by port (Over job) later = None
ask_by port Lost later = None

-- the first of these actions that puts one
abbrev pub ask_in : ℕ → List Action → Option (Asking × List Action)
ask_in port [] = None
ask_in port (action ∷ later) = option_or (ask_by port action later) (ask_in port later)

-- how far the client's request went, by what was done since: the user was asked about one of the client, and one was
-- put to the helper
abbrev pub went_by : ℕ → List Action → Went
went_by port later = record { raised = is_among port (raised_in later); put = is_among port (put_in later) }

-- a refusal of a request that was put to the helper, or wasn't
abbrev pub refused_as : Bool → Came
refused_as true = Failed
refused_as false = Refused

-- by what became of the ask: a signature, where the helper answered with one
abbrev pub came_of : Bool → Fate → Came
came_of was_put fates.Unanswered = refused_as was_put
came_of was_put (fates.Gets (answer.Signed signature)) = Signed
came_of was_put (fates.Gets answer.Refused) = refused_as was_put
came_of was_put (fates.Gets answer.True) = refused_as was_put
came_of was_put (fates.Gets answer.False) = refused_as was_put
came_of was_put fates.Fails = refused_as was_put

-- without an ask it was refused
abbrev pub came_by : Bool → Option (Asking × List Action) → Came
came_by was_put None = refused_as was_put
came_by was_put (Some put) = came_of was_put (fate_of put.0.ask put.1)

-- ---- the event that ends it

-- the client waits for an answer, or hasn't taken all of it
abbrev pub is_busy : Waits → List ℕ → Bool
is_busy Nothing owed = is_some_bytes owed
is_busy (OnAsk ask) owed = true
is_busy (OnConfirmation job) owed = true

-- what came of the last request of the client at this port, behind which this was done, where an event ends it: the
-- client takes the last byte that it is owed, or its port ends while it waits
abbrev pub came_at : ℕ → Port → List Action → Happening → Option Came
came_at number port later (Joined door) = None
came_at number port later (Heard at piece) = None
came_at number port later (Ended at) =
    if (at == number) && is_busy port.waits port.owed then Some Left else None
came_at number port later (Took at count) =
    if (at == number) && (count == length port.owed)
    then Some (came_by (went_by number later).put (ask_in number later)) else None
came_at number port later (Started job ticket) = None
came_at number port later (StartFailed job) = None
came_at number port later Tick = None

-- it came at this second
abbrev pub ended_at : ℕ → Came → Went → Reading → End
ended_at wall came went reading = record { reading = reading; wall = wall; came = came; went = went }

-- of these, where it came
abbrev pub ended_by : ℕ → Option Came → Went → List Reading → List End
ended_by wall None went readings = []
ended_by wall (Some came) went readings = map (ended_at wall came went) readings

-- an event's part, by who is at the port and what it asked for last
abbrev pub ends_with : ℕ → Timed → Option Port → Option Request → List End
ends_with number timed None last = []
ends_with number timed (Some port) None = []
ends_with number timed (Some port) (Some request) = if is_client port.door
    then ended_by timed.moment.wall (came_at number port request.later timed.event)
    (went_by number request.later) (readings_of request) else []

-- the requests for signatures of the client at this port that an event ends, behind this past and in this state: one,
-- or none
abbrev pub ends_at : ℕ → List Stamped → State → Timed → List End
ends_at number past state timed = ends_with number timed (find_port number state.ports) (last_request number past)

-- ---- those that have no end

-- it waits
abbrev pub waiting : Went → Reading → End
waiting went reading = record { reading = reading; wall = reading.since; came = Waiting; went = went }

-- by who is at the port and what it asked for last
abbrev pub waits_with : ℕ → Option Port → Option Request → List End
waits_with number None last = []
waits_with number (Some port) None = []
waits_with number (Some port) (Some request) = if is_client port.door && is_busy port.waits port.owed
    then map (waiting (went_by number request.later)) (readings_of request) else []

-- the requests for signatures for whose answer the client at this port waits: one, or none
abbrev pub waits_at : ℕ → List Stamped → State → List End
waits_at number past state = waits_with number (find_port number state.ports) (last_request number past)

-- ---- what is told

-- what came of a request, as it is told
abbrev pub came_told : ToldFate → Came
came_told told.Signed = Signed
came_told told.Refused = Refused
came_told told.HelperRefused = Failed
came_told told.HelperLost = Failed
came_told told.Left = Left
came_told told.Open = Waiting

-- and how far it is told to have gone: by these two a line says what the user said
abbrev pub went_told : Course → Went
went_told course = record { raised = course.raised; put = is_some course.put }

-- a told request of the client at this port
abbrev pub end_told : ℕ → Told → Option End
end_told port one = if one.port == port then Some (record {
  reading = record { since = one.course.since; blob = one.blob; message = one.message };
  wall = one.wall;
  came = came_told one.fate;
  went = went_told one.course;
}) else None

-- those of the client at this port, in their order
abbrev pub ends_told : ℕ → List Told → List End
ends_told port told = filter_map (end_told port) told
