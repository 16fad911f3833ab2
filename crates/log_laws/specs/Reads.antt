-- Each request for a signature that the agent reads is told once, and no other (ours).
use Rattle.std.specs.Prelude.{◌≡◌, ℕ, ◌==◌, List, Option, None, Some, Result, Ok, Err, if◌then◌else◌}
use Rattle.std.specs.List.{filter_map}
use Rattle.std.specs.Option.{option_map}
use Rattle.agent_model.specs.Actions.{Action, Answered, Asked, Granted, Lost, Over, Proved, Raised, Requested, Requesting}
use Rattle.agent_model.specs.Binds.{agent_request_of}
use Rattle.agent_model.specs.Events.{Timed}
use Rattle.agent_model.specs.Runs.{AllFit, Stamped, history}
use Rattle.agent_model.specs.State.{Settings, first_state}
use Rattle.agent_msg.specs.Requests.{Add, Bind, ClientRequest, ListIdentities, Lock, OtherExtension, Remove, RemoveAll, Sign, Signing, Unlock, Unsupported}
use Rattle.agent_msg.specs.declared.fault.MsgFault.{MsgFault}
use Rattle.log_book.specs.declared.told.Told.{Told}
use Rattle.log_laws.specs.Sights.{told_in}

-- a request for a signature that was read: the second of the wall clock, the blob of the key, and what is to be signed
pub record Reading : Type 0 where
  pub since : ℕ
  pub blob : List ℕ
  pub message : List ℕ

-- ---- what the agent reads

-- what a request asks to have signed
abbrev pub asked_in : ClientRequest → Option Signing
asked_in ListIdentities = None
asked_in (Sign signing) = Some signing
asked_in (Add addition) = None
asked_in (Remove blob) = None
asked_in RemoveAll = None
asked_in (Lock passphrase) = None
asked_in (Unlock passphrase) = None
asked_in (Bind bind) = None
asked_in (OtherExtension name) = None
asked_in (Unsupported number) = None

-- what a body asks to have signed, by its reading
abbrev pub asked_by : Result ClientRequest MsgFault → Option Signing
asked_by (Ok request) = asked_in request
asked_by (Err fault) = None

-- it was read at this second
abbrev pub read_at : ℕ → Signing → Reading
read_at wall signing = record { since = wall; blob = signing.blob; message = signing.message }

-- by the client at this port: a body that it sent was taken as a request for a signature
abbrev pub read_by : ℕ → ℕ → Requesting → Option Reading
read_by wall port requesting = if requesting.port == port
    then option_map (read_at wall) (asked_by (agent_request_of requesting.body)) else None

-- the request for a signature that an action says was read
abbrev pub read_in : ℕ → ℕ → Action → Option Reading
read_in wall port (Requested requesting) = read_by wall port requesting
read_in wall port (Asked asking) = None
read_in wall port (Answered settled) = None
read_in wall port (Proved proving) = None
read_in wall port (Raised raising) = None
read_in wall port (Granted job) = None
read_in wall port (Over job) = None
read_in wall port Lost = None

-- those of the client at this port that a history has, in its order
abbrev pub reads_of : ℕ → List Stamped → List Reading
reads_of port actions = filter_map (λ (one : Stamped). read_in one.moment.wall port one.action) actions

-- ---- what is told

-- a told request of the client at this port
abbrev pub told_by_client : ℕ → Told → Option Reading
told_by_client port one = if one.port == port
    then Some (record { since = one.course.since; blob = one.blob; message = one.message }) else None

-- those of the client at this port, in the order of their fates
abbrev pub told_of_client : ℕ → List Told → List Reading
told_of_client port told = filter_map (told_by_client port) told

-- ---- the law

-- of each client the told requests are those that the agent read of it, each once, in their order, with the second at
-- which it was read, its key and its message
abbrev pub TellsWhatIsRead : Settings → List Timed → Type 0
TellsWhatIsRead settings events = AllFit (first_state settings) events → (port : ℕ)
    → told_of_client port (told_in (first_state settings) events)
    ≡ reads_of port (history (first_state settings) events)
