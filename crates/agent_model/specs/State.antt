-- The state of the abstract agent (ours), in plain lists: no buffers, slots or indexes.
use Rattle.std.specs.Prelude.{map, ℕ, suc, ◌+◌, ◌-◌, ◌^◌, ◌<◌, ◌≤◌, List, [], ◌∷◌, length, Option, Some, None, is_some, Bool, true, false, nat_lt, not, ◌==◌, ◌&&◌, ◌||◌, if◌then◌else◌, IsSome}
use Rattle.std.specs.Option.{option_map}
use Rattle.lists.specs.Keyed.{change_by, find_by, remove_by}
use Rattle.world_ports.specs.declared.Moment.{Moment}
use Rattle.world_ports.specs.declared.Door.{Door}
use Rattle.world_ports.specs.declared.Door.TheVariants.{Clients, Children}
use Rattle.world_ports.specs.declared.Job.{Job}
use Rattle.wire_text.specs.Frames.{Front, front, Whole, Bad, More}
use Rattle.identity_table.specs.Identities.{next_death}
use Rattle.identity_table.specs.Deaths.{earlier, on_clock}
use Rattle.agent_model.specs.KeyStates.{KeyState, no_keys}
use Rattle.agent_model.specs.Events.{Happening, Joined, Heard, Ended, Took, Started, StartFailed, Tick}
use Rattle.wire_text.specs.Bounds.{longest_body}
use Rattle.helper_link.specs.HelperLink.{HelperLink, no_link, oldest, sendable}
use Rattle.helper_link.specs.declared.state.LinkState.{LinkState}
use Rattle.helper_link.specs.declared.state.LinkState.TheVariants as states
use Rattle.dest_rule.specs.declared.binding.Binding.{Binding}
use Rattle.confirm_desk.specs.Confirmations.{Confirmation, find_linked, oldest as oldest_confirmation}

-- ---- what it holds

-- what a client waits for: an answer of the helper, or the user's consent
pub data Waits : Type 0 where
  Nothing : Waits
  OnAsk : (ask : ℕ) → Waits
  OnConfirmation : (job : ℕ) → Waits

-- an open port: its number, the door through which it came, and the bytes that it sent and that
-- nothing has taken yet. Of a client also the bytes that it is owed, the hosts that its connection
-- was bound to, whether it tried to bind it, and what it waits for. What is heard and owed at the
-- helper's port and at a confirmer's stands elsewhere.
pub record Port : Type 0 where
  pub number : ℕ
  pub door : Door
  pub heard : List ℕ
  pub owed : List ℕ
  pub chain : List Binding
  pub attempted : Bool
  pub waits : Waits

-- a child process that was started, and that hasn't named itself by its ticket yet
pub record StartedJob : Type 0 where
  pub job : Job
  pub ticket : List ℕ

-- a binding whose signature an ask is to verify, and whether it is to be added to the asker's chain
pub record Verification : Type 0 where
  pub ask : ℕ
  pub binding : Binding
  pub is_new : Bool

-- how many seconds an ask may be unanswered, and a confirmation be open, where there is a limit
pub record TimeLimits : Type 0 where
  pub ask : Option ℕ
  pub confirmation : Option ℕ

-- what is under way: the link to the helper, the jobs to start, the started ones, the verifications
-- and confirmations that are waited for, the number of the last job, how long all that may be waited
-- for, and the greatest monotonic second so far
pub record UnderWay : Type 0 where
  pub link : HelperLink
  pub to_start : List Job
  pub started : List StartedJob
  pub verifications : List Verification
  pub confirmations : List Confirmation
  pub last_job : ℕ
  pub limits : TimeLimits
  pub second : ℕ

-- the identities and the lock, what is under way, the open ports by rising numbers, the number of
-- the last port that joined, the greatest monotonic second so far, and the last wall clock
pub record State : Type 0 where
  pub held : KeyState
  pub under_way : UnderWay
  pub ports : List Port
  pub last_port : ℕ
  pub moment : Moment

-- the settings of an agent: the lifetime, in seconds, of identities that come without one, and how
-- long may be waited
pub record Settings : Type 0 where
  pub life : Option ℕ
  pub limits : TimeLimits

-- no limits of time
abbrev pub no_limits : TimeLimits
no_limits = record { ask = None; confirmation = None }

-- the limits of an agent that is served, and of schedules of format 2
abbrev pub usual_limits : TimeLimits
usual_limits = record { ask = Some 60; confirmation = Some 300 }

-- identities live for ever, and all may be waited for as long
abbrev pub no_settings : Settings
no_settings = record { life = None; limits = no_limits }

-- nothing is under way, and nothing was
abbrev pub nothing_under_way : TimeLimits → UnderWay
nothing_under_way limits = record {
  link = no_link;
  to_start = [];
  started = [];
  verifications = [];
  confirmations = [];
  last_job = 0;
  limits = limits;
  second = 0;
}

-- the agent before its first event, with these settings
abbrev pub first_state : Settings → State
first_state settings = record {
  held = no_keys settings.life;
  under_way = nothing_under_way settings.limits;
  ports = [];
  last_port = 0;
  moment = record { mono = 0; wall = 0 };
}

-- a port that has sent nothing yet
abbrev pub new_port : ℕ → Door → Port
new_port number door = record {
  number = number;
  door = door;
  heard = [];
  owed = [];
  chain = [];
  attempted = false;
  waits = Nothing;
}

-- ---- ports

-- the number of a port
abbrev pub number_of : Port → ℕ
number_of port = port.number

-- the open port of this number
abbrev pub find_port : ℕ → List Port → Option Port
find_port number ports = find_by number_of number ports

-- the ports, that of this number changed by f
abbrev pub change_port : ℕ → (Port → Port) → List Port → List Port
change_port number f ports = change_by number_of number f ports

-- the ports but for that of this number
abbrev pub remove_port : ℕ → List Port → List Port
remove_port number ports = remove_by number_of number ports

-- the numbers of the ports
abbrev pub numbers : List Port → List ℕ
numbers ports = map number_of ports

-- a port of this number is open
abbrev pub is_open : ℕ → State → Bool
is_open number state = is_some (find_port number state.ports)

-- ---- who is at a port

-- a client, a child process that hasn't named itself, the helper, or the confirmer of a
-- confirmation
pub data Role : Type 0 where
  Client : Role
  Unnamed : Role
  Helper : Role
  Confirmer : (confirmation : Confirmation) → Role

-- a child process that isn't the helper is a confirmer where a confirmation is linked to its port
abbrev pub role_by_link : Option Confirmation → Role
role_by_link None = Unnamed
role_by_link (Some confirmation) = Confirmer confirmation

-- the helper is at this port
abbrev pub is_linked_to : ℕ → LinkState → Bool
is_linked_to number (states.Linked port) = port == number
is_linked_to number other = false

-- a child process, by whether it is the helper
abbrev pub role_by_helper : Bool → ℕ → List Confirmation → Role
role_by_helper true number confirmations = Helper
role_by_helper false number confirmations = role_by_link (find_linked number confirmations)

-- who is at a port, by its door and by what is under way
abbrev pub role_of : Door → ℕ → UnderWay → Role
role_of Clients number under_way = Client
role_of Children number under_way =
    role_by_helper (is_linked_to number under_way.link.state) number under_way.confirmations

-- whether the port counts as a client
abbrev pub is_client : Door → Bool
is_client Clients = true
is_client Children = false

-- how many clients are open
abbrev pub client_count : List Port → ℕ
client_count [] = 0
client_count (port ∷ ports) =
    if is_client port.door then suc (client_count ports) else client_count ports

-- a child process that hasn't named itself
abbrev pub is_unnamed : Role → Bool
is_unnamed Unnamed = true
is_unnamed other = false

-- how many child processes are open that haven't named themselves
abbrev pub unnamed_count : UnderWay → List Port → ℕ
unnamed_count under_way [] = 0
unnamed_count under_way (port ∷ ports) =
    if is_unnamed (role_of port.door port.number under_way)
    then suc (unnamed_count under_way ports) else unnamed_count under_way ports

-- ---- what is heard and owed at a port, wherever it stands

-- what a port is owed, by who is at it
abbrev pub owed_as : Role → Port → UnderWay → List ℕ
owed_as Client port under_way = port.owed
owed_as Unnamed port under_way = []
owed_as Helper port under_way = sendable under_way.link.state under_way.link.owed
owed_as (Confirmer confirmation) port under_way = confirmation.owed

-- what an open port is owed
abbrev pub owed_by_port : Port → UnderWay → List ℕ
owed_by_port port under_way = owed_as (role_of port.door port.number under_way) port under_way

-- what a port is owed: nothing where none is open
abbrev pub owed_by : Option Port → UnderWay → List ℕ
owed_by None under_way = []
owed_by (Some port) under_way = owed_by_port port under_way

-- what the port of this number is owed
abbrev pub owed_of : ℕ → State → List ℕ
owed_of number state = owed_by (find_port number state.ports) state.under_way

-- what was heard at a port and not taken, by who is at it
abbrev pub heard_as : Role → Port → UnderWay → List ℕ
heard_as Client port under_way = port.heard
heard_as Unnamed port under_way = port.heard
heard_as Helper port under_way = under_way.link.heard
heard_as (Confirmer confirmation) port under_way = confirmation.heard

-- what was heard at the port of this number and not taken
abbrev pub heard_by : Option Port → UnderWay → List ℕ
heard_by None under_way = []
heard_by (Some port) under_way = heard_as (role_of port.door port.number under_way) port under_way

-- what was heard at the port of this number of a state, and not taken
abbrev pub heard_of : ℕ → State → List ℕ
heard_of number state = heard_by (find_port number state.ports) state.under_way

-- whether any bytes are there
abbrev pub is_some_bytes : List ℕ → Bool
is_some_bytes bytes = nat_lt 0 (length bytes)

-- the first of these ports above this number that is owed bytes
abbrev pub next_owed_in : ℕ → List Port → UnderWay → Option ℕ
next_owed_in after [] under_way = None
next_owed_in after (port ∷ ports) under_way =
    if nat_lt after port.number && is_some_bytes (owed_by_port port under_way)
    then Some port.number else next_owed_in after ports under_way

-- the least open port above this number that is owed bytes
abbrev pub next_owed : ℕ → State → Option ℕ
next_owed after state = next_owed_in after state.ports state.under_way

-- ---- what the agent tells

-- the bytes may be the front of a request that isn't whole
abbrev pub is_more : Front → Bool
is_more (Whole body_len) = false
is_more (Bad announced) = false
is_more More = true

-- a client waits for no answer, and has taken every reply
abbrev pub is_settled : Waits → List ℕ → Bool
is_settled Nothing owed = not (is_some_bytes owed)
is_settled (OnAsk ask) owed = false
is_settled (OnConfirmation job) owed = false

-- a client is read until a request of it is whole, and one that isn't settled only while nothing of
-- its next request has come; a child process always
abbrev pub wants_more : Door → Bool → List ℕ → Bool
wants_more Clients settled heard =
    is_more (front longest_body heard) && (settled || not (is_some_bytes heard))
wants_more Children settled heard = true

-- the port is to be read
abbrev pub wants_by : Option Port → Bool
wants_by None = false
wants_by (Some port) =
    wants_more port.door (is_settled port.waits port.owed) port.heard

-- the port of this number is to be read
abbrev pub wants : ℕ → State → Bool
wants number state = wants_by (find_port number state.ports)

-- the jobs that wait to be started
abbrev pub starts : State → List Job
starts state = state.under_way.to_start

-- the second at which a wait that began then has lasted its limit: one that the clock doesn't come
-- to counts as never
abbrev pub limit_from : Option ℕ → Option ℕ → Option ℕ
limit_from (Some limit) (Some since) = on_clock (Some (since + limit))
limit_from limit since = None

-- the second of a job's confirmation
abbrev pub second_of : ℕ × ℕ → ℕ
second_of one = one.1

-- when something under way has been waited for as long as it may be
abbrev pub next_limit : UnderWay → Option ℕ
next_limit under_way = earlier (limit_from under_way.limits.ask (oldest under_way.link.asks))
    (limit_from under_way.limits.confirmation
    (option_map second_of (oldest_confirmation under_way.confirmations)))

-- when the next identity dies, or a limit is reached
abbrev pub next_due : State → Option ℕ
next_due state = earlier (next_death state.held.table.identities) (next_limit state.under_way)

-- ---- which events may come

-- the number of a job
abbrev pub job_number : Job → ℕ
job_number job = job.number

-- the job of this number
abbrev pub find_to_start : ℕ → List Job → Option Job
find_to_start number jobs = find_by job_number number jobs

-- the event may come in this state
abbrev pub Fits : Happening → State → Type 0
Fits (Joined door) state = state.last_port < 2 ^ 64 - 1
Fits (Heard port piece) state = IsSome (find_port port state.ports) × (0 < length piece)
Fits (Ended port) state = IsSome (find_port port state.ports)
Fits (Took port count) state = (0 < count) × (count ≤ length (owed_of port state))
Fits (Started job ticket) state = IsSome (find_to_start job (starts state))
Fits (StartFailed job) state = IsSome (find_to_start job (starts state))
Fits Tick state = Unit {0}
