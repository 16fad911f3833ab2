-- What holds between the open ports and the unanswered asks, so that the loss of the helper wants no memory (ours).
use Rattle.std.specs.Prelude.{◌≡◌, ℕ, ◌-◌, ◌^◌, ◌<◌, List, [], ◌∷◌, Option, Some, None, IsSome}
use Rattle.wire_text.specs.Frames.{Whole}
use Rattle.helper_link.specs.Sound.{RiseTo}
use Rattle.agent_model.specs.Looks.{due}
use Rattle.agent_model.specs.Events.{Happening, Joined, Heard, Ended, Took, Started, StartFailed, Tick}
use Rattle.agent_model.specs.Sound.{AreJudged, AreTied, IsJudged, IsTied}
use Rattle.agent_model.specs.State.{Client, Confirmer, Helper, Port, Role, Settings, State, UnderWay, Unnamed, change_port, find_port, find_to_start, next_due, role_of}
use Rattle.agent_model.specs.Step.{took_some}
use Rattle.confirm_desk.specs.Confirmations.{Confirmation, find_job}
use Rattle.agent_model.specs.Asking.{IsAttended}
use Rattle.agent_core.specs.Confirmers.{IsHeldFor}
use Rattle.agent_core.specs.Parts.{settings_in}
use Rattle.agent_model.specs.Verdicts.{HelperLost, Refuses, tell}

-- the numbers of the unanswered asks rise, who waits is tied to them, and what they verify is judged as it was
pub record IsBound (ports : List Port) (going : UnderWay) : Type 0 where
  pub order : RiseTo 0 going.link.asks going.link.last
  pub tied : AreTied ports going.link.asks
  pub judged : AreJudged ports going.verifications going.link.asks

-- each of these clients is owed nothing when it is told that the helper is lost
abbrev pub AreSilent : List ℕ → List Port → Type 0
AreSilent [] ports = Unit {0}
AreSilent (asker ∷ others) ports =
    ((port : Port) → find_port asker ports ≡ Some port → port.owed ≡ [])
    × AreSilent others (change_port asker (tell (Refuses HelperLost)) ports)

-- the agent between two events: who waits is tied to the asks and the confirmations, whose clients and child processes
-- are open, and what is verified is judged as it was; and what is under way was brought to the moment's second
pub record IsAtRest (state : State) : Type 0 where
  pub tied : IsTied state
  pub attended : IsAttended state
  pub judged : IsJudged state
  pub second : state.under_way.second ≡ state.moment.mono

-- so is the agent, which was started with these settings, and this is the first second at which something ends by itself
pub record IsCurrent (settings : Settings) (second : Option ℕ) (state : State) : Type 0 where
  pub rest : IsAtRest state
  pub started : settings ≡ settings_in state
  pub next : second ≡ next_due state

-- the client of each confirmation is open, and owed nothing
abbrev pub AreHeldFor : List Confirmation → List Port → Type 0
AreHeldFor confirmations ports =
    (job : ℕ) (one : Confirmation) → find_job job confirmations ≡ Some one → IsHeldFor one ports

-- what stays of an event's fitting when its moment was taken in: its port may have been closed by that
abbrev pub StillFits : Happening → State → Type 0
StillFits (Joined door) state = state.last_port < 2 ^ 64 - 1
StillFits (Heard port piece) state = Unit {0}
StillFits (Ended port) state = Unit {0}
StillFits (Took port count) state = Unit {0}
StillFits (Started job ticket) state = IsSome (find_to_start job state.under_way.to_start)
StillFits (StartFailed job) state = IsSome (find_to_start job state.under_way.to_start)
StillFits Tick state = Unit {0}

-- ---- events that want no memory

-- by who is at the port: no request of a client is to be taken, since none is whole, or since it has to wait
abbrev pub HasNoRequest : Role → Port → Type 0
HasNoRequest Client port = (body_len : ℕ) → due port ≡ Whole body_len → ⊥
HasNoRequest Unnamed port = Unit {0}
HasNoRequest Helper port = Unit {0}
HasNoRequest (Confirmer confirmation) port = Unit {0}

-- so it is once so many of the bytes that the port is owed are sent; one that isn't open has no request
abbrev pub LeavesNoRequest : Option Port → ℕ → UnderWay → Type 0
LeavesNoRequest None count under_way = Unit {0}
LeavesNoRequest (Some port) count under_way =
    HasNoRequest (role_of port.door port.number under_way) (took_some count port)

-- the event wants no memory in this state, which its moment left: a port ends, one sent bytes and no request is taken
-- then, a child process was started or couldn't be, or nothing but the time
abbrev pub WantsNoMemory : State → Happening → Type 0
WantsNoMemory state (Joined door) = ⊥
WantsNoMemory state (Heard port piece) = ⊥
WantsNoMemory state (Ended port) = Unit {0}
WantsNoMemory state (Took port count) = LeavesNoRequest (find_port port state.ports) count state.under_way
WantsNoMemory state (Started job ticket) = Unit {0}
WantsNoMemory state (StartFailed job) = Unit {0}
WantsNoMemory state Tick = Unit {0}
