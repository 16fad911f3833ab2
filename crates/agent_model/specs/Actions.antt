-- What the agent did that a later reader of its history needs (ours).
use Rattle.std.specs.Prelude.{ℕ, List, [], ◌∷◌, ◌++◌, Option, None, is_some, if◌then◌else◌}
use Rattle.agent_msg.specs.Requests.{Signing}
use Rattle.child_msg.specs.Messages.{ToChildMessage}
use Rattle.helper_link.specs.declared.answer.Settled.{Settled}
use Rattle.dest_rule.specs.declared.binding.Binding.{Binding}
use Rattle.agent_model.specs.State.{Port, State, UnderWay, find_port}
use Rattle.agent_model.specs.Verdicts.{Verdict}

-- a request that was taken: who asked, its body, and what came of it
pub record Requesting : Type 0 where
  pub port : ℕ
  pub body : List ℕ
  pub verdict : Verdict

-- what an ask is for
pub data Purpose : Type 0 where
  ForSignature : (signing : Signing) → Purpose
  ForBinding : (binding : Binding) → Purpose

-- an ask that was put to the helper: its number, who asked, what for, and how many bytes its body has
pub record Asking : Type 0 where
  pub ask : ℕ
  pub port : ℕ
  pub purpose : Purpose
  pub size : ℕ

-- a binding whose signature the helper found right, and whose connection is open
pub record Proving : Type 0 where
  pub port : ℕ
  pub binding : Binding

-- a confirmation that the user was asked for: its job, who asked, the addition of the key, and what
-- is to be signed
pub record Raising : Type 0 where
  pub job : ℕ
  pub port : ℕ
  pub addition : ℕ
  pub signing : Signing

-- an action: `Granted` is the user's consent, `Over` another end of a confirmation, `Lost` the loss
-- of the helper
pub data Action : Type 0 where
  Requested : (requesting : Requesting) → Action
  Asked : (asking : Asking) → Action
  Answered : (settled : Settled) → Action
  Proved : (proving : Proving) → Action
  Raised : (raising : Raising) → Action
  Granted : (job : ℕ) → Action
  Over : (job : ℕ) → Action
  Lost : Action

-- the state that something leaves, the actions, oldest first, the messages that were put to the
-- helper, and the ports that were closed
pub record Outcome : Type 0 where
  pub state : State
  pub actions : List Action
  pub put : List ToChildMessage
  pub closes : List ℕ

-- the outcome of doing nothing
abbrev pub stay : State → Outcome
stay state = record { state = state; actions = []; put = []; closes = [] }

-- these actions led to the state, and nothing was put to the helper or closed
abbrev pub acted : List Action → State → Outcome
acted actions state = record { state = state; actions = actions; put = []; closes = [] }

-- the outcome of something done behind something else, both in one event
abbrev pub behind : Outcome → Outcome → Outcome
behind first later = record {
  state = later.state;
  actions = first.actions ++ later.actions;
  put = first.put ++ later.put;
  closes = first.closes ++ later.closes;
}

-- one thing, and then another in the state that it leaves
abbrev pub and_then : Outcome → (State → Outcome) → Outcome
and_then first next = behind first (next first.state)

-- the port of this number is closed, where it is among the open ones, and then these
abbrev pub closing : ℕ → List Port → List ℕ → List ℕ
closing number ports later = if is_some (find_port number ports) then number ∷ later else later

-- what the caller of the agent sees of an event: the state that it leaves, and the ports that it
-- closed, rising
pub record Stepped : Type 0 where
  pub state : State
  pub closes : List ℕ

-- what the caller of the agent sees of an event with this outcome
abbrev pub stepped : Outcome → Stepped
stepped outcome = record { state = outcome.state; closes = outcome.closes }

-- what comes of a request, or of a grant, of what is under way; and the addition whose identity was
-- used for it, where one was
pub record Work : Type 0 where
  pub under_way : UnderWay
  pub verdict : Verdict
  pub actions : List Action
  pub put : List ToChildMessage
  pub used : Option ℕ

-- nothing more is under way, and the client is told this
abbrev pub settles : Verdict → UnderWay → Work
settles verdict under_way =
    record { under_way = under_way; verdict = verdict; actions = []; put = []; used = None }
