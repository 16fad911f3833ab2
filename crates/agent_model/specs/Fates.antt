-- What becomes of what a client waits for: the helper answers its ask, or is lost (ours).
use Rattle.std.specs.Prelude.{◌≡◌, ℕ, List, [], ◌∷◌, ◌++◌, Option, Some, None, ◌==◌, if◌then◌else◌}
use Rattle.std.specs.List.{sum_by}
use Rattle.world_ports.specs.declared.Door.TheVariants.{Clients}
use Rattle.helper_link.specs.declared.answer.Answer.{Answer}
use Rattle.helper_link.specs.declared.answer.Answer.TheVariants as answer
use Rattle.helper_link.specs.declared.answer.Settled.{Settled}
use Rattle.helper_link.specs.declared.fault.LinkFault.{LinkFault}
use Rattle.agent_model.specs.Actions.{Action, Answered, Asked, Lost}
use Rattle.agent_model.specs.Events.{Timed, Ended}
use Rattle.agent_model.specs.State.{OnAsk, Port, State, find_port}
use Rattle.agent_model.specs.Step.{step}
use Rattle.agent_model.specs.Verdicts.{Awaits, HelperLost, HelperRefused, Refuses, Replies, Signature, SignatureWrong, Success, Verdict, verdict_text, verdict_waits}

-- ---- what became of an ask

-- it is unanswered, or was answered, or the helper was lost before
pub data Fate : Type 0 where
  Unanswered : Fate
  Gets : (answer : Answer) → Fate
  Fails : Fate

-- what an action is for the ask of this number
abbrev pub fate_in : ℕ → Action → Fate
fate_in ask (Answered one) = if one.ask == ask then Gets one.answer else Unanswered
fate_in ask Lost = Fails
fate_in ask other = Unanswered

-- of two fates of an ask the first that isn't open counts
abbrev pub or_later : Fate → Fate → Fate
or_later Unanswered later = later
or_later fate later = fate

-- what actions make of the ask of this number
abbrev pub fate_of : ℕ → List Action → Fate
fate_of ask [] = Unanswered
fate_of ask (action ∷ later) = or_later (fate_in ask action) (fate_of ask later)

-- what settlings of a piece of the helper's stream make of the ask of this number, in order
abbrev pub settled_fate : ℕ → List Settled → Fate
settled_fate ask [] = Unanswered
settled_fate ask (one ∷ later) = if one.ask == ask then Gets one.answer else settled_fate ask later

-- a fault of the helper's stream fails what it left unanswered
abbrev pub fault_fate : Option LinkFault → Fate
fault_fate None = Unanswered
fault_fate (Some fault) = Fails

-- ---- what its client is told

-- what a client is told of the helper's answer to its ask
abbrev pub answer_verdict : Answer → Verdict
answer_verdict (answer.Signed signature) = Replies (Signature signature)
answer_verdict answer.Refused = Refuses HelperRefused
answer_verdict answer.True = Replies Success
answer_verdict answer.False = Refuses SignatureWrong

-- what the client of the ask of this number is told
abbrev pub fate_verdict : Fate → ℕ → Verdict
fate_verdict Unanswered ask = Awaits (OnAsk ask)
fate_verdict (Gets answer) ask = answer_verdict answer
fate_verdict Fails ask = Refuses HelperLost

-- the client of this port is open, is owed what it is told by this and nothing else, and waits as
-- it says
pub record IsTold (number : ℕ) (verdict : Verdict) (ports : List Port) : Type 0 where
  pub port : Port
  pub found : find_port number ports ≡ Some port
  pub door : port.door ≡ Clients
  pub owed : port.owed ≡ verdict_text verdict
  pub waits : port.waits ≡ verdict_waits verdict

-- ---- over events

-- the actions of events, the oldest first
abbrev pub actions_of : State → List Timed → List Action
actions_of state [] = []
actions_of state (timed ∷ later) =
    (step state timed.moment timed.event).actions
    ++ actions_of (step state timed.moment timed.event).state later

-- the port stays, as far as its client is concerned
abbrev pub NoneEnds : ℕ → List Timed → Type 0
NoneEnds number [] = Unit {0}
NoneEnds number (timed ∷ later) = (timed.event ≡ Ended number → ⊥) × NoneEnds number later

-- whether an action answers the ask of this number, as 1 or 0
abbrev pub answers_by : ℕ → Action → ℕ
answers_by ask (Answered one) = if one.ask == ask then 1 else 0
answers_by ask other = 0

-- whether an action puts an ask under this number, as 1 or 0
abbrev pub asks_by : ℕ → Action → ℕ
asks_by ask (Asked asking) = if asking.ask == ask then 1 else 0
asks_by ask other = 0

-- how often the ask of this number is answered, and how often one is put under it
abbrev pub times_answered : ℕ → List Action → ℕ
times_answered ask actions = sum_by (answers_by ask) actions

-- how often an ask is put under this number
abbrev pub times_asked : ℕ → List Action → ℕ
times_asked ask actions = sum_by (asks_by ask) actions
