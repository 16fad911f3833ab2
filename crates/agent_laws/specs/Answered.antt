-- A client gets the helper's answer to its own request (ours). It is said over any list of events, cut at any place.
use Rattle.std.specs.Prelude.{◌≡◌, ◌≢◌, ◌+◌, ◌-◌, ◌^◌, min, ℕ, List, ◌∷◌, ◌++◌, None, Some, Ok}
use Rattle.std.specs.List.{sum_by}
use Rattle.world_ports.specs.declared.Door.TheVariants.{Children}
use Rattle.world_ports.specs.declared.JobKind.TheVariants.{Helper}
use Rattle.wire_text.specs.Bounds.{longest_body}
use Rattle.wire_text.specs.Frames.{Whole, after_front, front, front_body}
use Rattle.child_msg.specs.Messages.{Hello}
use Rattle.child_msg.specs.Reading.{from_child_of}
use Rattle.confirm_desk.specs.Confirmations.{find_linked}
use Rattle.helper_link.specs.HelperLink.{HelperLink}
use Rattle.helper_link.specs.Telling.{telling}
use Rattle.helper_link.specs.declared.answer.Answer.{Answer}
use Rattle.helper_link.specs.declared.state.LinkState.TheVariants as states
use Rattle.agent_model.specs.Actions.{Action, Asked, Asking, Lost, Outcome}
use Rattle.agent_model.specs.Consents.{find_started}
use Rattle.agent_model.specs.Events.{Ended, Happening, Heard, Timed, Took}
use Rattle.agent_model.specs.Fates.{Fate, Gets, IsTold, NoneEnds, Unanswered, actions_of, fate_of, fate_verdict, fault_fate, or_later, settled_fate}
use Rattle.agent_model.specs.Grants.{IsAmong}
use Rattle.agent_model.specs.Runs.{run}
use Rattle.agent_model.specs.State.{OnAsk, Port, StartedJob, State, find_port}
use Rattle.agent_model.specs.Step.{step}
use Rattle.agent_model.specs.Time.{at_moment, time_passes}
use Rattle.agent_model.specs.Verdicts.{Awaits}

-- the client of this port is open, waits for the ask of this number, and is owed nothing
abbrev pub WaitsFor : ℕ → ℕ → State → Type 0
WaitsFor number ask state = IsTold number (Awaits (OnAsk ask)) state.ports

-- ---- the helper's stream

-- a child process that is nobody yet names itself as the helper by these bytes, its first: a HELLO with the number and the
-- ticket of a job that was started for a helper; this is what stands behind it
pub record IsHello (number : ℕ) (heard rest : List ℕ) (state : State) : Type 0 where
  pub unlinked : state.under_way.link.state ≢ states.Linked number
  pub free : find_linked number state.under_way.confirmations ≡ None
  pub body_len : ℕ
  pub whole : front longest_body heard ≡ Whole body_len
  pub behind : rest ≡ after_front body_len heard
  pub job : ℕ
  pub ticket : List ℕ
  pub hello : from_child_of (front_body body_len heard) ≡ Ok (Hello job ticket)
  pub one : StartedJob
  pub started : find_started job state.under_way.started ≡ Some one
  pub kind : one.job.kind ≡ Helper
  pub same : one.ticket ≡ ticket

-- the event brings these bytes of the helper's stream: a piece at the helper's port, or what a piece has behind the HELLO
-- by which the helper names itself
pub data Says (state : State) : Happening → List ℕ → Type 0 where
  goes_on : (number : ℕ) (piece : List ℕ) (port : Port) → find_port number state.ports ≡ Some port
      → port.door ≡ Children → state.under_way.link.state ≡ states.Linked number
      → Says state (Heard number piece) piece
  begins : (number : ℕ) (piece rest : List ℕ) (port : Port) → find_port number state.ports ≡ Some port
      → port.door ≡ Children → IsHello number (port.heard ++ piece) rest state
      → Says state (Heard number piece) rest

-- what bytes of the helper's stream make of an ask, behind what was heard before: the first answer to it counts, up to the
-- first fault
abbrev pub said_fate : ℕ → List ℕ → HelperLink → Fate
said_fate ask said link =
    or_later (settled_fate ask (telling said link).settled) (fault_fate (telling said link).fault)

-- ---- losses

-- whether an action is the loss of the helper, as 1 or 0
abbrev pub loses_by : Action → ℕ
loses_by Lost = 1
loses_by other = 0

-- how often the helper is lost
abbrev pub times_lost : List Action → ℕ
times_lost actions = sum_by loses_by actions

-- ---- the law

-- what an event with this outcome says of who waits, where it comes at a state that its moment leaves as another, by these
-- early actions. Whoever waited is told the helper's answer to its ask as the helper gave it, or of the loss of the helper,
-- or goes on waiting. The answer is the first one to this ask in a piece of the linked helper, up to the first fault in it.
-- Behind an ask that is put its client waits for it. Behind what the moment itself brings, bytes of the helper's stream make
-- of an ask what they say, and no other event brings an answer
pub record IsAnsweredBy (before opened : State) (event : Happening) (early : List Action) (outcome : Outcome) : Type 0 where
  pub told : (number ask : ℕ) → WaitsFor number ask before → event ≢ Ended number
      → ((count : ℕ) → event ≢ Took number count)
      → IsTold number (fate_verdict (fate_of ask outcome.actions) ask) outcome.state.ports
  pub stream : (number ask : ℕ) (piece : List ℕ) (port : Port) → event ≡ Heard number piece
      → find_port number opened.ports ≡ Some port → port.door ≡ Children
      → opened.under_way.link.state ≡ states.Linked number
      → fate_of ask outcome.actions ≡ said_fate ask piece before.under_way.link
  pub asked : (asking : Asking) → IsAmong (Asked asking) outcome.actions
      → WaitsFor asking.port asking.ask outcome.state
  pub said : (ask : ℕ) (bytes : List ℕ) → Says opened event bytes
      → fate_of ask outcome.actions ≡ or_later (fate_of ask early) (said_fate ask bytes opened.under_way.link)
  pub only : (ask : ℕ) (answer : Answer) → fate_of ask outcome.actions ≡ Gets answer
      → (bytes : List ℕ) × Says opened event bytes

-- whoever waits for an ask waits for it, owed nothing, until an event answers the ask or loses the helper. Whoever is owed
-- nothing takes nothing, so that no event says that it did. The count of link faults is how often the helper was lost, up to
-- 2^64 - 1
pub record IsAnswered (first : State) (events : List Timed) : Type 0 where
  pub waits : (before later : List Timed) (number ask : ℕ) (port : Port) → before ++ later ≡ events
      → find_port number (run first before).ports ≡ Some port → port.waits ≡ OnAsk ask
      → WaitsFor number ask (run first before)
  pub until : (before middle later : List Timed) (number ask : ℕ) → before ++ (middle ++ later) ≡ events
      → WaitsFor number ask (run first before) → NoneEnds number middle
      → fate_of ask (actions_of (run first before) middle) ≡ Unanswered
      → WaitsFor number ask (run (run first before) middle)
  pub steps : (before : List Timed) (one : Timed) (later : List Timed) → before ++ one ∷ later ≡ events
      → IsAnsweredBy (run first before) (at_moment one.moment (run first before)) one.event
      (time_passes one.moment (run first before)).actions (step (run first before) one.moment one.event)
  pub faults : (before later : List Timed) → before ++ later ≡ events → (run first before).under_way.link.faults
      ≡ min (first.under_way.link.faults + times_lost (actions_of first before)) (2 ^ 64 - 1)
