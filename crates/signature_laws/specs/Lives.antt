-- What a helper is told and says from the loss of the one before it on, over any list of events (ours).
use Rattle.std.specs.Prelude.{◌≡◌, ◌≢◌, ℕ, zero, suc, List, [], ◌∷◌, ◌++◌}
use Rattle.world_ports.specs.declared.Moment.{Moment}
use Rattle.child_msg.specs.Messages.{FromChildMessage, Refused, Signed, ToChildMessage}
use Rattle.helper_link.specs.declared.answer.Answer.TheVariants as answer
use Rattle.dest_rule.specs.declared.binding.Binding.{Binding}
use Rattle.agent_model.specs.Actions.{Action, Asked, Asking, ForBinding, Lost, Outcome}
use Rattle.agent_model.specs.Events.{Ended, Happening, Timed, Took}
use Rattle.agent_model.specs.Fates.{Gets, IsTold, Unanswered, fate_of}
use Rattle.agent_model.specs.Grants.{IsAmong}
use Rattle.agent_model.specs.Runs.{Stamped, history, run}
use Rattle.agent_model.specs.State.{OnAsk, State}
use Rattle.agent_model.specs.Step.{handle, step}
use Rattle.agent_model.specs.Time.{at_moment, time_passes}
use Rattle.agent_model.specs.Verdicts.{Awaits, HelperLost, HelperRefused, Refuses, Replies, Signature, SignatureWrong, Success, Verdict}
use Rattle.agent_laws.specs.Answered.{Says, WaitsFor, times_lost}
use Rattle.signature_laws.specs.Signatures.{AreBySigner, IsOfItsAsk}
use Rattle.signature_laws.specs.Streams.{AreHeard}

-- ---- a helper's life

-- what was put to the helper and what it said behind its HELLO, both since the helper before it was lost, or since the
-- start: what is put before it joins is owed to it too
pub record Life : Type 0 where
  pub put : List ToChildMessage
  pub said : List ℕ

-- that of a helper to which nothing was put
abbrev pub new_life : Life
new_life = record { put = []; said = [] }

-- behind so many losses
abbrev pub behind_losses : ℕ → Life → Life
behind_losses zero life = life
behind_losses (suc more) life = new_life

-- the event brings these bytes of the helper's stream, which are none where it brings none
pub data Brings (state : State) (event : Happening) : List ℕ → Type 0 where
  some : (bytes : List ℕ) → Says state event bytes → Brings state event bytes
  none : ((bytes : List ℕ) → Says state event bytes → ⊥) → Brings state event []

-- a life as a moment that comes in this state leaves it
abbrev pub life_at : State → Moment → Life → Life
life_at state moment life = behind_losses (times_lost (time_passes moment state).actions) life

-- a life behind an event with this outcome that brings these bytes
abbrev pub life_after : Outcome → List ℕ → Life → Life
life_after outcome bytes life = behind_losses (times_lost outcome.actions)
    (record { put = life.put ++ outcome.put; said = life.said ++ bytes })

-- these events, the first of which comes in this state, lead from the first life to the second
pub data Lead : State → Life → List Timed → Life → Type 0 where
  stays : (state : State) (life : Life) → Lead state life [] life
  goes_on : (state : State) (life : Life) (one : Timed) (later : List Timed) (bytes : List ℕ) (last : Life)
      → Brings (at_moment one.moment state) one.event bytes
      → Lead (step state one.moment one.event).state
      (life_after (handle one.event (at_moment one.moment state)) bytes (life_at state one.moment life)) later last
      → Lead state life (one ∷ later) last

-- ---- the premise

-- what the helper of this life said up to these bytes is the first bytes of the frames of the signer's answers to what was
-- put in this life
pub record IsBySigner (life : Life) (bytes : List ℕ) : Type 0 where
  pub answers : List FromChildMessage
  pub by : AreBySigner life.put answers
  pub heard : AreHeard answers (life.said ++ bytes)

-- each helper is the signer: whatever an event brings of the stream of one goes on in this way with what this helper said
-- before, and answers what was put to it before
pub record AreSigners (first : State) (events : List Timed) : Type 0 where
  pub each : (before : List Timed) (one : Timed) (later : List Timed) (life : Life) (bytes : List ℕ)
      → before ++ one ∷ later ≡ events → Lead first new_life before life
      → Says (at_moment one.moment (run first before)) one.event bytes
      → IsBySigner (life_at (run first before) one.moment life) bytes

-- ---- the law

-- these actions tell that the ask of this number is for a binding, and for no signature
pub record IsForBinding (actions : List Stamped) (ask : ℕ) : Type 0 where
  pub earlier : List Stamped
  pub moment : Moment
  pub asking : Asking
  pub later : List Stamped
  pub told : actions ≡ earlier ++ record { moment = moment; action = Asked asking } ∷ later
  pub number : asking.ask ≡ ask
  pub binding : Binding
  pub purpose : asking.purpose ≡ ForBinding binding

-- what the client of the ask of this number may be told by an event with these actions, where those before it are these: the
-- signature of its message by its key, a refusal where there is none, whether the signature of a binding is right where the
-- ask is for one, SSH_AGENT_FAILURE as the helper was lost, and else nothing
pub data IsOwn (earlier : List Stamped) (actions : List Action) (ask : ℕ) : Verdict → Type 0 where
  signature : (text : List ℕ) → IsOfItsAsk earlier ask (Signed ask text) → IsOwn earlier actions ask (Replies (Signature text))
  refusal : IsOfItsAsk earlier ask (Refused ask) → IsOwn earlier actions ask (Refuses HelperRefused)
  right : IsForBinding earlier ask → IsOwn earlier actions ask (Replies Success)
  wrong : IsForBinding earlier ask → IsOwn earlier actions ask (Refuses SignatureWrong)
  loss : IsAmong Lost actions → IsOwn earlier actions ask (Refuses HelperLost)
  waits : fate_of ask actions ≡ Unanswered → IsOwn earlier actions ask (Awaits (OnAsk ask))

-- the client of this port is told one of these of its ask
pub record IsToldItsOwn (earlier : List Stamped) (outcome : Outcome) (number ask : ℕ) : Type 0 where
  pub verdict : Verdict
  pub told : IsTold number verdict outcome.state.ports
  pub own : IsOwn earlier outcome.actions ask verdict

-- a signature or a refusal that an event makes of an ask is that of an ask that was told before it, and so is what it tells
-- a client that waits
pub record AreSigned (first : State) (events : List Timed) : Type 0 where
  pub signed : (before : List Timed) (one : Timed) (later : List Timed) (ask : ℕ) (text : List ℕ)
      → before ++ one ∷ later ≡ events
      → fate_of ask (step (run first before) one.moment one.event).actions ≡ Gets (answer.Signed text)
      → IsOfItsAsk (history first before) ask (Signed ask text)
  pub refused : (before : List Timed) (one : Timed) (later : List Timed) (ask : ℕ) → before ++ one ∷ later ≡ events
      → fate_of ask (step (run first before) one.moment one.event).actions ≡ Gets answer.Refused
      → IsOfItsAsk (history first before) ask (Refused ask)
  pub told : (before : List Timed) (one : Timed) (later : List Timed) (number ask : ℕ) → before ++ one ∷ later ≡ events
      → WaitsFor number ask (run first before) → one.event ≢ Ended number
      → ((count : ℕ) → one.event ≢ Took number count)
      → IsToldItsOwn (history first before) (step (run first before) one.moment one.event) number ask
