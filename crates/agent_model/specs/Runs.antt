-- Events one after another, each at its moment (ours).
use Rattle.std.specs.Prelude.{◌≡◌, ℕ, suc, ◌^◌, ◌<◌, length, List, [], ◌∷◌, ◌++◌, map}
use Rattle.world_ports.specs.declared.Moment.{Moment}
use Rattle.wire_text.specs.Wire.{IsBytes}
use Rattle.agent_model.specs.Events.{Happening, Timed, Joined, Heard, Ended, Took, Started, StartFailed, Tick}
use Rattle.agent_model.specs.Actions.{Action, Outcome}
use Rattle.agent_model.specs.State.{Fits, State}
use Rattle.agent_model.specs.Step.{step}

-- the number of the last port after an event: one more where a port joined
abbrev pub last_after : Happening → ℕ → ℕ
last_after (Joined door) last = suc last
last_after other last = last

-- the state that these events lead to, the first one first
abbrev pub run : State → List Timed → State
run state [] = state
run state (timed ∷ later) = run (step state timed.moment timed.event).state later

-- what came of each event, in order
abbrev pub outcomes : State → List Timed → List Outcome
outcomes state [] = []
outcomes state (timed ∷ later) =
    step state timed.moment timed.event ∷ outcomes (step state timed.moment timed.event).state later

-- an action and the moment of its event, as the agent took it in
pub record Stamped : Type 0 where
  pub moment : Moment
  pub action : Action

-- the actions of an event, each with its moment
abbrev pub stamped : Outcome → List Stamped
stamped outcome =
    map (λ action. record { moment = outcome.state.moment; action = action }) outcome.actions

-- all actions of these events, the oldest first, each with its moment
abbrev pub history : State → List Timed → List Stamped
history state [] = []
history state (timed ∷ later) =
    stamped (step state timed.moment timed.event)
    ++ history (step state timed.moment timed.event).state later

-- each event may come in the state that those before it lead to
abbrev pub AllFit : State → List Timed → Type 0
AllFit state [] = Unit {0}
AllFit state (timed ∷ later) =
    Fits timed.event state × AllFit (step state timed.moment timed.event).state later

-- ---- what the numbers of events may be, by their types

-- bytes are below 256, a ticket has 16 of them, and each other number has 64 bits
abbrev pub IsInRange : Happening → Type 0
IsInRange (Joined door) = Unit {0}
IsInRange (Heard port piece) = (port < 2 ^ 64) × IsBytes piece
IsInRange (Ended port) = port < 2 ^ 64
IsInRange (Took port count) = (port < 2 ^ 64) × (count < 2 ^ 64)
IsInRange (Started job ticket) = (job < 2 ^ 64) × IsBytes ticket × (length ticket ≡ 16)
IsInRange (StartFailed job) = job < 2 ^ 64
IsInRange Tick = Unit {0}

-- an event and its moment have numbers of their types
pub record IsTimed (timed : Timed) : Type 0 where
  pub event : IsInRange timed.event
  pub mono : timed.moment.mono < 2 ^ 64
  pub wall : timed.moment.wall < 2 ^ 64

-- each of these events and its moment have numbers of their types
abbrev pub AreInRange : List Timed → Type 0
AreInRange [] = Unit {0}
AreInRange (timed ∷ later) = IsTimed timed × AreInRange later
