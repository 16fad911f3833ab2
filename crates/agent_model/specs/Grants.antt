-- What becomes of who waits for the user (ours).
use Rattle.std.specs.Prelude.{◌≡◌, ◌⊎◌, ℕ, List, [], ◌∷◌}
use Rattle.agent_model.specs.Actions.{Action, Asked, Asking, Granted, Over}
use Rattle.agent_model.specs.Fates.{IsTold}
use Rattle.agent_model.specs.State.{OnAsk, OnConfirmation, Port}
use Rattle.agent_model.specs.Verdicts.{Awaits, Cause, NotConfirmed, Refuses}

-- the action is one of these
abbrev pub IsAmong : Action → List Action → Type 0
IsAmong action [] = ⊥
IsAmong action (first ∷ later) = (first ≡ action) ⊎ IsAmong action later

-- a client that waited for the confirmation of this job, after an event with these actions: it goes
-- on waiting where that didn't end, and is told SSH_AGENT_FAILURE where it ended without consent;
-- at consent it waits for the ask that is put for it, or is told SSH_AGENT_FAILURE
pub data IsAgreed (number job : ℕ) (actions : List Action) (ports : List Port) : Type 0 where
  unagreed : (IsAmong (Granted job) actions → ⊥) → (IsAmong (Over job) actions → ⊥)
      → IsTold number (Awaits (OnConfirmation job)) ports → IsAgreed number job actions ports
  disagreed : IsAmong (Over job) actions → IsTold number (Refuses NotConfirmed) ports
      → IsAgreed number job actions ports
  agreed : (asking : Asking) → IsAmong (Granted job) actions → IsAmong (Asked asking) actions
      → asking.port ≡ number → IsTold number (Awaits (OnAsk asking.ask)) ports
      → IsAgreed number job actions ports
  ungranted : (cause : Cause) → IsAmong (Granted job) actions → IsTold number (Refuses cause) ports
      → IsAgreed number job actions ports
