-- Actions one after another: what is among them, and what they leave of a confirmation.
use Rattle.std.proofs.Common.{◌≡◌, ℕ, List, [], ◌∷◌, ◌++◌, refl, ◌⊎◌, Option, inl, inr}
use Rattle.agent_model.specs.Actions.{Action, Answered, Asked, Granted, Lost, Over, Proved, Raised, Raising, Requested}
use Rattle.agent_model.specs.Grants.{IsAmong}
use Rattle.agent_model.proofs.ActionLemmas.{ArePlain}
use Rattle.agent_laws.specs.Grants.{pending_after, pending_by, times_ended, times_raised}

-- ---- among others

-- what is among both is among one of them
pub among-either : (action : Action) (some more : List Action) → IsAmong action (some ++ more)
    → IsAmong action some ⊎ IsAmong action more
among-either action [] more among = inr among
among-either action (one ∷ some) more (inl same) = inl (inl same)
among-either action (one ∷ some) more (inr later) = by_either (among-either action some more later)
  where
    by_either : IsAmong action some ⊎ IsAmong action more
        → ((one ≡ action) ⊎ IsAmong action some) ⊎ IsAmong action more
    by_either (inl there) = inl (inr there)
    by_either (inr there) = inr there

-- ---- plain actions

-- they leave what is waited for
pub pending-plain : (job : ℕ) (actions : List Action) (before : Option Raising) → ArePlain actions
    → pending_after job actions before ≡ before
pending-plain job [] before plain = refl
pending-plain job (Requested requesting ∷ later) before plain =
    pending-plain job later before plain.1
pending-plain job (Asked asking ∷ later) before plain = pending-plain job later before plain.1
pending-plain job (Answered one ∷ later) before plain = pending-plain job later before plain.1
pending-plain job (Proved proving ∷ later) before plain = pending-plain job later before plain.1
pending-plain job (Raised raising ∷ later) before plain = absurd plain.0
pending-plain job (Granted other ∷ later) before plain = absurd plain.0
pending-plain job (Over other ∷ later) before plain = absurd plain.0
pending-plain job (Lost ∷ later) before plain = pending-plain job later before plain.1

pub ended-plain : (job : ℕ) (actions : List Action) → ArePlain actions
    → (times_ended job actions ≡ 0) × (times_raised job actions ≡ 0)
ended-plain job [] plain = (refl, refl)
ended-plain job (Requested requesting ∷ later) plain = ended-plain job later plain.1
ended-plain job (Asked asking ∷ later) plain = ended-plain job later plain.1
ended-plain job (Answered one ∷ later) plain = ended-plain job later plain.1
ended-plain job (Proved proving ∷ later) plain = ended-plain job later plain.1
ended-plain job (Raised raising ∷ later) plain = absurd plain.0
ended-plain job (Granted other ∷ later) plain = absurd plain.0
ended-plain job (Over other ∷ later) plain = absurd plain.0
ended-plain job (Lost ∷ later) plain = ended-plain job later plain.1

-- actions one after another
pub pending-append : (job : ℕ) (some more : List Action) (before : Option Raising)
    → pending_after job (some ++ more) before ≡ pending_after job more (pending_after job some before)
pending-append job [] more before = refl
pending-append job (action ∷ some) more before =
    pending-append job some more (pending_by job action before)
