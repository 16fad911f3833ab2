-- What waits for the user's consent is no longer than a client's message.
use Rattle.std.proofs.Common.{◌≡◌, ℕ, ◌≤◌, Bool, true, false, cond, eqb, List, [], ◌∷◌, ◌++◌, length, Some, subst}
use Rattle.std.proofs.lemmas.Option.{none-some, same_Some}
use Rattle.confirm_desk.specs.Confirmations.{Confirmation, change_job, find_job, remove_job}
use Rattle.wire_text.specs.Bounds.{longest_body}
use Rattle.under_way.specs.Parts.{AreShort}

pub short_at : (job : ℕ) (desk : List Confirmation) (one : Confirmation) → AreShort desk → find_job job desk ≡ Some one → length one.message ≤ longest_body
short_at job [] one short found = absurd (none-some one found)
short_at job (first ∷ others) one short found = by (eqb first.job job) found (short_at job others one short.1)
  where
    by : (here : Bool) → cond here (Some first) (find_job job others) ≡ Some one → (find_job job others ≡ Some one → length one.message ≤ longest_body) →
        length one.message ≤ longest_body
    by true some later = subst (λ (c : Confirmation). length c.message ≤ longest_body) (same_Some first one some) short.0
    by false some later = later some

pub short-push : (desk : List Confirmation) (new : Confirmation) → AreShort desk → length new.message ≤ longest_body → AreShort (desk ++ new ∷ [])
short-push [] new short one = (one, tt)
short-push (first ∷ others) new short one = (short.0, short-push others new short.1 one)

pub short-change : (job : ℕ) (f : Confirmation → Confirmation) (desk : List Confirmation) → ((c : Confirmation) → (f c).message ≡ c.message) → AreShort desk →
    AreShort (change_job job f desk)
short-change job f [] keeps short = tt
short-change job f (first ∷ others) keeps short = by (eqb first.job job) (short-change job f others keeps short.1)
  where
    by : (here : Bool) → AreShort (change_job job f others) → AreShort (cond here (f first ∷ others) (first ∷ change_job job f others))
    by true later = (rw (keeps first) short.0, short.1)
    by false later = (short.0, later)

pub short-remove : (job : ℕ) (desk : List Confirmation) → AreShort desk → AreShort (remove_job job desk)
short-remove job [] short = tt
short-remove job (first ∷ others) short = by (eqb first.job job) (short-remove job others short.1)
  where
    by : (here : Bool) → AreShort (remove_job job others) → AreShort (cond here others (first ∷ remove_job job others))
    by true later = short.1
    by false later = (short.0, later)
