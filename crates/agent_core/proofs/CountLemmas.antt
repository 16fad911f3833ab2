-- How many ports there are of a kind.
use Rattle.std.proofs.Common.{arith, ◌≡◌, ◌≤◌, ℕ, suc, List, [], ◌∷◌, length, filter, refl, ap, Bool, true, false, if◌then◌else◌}
use Rattle.agent_model.specs.State.{UnderWay, client_count, is_client, is_unnamed, role_of, unnamed_count}
use Rattle.agent_core.specs.declared.slot.Slot.{Slot}
use Rattle.agent_core.specs.Slots.{ports_of}

-- a count goes on where the test says so
count_on : {A : Type 0} (test : Bool) (x : A) (xs : List A) (count : ℕ) → count ≡ length xs → (if test then suc count else count) ≡ length (if test then x ∷ xs else xs)
count_on true x xs count is = ap suc is
count_on false x xs count is = is

pub clients_counted : (slots : List Slot) → client_count (ports_of slots) ≡ length (filter (λ (slot : Slot). is_client slot.door) slots)
clients_counted [] = refl
clients_counted (slot ∷ slots) = count_on (is_client slot.door) slot (filter (λ (s : Slot). is_client s.door) slots) (client_count (ports_of slots)) (clients_counted slots)

pub unnamed_counted : (slots : List Slot) (going : UnderWay) → unnamed_count going (ports_of slots) ≡ length (filter (λ (slot : Slot). is_unnamed (role_of slot.door slot.number going)) slots)
unnamed_counted [] going = refl
unnamed_counted (slot ∷ slots) going =
    count_on (is_unnamed (role_of slot.door slot.number going)) slot (filter (λ (s : Slot). is_unnamed (role_of s.door s.number going)) slots) (unnamed_count going (ports_of slots)) (unnamed_counted slots going)

-- no more pass a test than there are
pub few_filtered : {A : Type 0} (p : A → Bool) (xs : List A) → length (filter p xs) ≤ length xs
few_filtered p [] = omega arith
few_filtered p (x ∷ xs) = by_test (p x) (few_filtered p xs)
  where
    by_test : (test : Bool) → length (filter p xs) ≤ length xs → length (if test then x ∷ filter p xs else filter p xs) ≤ suc (length xs)
    by_test true few = omega (arith, few)
    by_test false few = omega (arith, few)
