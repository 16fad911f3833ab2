-- The least port where bytes are owed.
use Rattle.std.proofs.Common.{◌≡◌, ℕ, ◌+◌, ◌<◌, ◌≤◌, List, length, get_or, drop, Option, Some, None, refl, sym, ap, ◌∙◌, arith}
use Rattle.std.proofs.lemmas.List.{drop_more, drop_all}
use Rattle.confirm_desk.specs.Calls.{lesser, next_owed, owed_port}
use Rattle.confirm_desk.specs.Confirmations.{Confirmation}

-- of three, the order of comparing makes no difference
lesser-assoc : (a b c : Option ℕ) → lesser (lesser a b) c ≡ lesser a (lesser b c)
lesser-assoc None b c = refl
lesser-assoc (Some a) None c = refl
lesser-assoc (Some a) (Some b) None = refl
lesser-assoc (Some a) (Some b) (Some c) = ap (λ (n : ℕ). Some n) (omega arith)

-- none is more than all
lesser-none : (a : Option ℕ) → lesser a None ≡ a
lesser-none None = refl
lesser-none (Some a) = refl

-- one confirmation more
pub least_goes_on : (after : ℕ) (all : List Confirmation) (i : ℕ) (least : Option ℕ) (one : Confirmation) → i < length all → one ≡ get_or all i one →
    lesser least (next_owed after (drop i all)) ≡ next_owed after all →
    lesser (lesser least (owed_port after one.port one.owed)) (next_owed after (drop (i + 1) all)) ≡ next_owed after all
least_goes_on after all i least one inside is so_far =
    let rest : Option ℕ = next_owed after (drop (i + 1) all) in
    lesser-assoc least (owed_port after one.port one.owed) rest
    ∙ ap (lesser least) (ap (λ (k : Confirmation). lesser (owed_port after k.port k.owed) rest) is ∙ sym (ap (next_owed after) (drop_more all i one inside)))
    ∙ so_far

-- behind the last, it is that of all
pub least_ends : (after : ℕ) (all : List Confirmation) (i : ℕ) (least : Option ℕ) → length all ≤ i →
    lesser least (next_owed after (drop i all)) ≡ next_owed after all → least ≡ next_owed after all
least_ends after all i least past so_far =
    sym (lesser-none least) ∙ ap (lesser least) (sym (ap (next_owed after) (drop_all i all past))) ∙ so_far
