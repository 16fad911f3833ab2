-- The queue of deaths: its first is the first death of what is held.
use Rattle.std.proofs.Common.{◌≡◌, ℕ, ◌<◌, ◌≤◌, Bool, true, false, List, [], ◌∷◌, length, Option, Some, None, IsSome, refl, sym, ap, subst, ◌∙◌, arith}
use Rattle.std.specs.Ordering.{is_gt, nat_cmp}
use Rattle.std.specs.BTreeMap.{is_at}
use Rattle.std.specs.Map.{lookup}
use Rattle.std.proofs.lemmas.List.Elements.{recursion_from_All}
use Rattle.identity_table.specs.Deaths.{on_clock}
use Rattle.identity_table.specs.Identities.{HeldKey, next_death}
use Rattle.identity_table.specs.Indices.{IsIndexed, death_by, death_cmp, death_key, held, held_at, key_if, place_of_death}
use Rattle.identity_table.specs.declared.records.Records.{Records}
use Rattle.identity_table.proofs.UpdateLemmas.{none_is_not, same_some}
use Rattle.identity_table.proofs.DeathLemmas.{IsFrom, first-from, first-is, first-none, first-upto}
use Rattle.identity_table.proofs.IndexLemmas.{there}
use Rattle.identity_table.proofs.RecordLemmas.{all_held}

-- a death in the queue is an identity's
pub death_found : (records : Records) → IsIndexed records → (death number place : ℕ) →
    place_of_death records (death, number) ≡ Some place →
    (one : HeldKey) × (held_at records place ≡ Some one) × (on_clock one.death ≡ Some death)
death_found records indexed death number place is =
    let at = there death_key (held_at records place) (death, number) (indexed.deaths.held (death, number) place is) in
    (at.0, at.1, second_in (on_clock at.0.death) at.0.number (death, number) at.2)
  where
    second_in : (d : Option ℕ) (n : ℕ) (k : ℕ × ℕ) → death_by d n ≡ Some k → d ≡ Some k.0
    second_in None n k e = absurd cc
    second_in (Some d) n k e = ap (λ (p : ℕ × ℕ). Some p.0) (same_some (d, n) k e)

-- the least death of the queue is the first
pub first_is_next : (records : Records) → IsIndexed records → (death number place : ℕ) →
    place_of_death records (death, number) ≡ Some place →
    ((key : ℕ × ℕ) → IsSome (place_of_death records key) → is_gt (death_cmp (death, number) key) ≡ false) →
    next_death (held records) ≡ Some death
first_is_next records indexed death number place is least =
    let at = death_found records indexed death number place is in
    first-is death (next_death (held records))
    (first-upto (is_at (nat_cmp place)) records.places.entries at.0 death at.1 at.2)
    (first-from death (held records)
    (recursion_from_All (λ (one : HeldKey). IsFrom death (on_clock one.death)) (held records)
    (all_held (λ (one : HeldKey). IsFrom death (on_clock one.death)) records.places indexed.order
    (λ other one found. by_death (on_clock one.death) one.number
    (λ key has. subst (λ (p : Option ℕ). IsSome p) (sym (indexed.deaths.found other key (ap (key_if death_key) found ∙ has))) refl)))))
  where
    not_before : (other n : ℕ) → is_gt (death_cmp (death, number) (other, n)) ≡ false → death ≤ other
    not_before other n least = grind (arith, least)

    by_death : (d : Option ℕ) (n : ℕ) →
        ((key : ℕ × ℕ) → death_by d n ≡ Some key → IsSome (place_of_death records key)) → IsFrom death d
    by_death None n in_queue = tt
    by_death (Some d) n in_queue = not_before d n (least (d, n) (in_queue (d, n) refl))

-- where the queue is empty, none dies
pub none_is_next : (records : Records) → IsIndexed records →
    ((key : ℕ × ℕ) → place_of_death records key ≡ None) → next_death (held records) ≡ None
none_is_next records indexed none =
    first-none (held records)
    (recursion_from_All (λ (one : HeldKey). on_clock one.death ≡ None) (held records)
    (all_held (λ (one : HeldKey). on_clock one.death ≡ None) records.places indexed.order
    (λ place one at. by_death place (on_clock one.death) one.number
    (λ key has. indexed.deaths.found place key (ap (key_if death_key) at ∙ has)))))
  where
    by_death : (place : ℕ) (d : Option ℕ) (n : ℕ) →
        ((key : ℕ × ℕ) → death_by d n ≡ Some key → place_of_death records key ≡ Some place) → d ≡ None
    by_death place None n in_queue = refl
    by_death place (Some d) n in_queue =
        none_is_not (place_of_death records (d, n)) place (none (d, n)) (in_queue (d, n) refl)

-- an empty queue gives no place
pub empty_gives_none : {K X : Type 0} (test : K → Bool) (es : List (K × X)) → (0 < length es → false ≡ true) →
    lookup test es ≡ None
empty_gives_none test [] empty = refl
empty_gives_none test (e ∷ es) empty = absurd (no (empty (omega arith)))
  where
    no : false ≡ true → ⊥
    no is = absurd cc
