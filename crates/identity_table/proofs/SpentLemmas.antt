-- Records stay indexed after a use.
use Rattle.std.proofs.Common.{◌≡◌, ◌≢◌, ℕ, ◌+◌, ◌<◌, Bool, true, false, cond, eqb, List, [], ◌∷◌, Option, Some, None, ◌⊎◌, inl, inr, refl, sym, ap, subst, ◌∙◌, arith}
use Rattle.std.specs.List.{find}
use Rattle.std.specs.Ordering.{nat_cmp}
use Rattle.std.specs.BTreeMap.{BTreeMap, IsOrdered, is_at, values}
use Rattle.std.specs.Map.{lookup, set_value, values_of}
use Rattle.std.proofs.lemmas.Bool.{cases_eq}
use Rattle.lists.specs.Firsts.{IsOnly}
use Rattle.lists.specs.Keyed.{has_key}
use Rattle.identity_table.specs.Identities.{HeldKey, IsSound, entries_len, find_number, in_front, kept_len, number_of, spend_identity, used_by}
use Rattle.identity_table.specs.Indices.{IsChanged, IsIndexed, blob_key, death_key, held, held_at, key_if, number_key, place_of_blob, place_of_death, place_of_number}
use Rattle.identity_table.specs.declared.records.Records.{Records}
use Rattle.identity_table.proofs.KeptLemmas.{kept_len-left}
use Rattle.identity_table.proofs.NumberLemmas.{only_number}
use Rattle.identity_table.proofs.UpdateLemmas.{IsInverse-same, none_is_not, same_some}
use Rattle.identity_table.proofs.RecordLemmas.{found_at}
use Rattle.identity_table.proofs.SpendLemmas.{IsSound-spend, entries_len-left, only_uses}

-- an identity has its own number
own_number : (one : HeldKey) → has_key number_of one.number one ≡ true
own_number one = grind arith

-- with less uses it stands where it stood
pub values-spent : (at : ℕ → Bool) (number : ℕ) (es : List (ℕ × HeldKey)) (one after : HeldKey) →
    IsOnly (has_key number_of number) (values_of es) → lookup at es ≡ Some one → has_key number_of number one ≡ true →
    used_by one.uses one ≡ Some after → values_of (set_value at es after) ≡ spend_identity number (values_of es)
unfolding spend_identity
values-spent at number [] one after only there passes is = absurd cc
values-spent at number (e ∷ es) one after only there passes is =
    by_tests (at e.0) (eqb e.1.number number) refl only.0 there
    (λ later. found_at at (has_key number_of number) es one only.1 later passes)
    (λ later. values-spent at number es one after only.1 later passes is)
  where
    by_tests : (here test : Bool) → eqb e.1.number number ≡ test →
        (eqb e.1.number number ≡ true → find (has_key number_of number) (values_of es) ≡ None) →
        cond here (Some e.1) (lookup at es) ≡ Some one →
        (lookup at es ≡ Some one → find (has_key number_of number) (values_of es) ≡ Some one) →
        (lookup at es ≡ Some one → values_of (set_value at es after) ≡ spend_identity number (values_of es)) →
        values_of (cond here ((e.0, after) ∷ es) (e ∷ set_value at es after))
        ≡ cond test (in_front (used_by e.1.uses e.1) (values_of es)) (e.1 ∷ spend_identity number (values_of es))
    by_tests true true has behind found later rest =
        let left : used_by e.1.uses e.1 ≡ Some after = ap (λ (k : HeldKey). used_by k.uses k) (same_some e.1 one found) ∙ is in
        rw left refl
    by_tests true false has behind found later rest =
        let yes : eqb e.1.number number ≡ true =
        ap (λ (k : HeldKey). eqb k.number number) (same_some e.1 one found) ∙ passes in
        absurd cc
    by_tests false true has behind found later rest =
        none_is_not (find (has_key number_of number) (values_of es)) one (behind has) (later found)
    by_tests false false has behind found later rest =
        ap (λ (keys : List HeldKey). e.1 ∷ keys) (rest found)

-- a use of what stands at a place leaves the records with what is left of it there
pub held-spent : (old : Records) (new : BTreeMap ℕ HeldKey) (place : ℕ) (one after : HeldKey) → IsIndexed old →
    held_at old place ≡ Some one → used_by one.uses one ≡ Some after →
    new.entries ≡ set_value (is_at (nat_cmp place)) old.places.entries after →
    values new ≡ spend_identity one.number (held old)
held-spent old new place one after indexed at is entries =
    ap values_of entries
    ∙ values-spent (is_at (nat_cmp place)) one.number old.places.entries one after
    (only_number one.number old.last (held old) indexed.sound.numbers) at (own_number one) is

-- what stands at a place is found by its number
pub number_at : (records : Records) → IsIndexed records → (place : ℕ) (one : HeldKey) →
    held_at records place ≡ Some one → find_number one.number (held records) ≡ Some one
unfolding find_number
number_at records indexed place one at =
    found_at (is_at (nat_cmp place)) (has_key number_of one.number) records.places.entries one
    (only_number one.number records.last (held records) indexed.sound.numbers) at (own_number one)

-- and the indices
pub IsIndexed-spent : (old new : Records) (place : ℕ) (one after : HeldKey) → IsIndexed old → held_at old place ≡ Some one →
    used_by one.uses one ≡ Some after → IsOrdered nat_cmp new.places →
    new.places.entries ≡ set_value (is_at (nat_cmp place)) old.places.entries after →
    IsChanged (held_at old) (Some place) (Some after) (held_at new) →
    ((key : List ℕ) → place_of_blob new key ≡ place_of_blob old key) →
    ((key : ℕ) → place_of_number new key ≡ place_of_number old key) →
    ((key : ℕ × ℕ) → place_of_death new key ≡ place_of_death old key) →
    new.listed ≡ old.listed → new.kept ≡ old.kept → new.last ≡ old.last → IsIndexed new
IsIndexed-spent old new place one after indexed at is order entries places blobs numbers deaths listed kept last =
    let all : held new ≡ spend_identity one.number (held old) = held-spent old new.places place one after indexed at is entries in
    let len : entries_len (spend_identity one.number (held old)) ≡ entries_len (held old) =
    entries_len-left one.number (held old) one after (number_at old indexed place one at) is in
    let room : kept_len (spend_identity one.number (held old)) ≡ kept_len (held old) =
    kept_len-left one.number (held old) one after (number_at old indexed place one at) is in
    let same : after ≡ record one { uses = after.uses } = only_uses one.uses one after is in
    record {
      order = order;
      blobs = IsInverse-same (λ p. key_if blob_key (held_at old p)) (λ p. key_if blob_key (held_at new p))
          (place_of_blob old) (place_of_blob new)
          (λ other. by_place blob_key (ap blob_key same) other (cases_eq place other)) blobs indexed.blobs;
      numbers = IsInverse-same (λ p. key_if number_key (held_at old p)) (λ p. key_if number_key (held_at new p))
          (place_of_number old) (place_of_number new)
          (λ other. by_place number_key (ap number_key same) other (cases_eq place other)) numbers indexed.numbers;
      deaths = IsInverse-same (λ p. key_if death_key (held_at old p)) (λ p. key_if death_key (held_at new p))
          (place_of_death old) (place_of_death new)
          (λ other. by_place death_key (ap death_key same) other (cases_eq place other)) deaths indexed.deaths;
      within = λ other beyond. within_by other (subst (λ (n : ℕ). n < other) last beyond) (cases_eq place other);
      listed = listed ∙ indexed.listed ∙ ap (λ (n : ℕ). 5 + n) (sym (ap entries_len all ∙ len));
      kept = kept ∙ indexed.kept ∙ sym (ap kept_len all ∙ room);
      sound = subst (λ (n : ℕ). IsSound (held new) n) (sym last)
          (subst (λ (keys : List HeldKey). IsSound keys old.last) (sym all)
          (IsSound-spend one.number old.last (held old) indexed.sound));
    }
  where
    by_place : {K : Type 0} (key_of : HeldKey → Option K) → key_of after ≡ key_of one → (other : ℕ) →
        (place ≡ other) ⊎ (place ≢ other) →
        key_if key_of (held_at new other) ≡ key_if key_of (held_at old other)
    by_place key_of same other (inl here) =
        ap (key_if key_of) (places.here other (ap (λ (p : ℕ). Some p) here))
        ∙ same
        ∙ sym (ap (key_if key_of) (ap (held_at old) (sym here) ∙ at))
    by_place key_of same other (inr apart) =
        ap (key_if key_of) (places.apart other (λ e. apart (same_some place other e)))

    within_by : (other : ℕ) → old.last < other → (place ≡ other) ⊎ (place ≢ other) → held_at new other ≡ None
    within_by other beyond (inl here) =
        none_is_not (held_at old place) one (ap (held_at old) here ∙ indexed.within other beyond) at
    within_by other beyond (inr apart) =
        places.apart other (λ e. apart (same_some place other e)) ∙ indexed.within other beyond
