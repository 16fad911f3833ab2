-- Records that stay indexed where nothing is changed, and without identities.
use Rattle.std.proofs.Common.{◌≡◌, ℕ, ◌<◌, List, [], Option, Some, None, sym, ap, subst, ◌∙◌}
use Rattle.std.specs.Ordering.{nat_cmp}
use Rattle.std.specs.BTreeMap.{is_at}
use Rattle.std.specs.List.Sorted.{IsStrictlySortedBy}
use Rattle.std.specs.Map.{keys_of, lookup, values_of}
use Rattle.std.specs.Cmp.Lexicographic.{slice_cmp}
use Rattle.identity_table.specs.Identities.{HeldKey, IsSound, answer_len, entries_len, kept_len}
use Rattle.identity_table.specs.Indices.{IsChanged, IsIndexed, blob_key, death_cmp, death_key, held, held_at, key_if, number_key, place_of_blob, place_of_death, place_of_number}
use Rattle.identity_table.specs.declared.records.Records.{Records}
use Rattle.identity_table.proofs.KeptLemmas.{kept_len-none}
use Rattle.identity_table.proofs.Theorems.{IsSound-none}
use Rattle.identity_table.proofs.UpdateLemmas.{IsInverse-same, none_is_not}

-- what is found at each place changes with what stands there
pub keys-changed : {K : Type 0} (key_of : HeldKey → Option K) (old new : ℕ → Option HeldKey) (place : ℕ) (value : Option HeldKey) →
    IsChanged old (Some place) value new →
    IsChanged (λ p. key_if key_of (old p)) (Some place) (key_if key_of value) (λ p. key_if key_of (new p))
keys-changed key_of old new place value change = record {
  here = λ one is. ap (key_if key_of) (change.here one is);
  apart = λ other differs. ap (key_if key_of) (change.apart other differs);
}

-- ---- without a change

-- where each index finds the same, all stays
pub IsIndexed-same : (old new : Records) → IsIndexed old → new.places.entries ≡ old.places.entries →
    ((key : List ℕ) → place_of_blob new key ≡ place_of_blob old key) →
    ((key : ℕ) → place_of_number new key ≡ place_of_number old key) →
    ((key : ℕ × ℕ) → place_of_death new key ≡ place_of_death old key) →
    new.listed ≡ old.listed → new.kept ≡ old.kept → new.last ≡ old.last → IsIndexed new
IsIndexed-same old new indexed same blobs numbers deaths listed kept last =
    let at : (place : ℕ) → held_at new place ≡ held_at old place =
    λ place. ap (lookup (is_at (nat_cmp place))) same in
    let all : held new ≡ held old = ap values_of same in
    record {
      order = subst (λ (es : List (ℕ × HeldKey)). IsStrictlySortedBy nat_cmp (keys_of es)) (sym same) indexed.order;
      blobs = IsInverse-same (λ place. key_if blob_key (held_at old place)) (λ place. key_if blob_key (held_at new place))
          (place_of_blob old) (place_of_blob new) (λ place. ap (key_if blob_key) (at place)) blobs indexed.blobs;
      numbers = IsInverse-same (λ place. key_if number_key (held_at old place)) (λ place. key_if number_key (held_at new place))
          (place_of_number old) (place_of_number new) (λ place. ap (key_if number_key) (at place)) numbers indexed.numbers;
      deaths = IsInverse-same (λ place. key_if death_key (held_at old place)) (λ place. key_if death_key (held_at new place))
          (place_of_death old) (place_of_death new) (λ place. ap (key_if death_key) (at place)) deaths indexed.deaths;
      within = λ place beyond. at place ∙ indexed.within place (subst (λ (n : ℕ). n < place) last beyond);
      listed = listed ∙ indexed.listed ∙ ap answer_len (sym all);
      kept = kept ∙ indexed.kept ∙ ap kept_len (sym all);
      sound = subst (λ (n : ℕ). IsSound (held new) n) (sym last)
          (subst (λ (keys : List HeldKey). IsSound keys old.last) (sym all) indexed.sound);
    }

-- ---- no identities

pub IsIndexed-none : (new : Records) → new.places.entries ≡ [] → new.blobs.entries ≡ [] → new.numbers.entries ≡ [] →
    new.deaths.entries ≡ [] → new.listed ≡ 5 → new.kept ≡ 0 → IsIndexed new
unfolding IsStrictlySortedBy entries_len
IsIndexed-none new places blobs numbers deaths listed kept =
    let at : (place : ℕ) → held_at new place ≡ None = λ place. ap (lookup (is_at (nat_cmp place))) places in
    record {
      order = subst (λ (es : List (ℕ × HeldKey)). IsStrictlySortedBy nat_cmp (keys_of es)) (sym places) tt;
      blobs = record {
        held = λ key place is. none_is_not (place_of_blob new key) place (ap (lookup (is_at (λ k. slice_cmp nat_cmp key k.items))) blobs) is;
        found = λ place key is. none_is_not (key_if blob_key (held_at new place)) key (ap (key_if blob_key) (at place)) is;
      };
      numbers = record {
        held = λ key place is. none_is_not (place_of_number new key) place (ap (lookup (is_at (nat_cmp key))) numbers) is;
        found = λ place key is. none_is_not (key_if number_key (held_at new place)) key (ap (key_if number_key) (at place)) is;
      };
      deaths = record {
        held = λ key place is. none_is_not (place_of_death new key) place (ap (lookup (is_at (death_cmp key))) deaths) is;
        found = λ place key is. none_is_not (key_if death_key (held_at new place)) key (ap (key_if death_key) (at place)) is;
      };
      within = λ place beyond. at place;
      listed = listed ∙ ap answer_len (sym (ap values_of places));
      kept = kept ∙ sym (ap kept_len (ap values_of places) ∙ kept_len-none);
      sound = subst (λ (keys : List HeldKey). IsSound keys new.last) (sym (ap values_of places)) (IsSound-none new.last);
    }
