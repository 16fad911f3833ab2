-- Records stay indexed after a removal.
use Rattle.std.proofs.Common.{◌≡◌, ◌≢◌, ℕ, ◌+◌, ◌<◌, List, Some, None, ◌⊎◌, inl, inr, refl, sym, ap, subst, ◌∙◌, arith}
use Rattle.std.specs.Ordering.{nat_cmp}
use Rattle.std.specs.BTreeMap.{BTreeMap, IsOrdered, is_at, values}
use Rattle.std.specs.Map.{remove_entry, values_of}
use Rattle.std.proofs.lemmas.Bool.{cases_eq}
use Rattle.identity_table.specs.Identities.{HeldKey, IsSound, answer_len, entry_len, find_identity, has_blob, kept_by, kept_if, kept_len, remove_identity, taken_by}
use Rattle.identity_table.specs.Indices.{IsChanged, IsIndexed, blob_key, death_key, held, held_at, key_if, number_key, place_of_blob, place_of_death, place_of_number}
use Rattle.identity_table.specs.declared.records.Records.{Records}
use Rattle.identity_table.proofs.FindLemmas.{only_blob}
use Rattle.identity_table.proofs.Theorems.{IsSound-remove}
use Rattle.identity_table.proofs.UpdateLemmas.{IsInverse-changed, same_some, told_bytes, told_numbers, told_pairs, unchanged}
use Rattle.identity_table.proofs.AdditionLemmas.{same_bytes}
use Rattle.identity_table.proofs.ChangeLemmas.{keys-changed}
use Rattle.identity_table.proofs.IndexLemmas.{entry_at}
use Rattle.identity_table.proofs.KeptLemmas.{kept_len-removed}
use Rattle.identity_table.proofs.RecordLemmas.{entries_len-removed, values-remove}

-- the list after it
pub held-removed : (old : Records) (new : BTreeMap ℕ HeldKey) (place : ℕ) (one : HeldKey) → IsIndexed old → held_at old place ≡ Some one →
    new.entries ≡ remove_entry (is_at (nat_cmp place)) old.places.entries →
    values new ≡ remove_identity one.blob (held old)
unfolding remove_identity
held-removed old new place one indexed at entries =
    ap values_of entries
    ∙ values-remove (is_at (nat_cmp place)) (has_blob one.blob) old.places.entries one
    (only_blob one.blob (held old) indexed.sound.blobs) at (same_bytes one.blob one.blob refl)

-- and the indices
pub IsIndexed-removed : (old new : Records) (place : ℕ) (one : HeldKey) → IsIndexed old → held_at old place ≡ Some one →
    IsOrdered nat_cmp new.places → new.places.entries ≡ remove_entry (is_at (nat_cmp place)) old.places.entries →
    IsChanged (held_at old) (Some place) None (held_at new) →
    IsChanged (place_of_blob old) (Some one.blob) None (place_of_blob new) →
    IsChanged (place_of_number old) (Some one.number) None (place_of_number new) →
    IsChanged (place_of_death old) (death_key one) None (place_of_death new) →
    new.listed + entry_len one ≡ old.listed → new.kept + kept_by one ≡ old.kept → new.last ≡ old.last → IsIndexed new
IsIndexed-removed old new place one indexed at order entries places blobs numbers deaths listed kept last =
    let all : held new ≡ remove_identity one.blob (held old) = held-removed old new.places place one indexed at entries in
    let taken : taken_by (find_identity one.blob (held old)) ≡ entry_len one = ap taken_by (entry_at old indexed place one at) in
    let free : kept_if (find_identity one.blob (held old)) ≡ kept_by one = ap kept_if (entry_at old indexed place one at) in
    record {
      order = order;
      blobs = IsInverse-changed told_bytes (λ p. key_if blob_key (held_at old p)) (λ p. key_if blob_key (held_at new p))
          (place_of_blob old) (place_of_blob old) (place_of_blob new) place (Some one.blob) None (ap (key_if blob_key) at)
          (keys-changed blob_key (held_at old) (held_at new) place None places) (unchanged (place_of_blob old) (Some place)) blobs
          (λ key is. absurd cc) indexed.blobs;
      numbers = IsInverse-changed told_numbers (λ p. key_if number_key (held_at old p)) (λ p. key_if number_key (held_at new p))
          (place_of_number old) (place_of_number old) (place_of_number new) place (Some one.number) None (ap (key_if number_key) at)
          (keys-changed number_key (held_at old) (held_at new) place None places) (unchanged (place_of_number old) (Some place)) numbers
          (λ key is. absurd cc) indexed.numbers;
      deaths = IsInverse-changed told_pairs (λ p. key_if death_key (held_at old p)) (λ p. key_if death_key (held_at new p))
          (place_of_death old) (place_of_death old) (place_of_death new) place (death_key one) None (ap (key_if death_key) at)
          (keys-changed death_key (held_at old) (held_at new) place None places) (unchanged (place_of_death old) (Some place)) deaths
          (λ key is. absurd cc) indexed.deaths;
      within = λ other beyond. within_by other (subst (λ (n : ℕ). n < other) last beyond) (cases_eq place other);
      listed = omega (arith, listed, indexed.listed, entries_len-removed one.blob (held old), taken, ap answer_len all);
      kept = omega (arith, kept, indexed.kept, kept_len-removed one.blob (held old), free, ap kept_len all);
      sound = subst (λ (n : ℕ). IsSound (held new) n) (sym last)
          (subst (λ (keys : List HeldKey). IsSound keys old.last) (sym all)
          (IsSound-remove one.blob (held old) old.last indexed.sound));
    }
  where
    within_by : (other : ℕ) → old.last < other → (place ≡ other) ⊎ (place ≢ other) → held_at new other ≡ None
    within_by other beyond (inl same) = places.here other (ap (λ (p : ℕ). Some p) same)
    within_by other beyond (inr differs) =
        places.apart other (λ e. differs (same_some place other e)) ∙ indexed.within other beyond
