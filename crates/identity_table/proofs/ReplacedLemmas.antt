-- Records stay indexed after a replacement.
use Rattle.std.proofs.Common.{◌≡◌, ◌≢◌, ℕ, ◌+◌, ◌<◌, ◌≤◌, false, List, length, Some, None, IfSome, ◌⊎◌, inl, inr, sym, ap, subst, ◌∙◌, arith}
use Rattle.std.specs.Ordering.{nat_cmp}
use Rattle.std.specs.BTreeMap.{BTreeMap, IsOrdered, insert_entry, values}
use Rattle.std.specs.Map.{values_of}
use Rattle.std.proofs.lemmas.Bool.{cases_eq}
use Rattle.identity_table.specs.Deaths.{on_clock}
use Rattle.identity_table.specs.Identities.{HeldKey, IsSound, answer_len, entry_len, find_identity, is_full, kept_by, kept_if, kept_len, longest_private, put_identity, taken_by}
use Rattle.identity_table.specs.Indices.{IsChanged, IsIndexed, blob_key, death_key, held, held_at, key_if, number_key, place_of_blob, place_of_death, place_of_number}
use Rattle.identity_table.specs.declared.records.Records.{Records}
use Rattle.identity_table.proofs.FindLemmas.{only_blob}
use Rattle.identity_table.proofs.Theorems.{IsSound-put}
use Rattle.identity_table.proofs.UpdateLemmas.{IsInverse-changed, IsInverse-same, none_is_not, same_some, told_numbers, told_pairs}
use Rattle.identity_table.proofs.AdditionLemmas.{entries_len-put, same_bytes}
use Rattle.identity_table.proofs.ChangeLemmas.{keys-changed}
use Rattle.identity_table.proofs.IndexLemmas.{blob_at, entry_at, next_death_is_free, next_is_free}
use Rattle.identity_table.proofs.KeptLemmas.{kept_len-put, not_full}
use Rattle.identity_table.proofs.RecordLemmas.{values-replace}

-- the list after it
pub held-replaced : (old : Records) (new : BTreeMap ℕ HeldKey) (place : ℕ) (one was : HeldKey) → IsIndexed old →
    place_of_blob old one.blob ≡ Some place → held_at old place ≡ Some was →
    new.entries ≡ insert_entry nat_cmp old.places.entries place one →
    values new ≡ put_identity one (held old)
held-replaced old new place one was indexed is at entries =
    ap values_of entries
    ∙ values-replace place one was old.places.entries indexed.order (only_blob one.blob (held old) indexed.sound.blobs) at
    (same_bytes was.blob one.blob (blob_at old indexed place one.blob was is at))

-- and the indices
pub IsIndexed-replaced : (old mid new : Records) (place : ℕ) (one was : HeldKey) → IsIndexed old →
    place_of_blob old one.blob ≡ Some place → held_at old place ≡ Some was →
    one.number ≡ old.last + 1 → is_full (put_identity one (held old)) ≡ false → length one.private ≤ longest_private → IfSome one.uses (λ uses. 1 ≤ uses) →
    IsOrdered nat_cmp new.places → new.places.entries ≡ insert_entry nat_cmp old.places.entries place one →
    IsChanged (held_at old) (Some place) (Some one) (held_at new) →
    ((key : List ℕ) → place_of_blob new key ≡ place_of_blob old key) →
    IsChanged (place_of_number old) (Some one.number) (Some place) (place_of_number mid) →
    IsChanged (place_of_number mid) (Some was.number) None (place_of_number new) →
    IsChanged (place_of_death old) (death_key one) (Some place) (place_of_death mid) →
    IsChanged (place_of_death mid) (death_key was) None (place_of_death new) →
    new.listed + entry_len was ≡ old.listed + entry_len one → new.kept + kept_by was ≡ old.kept + kept_by one →
    new.last ≡ one.number → IsIndexed new
IsIndexed-replaced old mid new place one was indexed is at number fits short usable order entries places blobs numbers gone deaths dead listed kept last =
    let all : held new ≡ put_identity one (held old) = held-replaced old new.places place one was indexed is at entries in
    let same : was.blob ≡ one.blob = blob_at old indexed place one.blob was is at in
    let found : find_identity one.blob (held old) ≡ Some was =
    ap (λ (b : List ℕ). find_identity b (held old)) (sym same) ∙ entry_at old indexed place was at in
    let taken : taken_by (find_identity one.blob (held old)) ≡ entry_len was = ap taken_by found in
    let free : kept_if (find_identity one.blob (held old)) ≡ kept_by was = ap kept_if found in
    let room = not_full (put_identity one (held old)) fits in
    let next : new.last ≡ old.last + 1 = last ∙ number in
    record {
      order = order;
      blobs = IsInverse-same (λ p. key_if blob_key (held_at old p)) (λ p. key_if blob_key (held_at new p))
          (place_of_blob old) (place_of_blob new)
          (λ other. blob_by other same (cases_eq place other)) blobs indexed.blobs;
      numbers = IsInverse-changed told_numbers (λ p. key_if number_key (held_at old p)) (λ p. key_if number_key (held_at new p))
          (place_of_number old) (place_of_number mid) (place_of_number new) place (Some was.number) (Some one.number) (ap (key_if number_key) at)
          (keys-changed number_key (held_at old) (held_at new) place (Some one) places) numbers gone
          (λ key is. ap (place_of_number old) (sym (same_some one.number key is)) ∙ next_is_free old indexed one.number number) indexed.numbers;
      deaths = IsInverse-changed told_pairs (λ p. key_if death_key (held_at old p)) (λ p. key_if death_key (held_at new p))
          (place_of_death old) (place_of_death mid) (place_of_death new) place (death_key was) (death_key one) (ap (key_if death_key) at)
          (keys-changed death_key (held_at old) (held_at new) place (Some one) places) deaths dead
          (λ key is. next_death_is_free old indexed one.number (on_clock one.death) number key is) indexed.deaths;
      within = λ other beyond. within_by other (omega (arith, beyond, next)) (cases_eq place other);
      listed = omega (arith, listed, indexed.listed, entries_len-put one (held old), taken, ap answer_len all);
      kept = omega (arith, kept, indexed.kept, kept_len-put one (held old), free, ap kept_len all);
      sound = subst (λ (n : ℕ). IsSound (held new) n) (sym next)
          (subst (λ (keys : List HeldKey). IsSound keys (old.last + 1)) (sym all)
          (IsSound-put one (held old) old.last number room.0 room.1 short usable indexed.sound));
    }
  where
    blob_by : (other : ℕ) → was.blob ≡ one.blob → (place ≡ other) ⊎ (place ≢ other) →
        key_if blob_key (held_at new other) ≡ key_if blob_key (held_at old other)
    blob_by other same (inl here) =
        ap (key_if blob_key) (places.here other (ap (λ (p : ℕ). Some p) here))
        ∙ ap (λ (b : List ℕ). Some b) (sym same)
        ∙ sym (ap (key_if blob_key) (ap (held_at old) (sym here) ∙ at))
    blob_by other same (inr apart) =
        ap (key_if blob_key) (places.apart other (λ e. apart (same_some place other e)))

    within_by : (other : ℕ) → old.last < other → (place ≡ other) ⊎ (place ≢ other) → held_at new other ≡ None
    within_by other beyond (inl here) =
        none_is_not (held_at old place) was (ap (held_at old) here ∙ indexed.within other beyond) at
    within_by other beyond (inr apart) =
        places.apart other (λ e. apart (same_some place other e)) ∙ indexed.within other beyond
