-- Records stay indexed after an addition behind the others.
use Rattle.std.proofs.Common.{◌≡◌, ℕ, ◌+◌, ◌<◌, ◌≤◌, true, false, List, length, Option, Some, None, IsSome, IfSome, ◌⊎◌, inl, inr, sym, ap, subst, ◌∙◌, arith}
use Rattle.std.specs.Ordering.{nat_cmp}
use Rattle.std.specs.BTreeMap.{BTreeMap, IsOrdered, insert_entry, values}
use Rattle.std.specs.Map.{values_of}
use Rattle.std.proofs.lemmas.Bool.{cases_lt}
use Rattle.identity_table.specs.Deaths.{on_clock}
use Rattle.identity_table.specs.Identities.{HeldKey, IsSound, answer_len, entry_len, find_identity, is_full, kept_by, kept_if, kept_len, longest_private, put_identity, taken_by}
use Rattle.identity_table.specs.Indices.{IsChanged, IsIndexed, blob_key, death_key, held, held_at, key_if, number_key, place_of_blob, place_of_death, place_of_number}
use Rattle.identity_table.specs.declared.records.Records.{Records}
use Rattle.identity_table.proofs.Theorems.{IsSound-put}
use Rattle.identity_table.proofs.UpdateLemmas.{IsInverse-changed, same_some, told_bytes, told_numbers, told_pairs, unchanged}
use Rattle.identity_table.proofs.AdditionLemmas.{entries_len-put, put_identity-none}
use Rattle.identity_table.proofs.ChangeLemmas.{keys-changed}
use Rattle.identity_table.proofs.IndexLemmas.{blob_none, next_death_is_free, next_is_free}
use Rattle.identity_table.proofs.KeptLemmas.{kept_len-put, not_full}
use Rattle.identity_table.proofs.RecordLemmas.{values-push}

-- the list after it
pub held-pushed : (old : Records) (new : BTreeMap ℕ HeldKey) (one : HeldKey) → IsIndexed old → place_of_blob old one.blob ≡ None →
    one.number ≡ old.last + 1 → new.entries ≡ insert_entry nat_cmp old.places.entries one.number one →
    values new ≡ put_identity one (held old)
held-pushed old new one indexed none number entries =
    ap values_of entries
    ∙ values-push one.number one old.places.entries (λ other is. beyond other (cases_lt old.last other) is)
    ∙ sym (put_identity-none one (held old) (blob_none old indexed one.blob none))
  where
    beyond : (other : ℕ) → (old.last < other) ⊎ (other ≤ old.last) → IsSome (held_at old other) → other < one.number
    beyond other (inr up) is = omega (arith, up, number)
    beyond other (inl past) is = absurd (no (subst (λ (f : Option HeldKey). IsSome f) (indexed.within other past) is))
      where
        no : false ≡ true → ⊥
        no e = absurd cc

-- and the indices
pub IsIndexed-pushed : (old new : Records) (one : HeldKey) → IsIndexed old → place_of_blob old one.blob ≡ None →
    one.number ≡ old.last + 1 → is_full (put_identity one (held old)) ≡ false → length one.private ≤ longest_private → IfSome one.uses (λ uses. 1 ≤ uses) →
    IsOrdered nat_cmp new.places → new.places.entries ≡ insert_entry nat_cmp old.places.entries one.number one →
    IsChanged (held_at old) (Some one.number) (Some one) (held_at new) →
    IsChanged (place_of_blob old) (Some one.blob) (Some one.number) (place_of_blob new) →
    IsChanged (place_of_number old) (Some one.number) (Some one.number) (place_of_number new) →
    IsChanged (place_of_death old) (death_key one) (Some one.number) (place_of_death new) →
    new.listed ≡ old.listed + entry_len one → new.kept ≡ old.kept + kept_by one → new.last ≡ one.number → IsIndexed new
IsIndexed-pushed old new one indexed none number fits short usable order entries places blobs numbers deaths listed kept last =
    let all : held new ≡ put_identity one (held old) = held-pushed old new.places one indexed none number entries in
    let empty : held_at old one.number ≡ None = indexed.within one.number (omega (arith, number)) in
    let taken : taken_by (find_identity one.blob (held old)) ≡ 0 = ap taken_by (blob_none old indexed one.blob none) in
    let free : kept_if (find_identity one.blob (held old)) ≡ 0 = ap kept_if (blob_none old indexed one.blob none) in
    let room = not_full (put_identity one (held old)) fits in
    let next : new.last ≡ old.last + 1 = last ∙ number in
    record {
      order = order;
      blobs = IsInverse-changed told_bytes (λ p. key_if blob_key (held_at old p)) (λ p. key_if blob_key (held_at new p))
          (place_of_blob old) (place_of_blob new) (place_of_blob new) one.number None (Some one.blob) (ap (key_if blob_key) empty)
          (keys-changed blob_key (held_at old) (held_at new) one.number (Some one) places) blobs (unchanged (place_of_blob new) None)
          (λ key is. ap (place_of_blob old) (sym (same_some one.blob key is)) ∙ none) indexed.blobs;
      numbers = IsInverse-changed told_numbers (λ p. key_if number_key (held_at old p)) (λ p. key_if number_key (held_at new p))
          (place_of_number old) (place_of_number new) (place_of_number new) one.number None (Some one.number) (ap (key_if number_key) empty)
          (keys-changed number_key (held_at old) (held_at new) one.number (Some one) places) numbers (unchanged (place_of_number new) None)
          (λ key is. ap (place_of_number old) (sym (same_some one.number key is)) ∙ next_is_free old indexed one.number number) indexed.numbers;
      deaths = IsInverse-changed told_pairs (λ p. key_if death_key (held_at old p)) (λ p. key_if death_key (held_at new p))
          (place_of_death old) (place_of_death new) (place_of_death new) one.number None (death_key one) (ap (key_if death_key) empty)
          (keys-changed death_key (held_at old) (held_at new) one.number (Some one) places) deaths (unchanged (place_of_death new) None)
          (λ key is. next_death_is_free old indexed one.number (on_clock one.death) number key is) indexed.deaths;
      within = λ other beyond. places.apart other (λ e. absurd (omega (arith, same_some one.number other e, beyond, last)))
          ∙ indexed.within other (omega (arith, beyond, next));
      listed = omega (arith, listed, indexed.listed, entries_len-put one (held old), taken, ap answer_len all);
      kept = omega (arith, kept, indexed.kept, kept_len-put one (held old), free, ap kept_len all);
      sound = subst (λ (n : ℕ). IsSound (held new) n) (sym next)
          (subst (λ (keys : List HeldKey). IsSound keys (old.last + 1)) (sym all)
          (IsSound-put one (held old) old.last number room.0 room.1 short usable indexed.sound));
    }
