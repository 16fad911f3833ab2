-- What the indices of a table find is what its list of identities says.
use Rattle.std.proofs.Common.{◌≡◌, ℕ, ◌+◌, ◌≤◌, true, false, List, Option, Some, None, IsSome, refl, sym, ap, ◌∙◌, arith}
use Rattle.std.specs.Ordering.{nat_cmp}
use Rattle.std.specs.BTreeMap.{is_at}
use Rattle.std.proofs.lemmas.List.Elements.{recursion_from_All}
use Rattle.lists.specs.Keyed.{has_key}
use Rattle.identity_table.specs.Deaths.{on_clock}
use Rattle.identity_table.specs.Identities.{HeldKey, entry_len, find_identity, find_number, has_blob, is_full, max_answer, number_of, put_identity, taken_by}
use Rattle.identity_table.specs.Indices.{IsIndexed, blob_key, death_by, death_key, held, held_at, key_if, number_key, place_of_blob, place_of_death, place_of_number}
use Rattle.identity_table.specs.declared.records.Records.{Records}
use Rattle.identity_table.proofs.FindLemmas.{only_blob}
use Rattle.identity_table.proofs.NumberLemmas.{found_within, only_number}
use Rattle.identity_table.proofs.UpdateLemmas.{none_is_not, same_some}
use Rattle.lists.proofs.KeyedLemmas.{differ}
use Rattle.identity_table.proofs.KeptLemmas.{not_full}
use Rattle.identity_table.proofs.AdditionLemmas.{entries_len-put, other_bytes, same_bytes}
use Rattle.identity_table.proofs.RecordLemmas.{all_held, entries_len-removed, found_at, none_found}

-- what has a key is there
pub there : {K : Type 0} (key_of : HeldKey → Option K) (found : Option HeldKey) (key : K) →
    key_if key_of found ≡ Some key → (one : HeldKey) × (found ≡ Some one) × (key_of one ≡ Some key)
there key_of None key is = absurd cc
there key_of (Some one) key is = (one, refl, is)

-- what is something is one
pub some_there : {A : Type 0} (found : Option A) → IsSome found → (one : A) × (found ≡ Some one)
some_there None is = absurd (no is)
  where
    no : false ≡ true → ⊥
    no e = absurd cc
some_there (Some one) is = (one, refl)

-- ---- by blob

-- a place that the index gives has the identity with the blob
pub blob_found : (records : Records) → IsIndexed records → (blob : List ℕ) (place : ℕ) →
    place_of_blob records blob ≡ Some place → held_at records place ≡ find_identity blob (held records)
unfolding find_identity
blob_found records indexed blob place is =
    let at = there blob_key (held_at records place) blob (indexed.blobs.held blob place is) in
    at.1 ∙ sym (found_at (is_at (nat_cmp place)) (has_blob blob) records.places.entries at.0
    (only_blob blob (held records) indexed.sound.blobs) at.1 (same_bytes at.0.blob blob (same_some at.0.blob blob at.2)))

-- what the index gives no place no identity has
pub blob_none : (records : Records) → IsIndexed records → (blob : List ℕ) →
    place_of_blob records blob ≡ None → find_identity blob (held records) ≡ None
unfolding find_identity
blob_none records indexed blob none =
    none_found (has_blob blob) (held records)
    (recursion_from_All (λ (one : HeldKey). has_blob blob one ≡ false) (held records)
    (all_held (λ (one : HeldKey). has_blob blob one ≡ false) records.places indexed.order
    (λ place one at. other_bytes one.blob blob (λ e. none_is_not (place_of_blob records blob) place none
    (indexed.blobs.found place blob (ap (key_if blob_key) at ∙ ap (λ (b : List ℕ). Some b) e))))))

-- ---- by number

-- a place that the index gives has the identity of the addition
pub number_found : (records : Records) → IsIndexed records → (number place : ℕ) →
    place_of_number records number ≡ Some place → held_at records place ≡ find_number number (held records)
unfolding find_number
number_found records indexed number place is =
    let at = there number_key (held_at records place) number (indexed.numbers.held number place is) in
    at.1 ∙ sym (found_at (is_at (nat_cmp place)) (has_key number_of number) records.places.entries at.0
    (only_number number records.last (held records) indexed.sound.numbers) at.1 (grind (arith, same_some at.0.number number at.2)))

-- a number that the index gives no place is no identity's
pub number_none : (records : Records) → IsIndexed records → (number : ℕ) →
    place_of_number records number ≡ None → find_number number (held records) ≡ None
unfolding find_number
number_none records indexed number none =
    none_found (has_key number_of number) (held records)
    (recursion_from_All (λ (one : HeldKey). has_key number_of number one ≡ false) (held records)
    (all_held (λ (one : HeldKey). has_key number_of number one ≡ false) records.places indexed.order
    (λ place one at. differ one.number number (λ e. none_is_not (place_of_number records number) place none
    (indexed.numbers.found place number (ap (key_if number_key) at ∙ ap (λ (n : ℕ). Some n) e))))))

-- ---- what is held

-- it takes no more than the answer, and its number is no later than the last
pub held_within : (records : Records) → IsIndexed records → (place : ℕ) (one : HeldKey) →
    held_at records place ≡ Some one → one.number ≤ records.last
held_within records indexed place one at =
    found_within (has_blob one.blob) records.last (held records) one indexed.sound.numbers
    (found_at (is_at (nat_cmp place)) (has_blob one.blob) records.places.entries one
    (only_blob one.blob (held records) indexed.sound.blobs) at (same_bytes one.blob one.blob refl))

-- the next number has no place
pub next_is_free : (records : Records) → IsIndexed records → (number : ℕ) → number ≡ records.last + 1 →
    place_of_number records number ≡ None
next_is_free records indexed number is = by_place (place_of_number records number) refl
  where
    by_place : (found : Option ℕ) → place_of_number records number ≡ found → place_of_number records number ≡ None
    by_place None none = none
    by_place (Some place) some =
        let at = there number_key (held_at records place) number (indexed.numbers.held number place some) in
        absurd (omega (arith, is, held_within records indexed place at.0 at.1, same_some at.0.number number at.2))

-- nor has a death with it
pub next_death_is_free : (records : Records) → IsIndexed records → (number : ℕ) (death : Option ℕ) → number ≡ records.last + 1 →
    (key : ℕ × ℕ) → death_by death number ≡ Some key → place_of_death records key ≡ None
next_death_is_free records indexed number death is key has = by_place (place_of_death records key) refl
  where
    number_in : (d : Option ℕ) (n : ℕ) (k : ℕ × ℕ) → death_by d n ≡ Some k → k.1 ≡ n
    number_in None n k e = absurd cc
    number_in (Some d) n k e = ap (λ (p : ℕ × ℕ). p.1) (sym (same_some (d, n) k e))

    by_place : (found : Option ℕ) → place_of_death records key ≡ found → place_of_death records key ≡ None
    by_place None none = none
    by_place (Some place) some =
        let at = there death_key (held_at records place) key (indexed.deaths.held key place some) in
        absurd (omega (
          arith,
          is,
          held_within records indexed place at.0 at.1,
          number_in (on_clock at.0.death) at.0.number key at.2,
          number_in death number key has,
        ))

-- ---- the entry of what is held

-- it is no longer than the answer
pub entry_of_found : (records : Records) → IsIndexed records → (blob : List ℕ) (one : HeldKey) →
    find_identity blob (held records) ≡ Some one →
    (entry_len one ≤ max_answer) × (entry_len one ≤ records.listed) × (taken_by (find_identity blob (held records)) ≡ entry_len one)
entry_of_found records indexed blob one found =
    let whole = entries_len-removed blob (held records) in
    let taken : taken_by (find_identity blob (held records)) ≡ entry_len one = ap taken_by found in (
      omega (arith, whole, taken, indexed.sound.fits),
      omega (arith, whole, taken, indexed.listed),
      taken,
    )

-- what stands at a place is what is found by its blob
pub entry_at : (records : Records) → IsIndexed records → (place : ℕ) (one : HeldKey) →
    held_at records place ≡ Some one → find_identity one.blob (held records) ≡ Some one
unfolding find_identity
entry_at records indexed place one at =
    found_at (is_at (nat_cmp place)) (has_blob one.blob) records.places.entries one
    (only_blob one.blob (held records) indexed.sound.blobs) at (same_bytes one.blob one.blob refl)

-- what stands at the place of a blob has it
pub blob_at : (records : Records) → IsIndexed records → (place : ℕ) (blob : List ℕ) (one : HeldKey) →
    place_of_blob records blob ≡ Some place → held_at records place ≡ Some one → one.blob ≡ blob
blob_at records indexed place blob one is at =
    same_some one.blob blob (sym (ap (key_if blob_key) at) ∙ indexed.blobs.held blob place is)

-- what stands at a place takes a part of the answer
pub entry_within : (records : Records) → IsIndexed records → (place : ℕ) (one : HeldKey) →
    held_at records place ≡ Some one → (entry_len one ≤ max_answer) × (entry_len one ≤ records.listed)
entry_within records indexed place one at =
    let entry = entry_of_found records indexed one.blob one (entry_at records indexed place one at) in
    (entry.0, entry.1)

-- what is to be added takes a part of the answer too
pub entry_of_put : (one : HeldKey) (keys : List HeldKey) → is_full (put_identity one keys) ≡ false →
    entry_len one ≤ max_answer
entry_of_put one keys fits =
    omega (arith, (not_full (put_identity one keys) fits).0, entries_len-put one keys, entries_len-removed one.blob keys)
