-- How a table finds its identities: each stands at a place, and an index by blob, one by addition
-- and a queue of deaths map to places (ours). Places rise in order of first addition.
use Rattle.std.specs.Prelude.{◌≡◌, ◌≢◌, ℕ, ◌<◌, List, Option, Some, None}
use Rattle.std.specs.declared.cmp.Ordering.{Ordering}
use Rattle.std.specs.Ordering.{nat_cmp, ordering_then}
use Rattle.std.specs.Cmp.Lexicographic.{slice_cmp}
use Rattle.std.specs.BTreeMap.{IsOrdered, get, get_by, values}
use Rattle.identity_table.specs.Deaths.{on_clock}
use Rattle.identity_table.specs.Identities.{HeldKey, IsSound, answer_len, kept_len}
use Rattle.identity_table.specs.declared.records.Records.{Records}

-- ---- what stands where

-- the identities, in the order of their places
abbrev pub held : Records → List HeldKey
held records = values records.places

-- the identity at a place
abbrev pub held_at : Records → ℕ → Option HeldKey
held_at records place = get nat_cmp records.places place

-- ---- what an identity is found by

-- its blob
abbrev pub blob_key : HeldKey → Option (List ℕ)
blob_key one = Some one.blob

-- the number of its addition
abbrev pub number_key : HeldKey → Option ℕ
number_key one = Some one.number

-- a death, where the clock comes to it, and of those with one death the number
abbrev pub death_by : Option ℕ → ℕ → Option (ℕ × ℕ)
death_by None number = None
death_by (Some death) number = Some (death, number)

-- the key of an identity by its death
abbrev pub death_key : HeldKey → Option (ℕ × ℕ)
death_key one = death_by (on_clock one.death) one.number

-- deaths in order, those of one second by their numbers
abbrev pub death_cmp : ℕ × ℕ → ℕ × ℕ → Ordering
death_cmp one other = ordering_then (nat_cmp one.0 other.0) (nat_cmp one.1 other.1)

-- what is at a place is found by this
abbrev pub key_if : {K : Type 0} → (HeldKey → Option K) → Option HeldKey → Option K
key_if key_of None = None
key_if key_of (Some one) = key_of one

-- ---- the indices, as functions

-- where the identity of this blob stands
abbrev pub place_of_blob : Records → List ℕ → Option ℕ
place_of_blob records blob = get_by (λ key. slice_cmp nat_cmp blob key.items) records.blobs

-- where the identity of this addition's number stands
abbrev pub place_of_number : Records → ℕ → Option ℕ
place_of_number records number = get nat_cmp records.numbers number

-- where the identity stands that dies then, by its second and its number
abbrev pub place_of_death : Records → ℕ × ℕ → Option ℕ
place_of_death records death = get death_cmp records.deaths death

-- one function undoes the other
pub record IsInverse {K : Type 0} (key_at : ℕ → Option K) (place_of : K → Option ℕ) : Type 0 where
  pub held : (key : K) (place : ℕ) → place_of key ≡ Some place → key_at place ≡ Some key
  pub found : (place : ℕ) (key : K) → key_at place ≡ Some key → place_of key ≡ Some place

-- each index finds what is held and nothing else; the answer that lists all is as long as is noted,
-- and all take what is noted; and no place is beyond the last number
pub record IsIndexed (records : Records) : Type 0 where
  pub order : IsOrdered nat_cmp records.places
  pub blobs : IsInverse (λ place. key_if blob_key (held_at records place)) (place_of_blob records)
  pub numbers : IsInverse (λ place. key_if number_key (held_at records place))
      (place_of_number records)
  pub deaths : IsInverse (λ place. key_if death_key (held_at records place))
      (place_of_death records)
  pub within : (place : ℕ) → records.last < place → held_at records place ≡ None
  pub listed : records.listed ≡ answer_len (held records)
  pub kept : records.kept ≡ kept_len (held records)
  pub sound : IsSound (held records) records.last

-- ---- one change of an index

-- at this key, where there is one, it gives this, and at each other what it gave
pub record IsChanged {K X : Type 0} (old : K → Option X) (key : Option K) (value : Option X)
    (new : K → Option X) : Type 0 where
  pub here : (one : K) → key ≡ Some one → new one ≡ value
  pub apart : (other : K) → key ≢ Some other → new other ≡ old other
