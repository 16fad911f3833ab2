-- What an addition's number gives after a change, and that blob and number find the same identity.
use Rattle.std.proofs.Common.{◌≡◌, ℕ, ◌+◌, ◌≤◌, Bool, true, false, cond, eqb, not, List, [], ◌∷◌, Option, Some, None, refl, sym, ap, subst, ◌∙◌, arith, eq-eqb}
use Rattle.std.specs.Str.{bytes_eq}
use Rattle.std.proofs.lemmas.Bool.{eqb-true}
use Rattle.lists.specs.Keyed.{has_key}
use Rattle.lists.proofs.FirstLemmas.{find-filter, found_too, if_kept, remove-filter, some_or_later}
use Rattle.identity_table.specs.Deaths.{lives_at}
use Rattle.identity_table.specs.Identities.{HeldKey, find_identity, find_number, has_blob, number_of, put_identity, remove_identity, alive_at, HaveOwnBlobs, HaveOwnNumbers}
use Rattle.identity_table.proofs.FindLemmas.{if_alive, only_blob}
use Rattle.identity_table.proofs.NumberLemmas.{found_within, only_number}
use Rattle.identity_table.proofs.AdditionLemmas.{equal, same_bytes}

-- an identity that was found, unless it has this blob
abbrev pub unless_blob : List ℕ → Option HeldKey → Option HeldKey
unless_blob blob None = None
unless_blob blob (Some key) = cond (bytes_eq key.blob blob) None (Some key)

-- those of another blob are kept
unless-kept : (blob : List ℕ) (found : Option HeldKey) →
    if_kept (λ key. not (has_blob blob key)) found ≡ unless_blob blob found
unless-kept blob None = refl
unless-kept blob (Some key) = by_test (bytes_eq key.blob blob)
  where
    by_test : (is : Bool) → let none : Option HeldKey = None in
        cond (not is) (Some key) none ≡ cond is none (Some key)
    by_test true = refl
    by_test false = refl

-- after a removal, a number gives what it gave, unless that was removed
pub find_number-remove : (number last : ℕ) (blob : List ℕ) (keys : List HeldKey) →
    HaveOwnBlobs keys → HaveOwnNumbers last keys →
    find_number number (remove_identity blob keys) ≡ unless_blob blob (find_number number keys)
unfolding find_number remove_identity
find_number-remove number last blob keys blobs numbers =
    ap (find_number number) (remove-filter (has_blob blob) keys (only_blob blob keys blobs))
    ∙ find-filter (has_key number_of number) (λ key. not (has_blob blob key)) keys
    (only_number number last keys numbers)
    ∙ unless-kept blob (find_number number keys)

-- where no identity has the blob, it makes no difference
unless_blob-none : (blob : List ℕ) (number : ℕ) (keys : List HeldKey) →
    find_identity blob keys ≡ None →
    unless_blob blob (find_number number keys) ≡ find_number number keys
unfolding find_identity find_number
unless_blob-none blob number [] none = refl
unless_blob-none blob number (key ∷ keys) none =
    let both = some_or_later (bytes_eq key.blob blob) key (find_identity blob keys) none in
    by_test (eqb key.number number) both.0 (unless_blob-none blob number keys both.1)
  where
    by_test : (is : Bool) → bytes_eq key.blob blob ≡ false →
        unless_blob blob (find_number number keys) ≡ find_number number keys →
        unless_blob blob (cond is (Some key) (find_number number keys))
        ≡ cond is (Some key) (find_number number keys)
    by_test true b rest = rw b refl
    by_test false b rest = rest

-- after an addition, its number gives the new identity, and another what it gave, unless that was
-- replaced
pub find_number-put : (number last : ℕ) (new : HeldKey) (keys : List HeldKey) →
    HaveOwnBlobs keys → HaveOwnNumbers last keys → new.number ≡ last + 1 →
    find_number number (put_identity new keys)
    ≡ cond (eqb new.number number) (Some new) (unless_blob new.blob (find_number number keys))
unfolding find_number find_identity put_identity HaveOwnBlobs HaveOwnNumbers
find_number-put number last new [] blobs numbers is = refl
find_number-put number last new (key ∷ keys) blobs numbers is =
    by_tests (bytes_eq key.blob new.blob) (eqb new.number number) (eqb key.number number)
    refl refl refl (find_number-put number last new keys blobs.1 numbers.2 is)
  where
    by_tests : (same at_new at : Bool) → bytes_eq key.blob new.blob ≡ same →
        eqb new.number number ≡ at_new → eqb key.number number ≡ at →
        find_number number (put_identity new keys)
        ≡ cond (eqb new.number number) (Some new) (unless_blob new.blob (find_number number keys)) →
        find_number number (cond same (new ∷ keys) (key ∷ put_identity new keys))
        ≡ cond at_new (Some new) (unless_blob new.blob (cond at (Some key) (find_number number keys)))
    by_tests true true at s n a rest = rw n refl
    by_tests true false true s n a rest =
        rw (n, s) (subst (λ (m : ℕ). find_number m keys ≡ None) (eqb-true key.number number a)
        numbers.1)
    by_tests true false false s n a rest =
        rw n (sym (unless_blob-none new.blob number keys
        (subst (λ (b : List ℕ). find_identity b keys ≡ None) (equal key.blob new.blob s) blobs.0)))
    by_tests false true true s n a rest =
        absurd (omega (
          arith,
          eqb-true new.number number n,
          eqb-true key.number number a,
          numbers.0,
          is,
        ))
    by_tests false true false s n a rest = rw a (rest ∙ rw n refl)
    by_tests false false true s n a rest = rw (a, s) refl
    by_tests false false false s n a rest = rw a (rest ∙ rw n refl)

-- after the dead are removed, a number gives what it gave, where that is alive
pub find_number-alive : (number last second : ℕ) (keys : List HeldKey) →
    HaveOwnNumbers last keys →
    find_number number (alive_at second keys) ≡ if_alive second (find_number number keys)
unfolding find_number alive_at
find_number-alive number last second keys numbers =
    find-filter (has_key number_of number) (λ key. lives_at second key.death) keys
    (only_number number last keys numbers)

-- what a blob finds, its number finds
pub number_of_found : (blob : List ℕ) (last : ℕ) (keys : List HeldKey) (key : HeldKey) →
    HaveOwnNumbers last keys → find_identity blob keys ≡ Some key →
    (key.number ≤ last) × (find_number key.number keys ≡ Some key)
unfolding find_identity find_number
number_of_found blob last keys key numbers found = (
  found_within (has_blob blob) last keys key numbers found,
  found_too (has_blob blob) (has_key number_of key.number) keys key
      (only_number key.number last keys numbers) found (eq-eqb key.number key.number refl),
)

-- what a number finds, its blob finds
pub blob_of_numbered : (number : ℕ) (keys : List HeldKey) (key : HeldKey) → HaveOwnBlobs keys →
    find_number number keys ≡ Some key → find_identity key.blob keys ≡ Some key
unfolding find_identity find_number
blob_of_numbered number keys key blobs found =
    found_too (has_key number_of number) (has_blob key.blob) keys key (only_blob key.blob keys blobs)
    found (same_bytes key.blob key.blob refl)
