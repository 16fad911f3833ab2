-- What a blob finds after a change, and that each identity keeps a blob of its own.
use Rattle.std.proofs.Common.{◌≡◌, ℕ, Bool, true, false, cond, List, [], ◌∷◌, Option, Some, None, refl, sym, ap, subst, ◌∙◌}
use Rattle.std.specs.Str.{bytes_eq}
use Rattle.std.proofs.lemmas.Bool.{both_ways}
use Rattle.lists.specs.Firsts.{IsOnly}
use Rattle.lists.proofs.FirstLemmas.{find-filter, find-filter_none, find-remove_apart, find-remove_none, find-removed, found_passes, if_kept}
use Rattle.identity_table.specs.Deaths.{lives_at}
use Rattle.identity_table.specs.Identities.{HeldKey, find_identity, has_blob, put_identity, remove_identity, alive_at, HaveOwnBlobs}
use Rattle.identity_table.proofs.AdditionLemmas.{equal, other_bytes, same_bytes}

-- ---- what is found

-- what is found has the blob
pub found_has : (blob : List ℕ) (keys : List HeldKey) (key : HeldKey) →
    find_identity blob keys ≡ Some key → key.blob ≡ blob
unfolding find_identity
found_has blob keys key found = equal key.blob blob (found_passes (has_blob blob) keys key found)

-- a blob finds one at most
pub only_blob : (blob : List ℕ) (keys : List HeldKey) → HaveOwnBlobs keys →
    IsOnly (has_blob blob) keys
unfolding HaveOwnBlobs find_identity
only_blob blob [] own = tt
only_blob blob (key ∷ keys) own = (
  λ is. subst (λ (b : List ℕ). find_identity b keys ≡ None) (equal key.blob blob is) own.0,
  only_blob blob keys own.1,
)

-- an identity with one blob hasn't another
apart_blob : (blob other : List ℕ) → bytes_eq other blob ≡ false → (key : HeldKey) →
    has_blob other key ≡ true → has_blob blob key ≡ false
apart_blob blob other apart key is =
    ap (λ (b : List ℕ). bytes_eq b blob) (equal key.blob other is) ∙ apart

-- after an addition, its blob gives the new identity, and another what it gave
pub find-put : (blob : List ℕ) (new : HeldKey) (keys : List HeldKey) →
    find_identity blob (put_identity new keys)
    ≡ cond (bytes_eq new.blob blob) (Some new) (find_identity blob keys)
unfolding find_identity put_identity
find-put blob new [] = refl
find-put blob new (key ∷ keys) =
    by_tests (bytes_eq key.blob new.blob) (bytes_eq new.blob blob) refl refl (find-put blob new keys)
  where
    by_tests : (same at_new : Bool) → bytes_eq key.blob new.blob ≡ same →
        bytes_eq new.blob blob ≡ at_new →
        find_identity blob (put_identity new keys)
        ≡ cond (bytes_eq new.blob blob) (Some new) (find_identity blob keys) →
        find_identity blob (cond same (new ∷ keys) (key ∷ put_identity new keys))
        ≡ cond at_new (Some new) (cond (bytes_eq key.blob blob) (Some key) (find_identity blob keys))
    by_tests true true s n rest = rw n refl
    by_tests true false s n rest =
        rw (n, apart_blob blob new.blob n key s) refl
    by_tests false true s n rest =
        let differs : bytes_eq key.blob blob ≡ false =
        ap (bytes_eq key.blob) (sym (equal new.blob blob n)) ∙ s in
        rw differs (rest ∙ rw n refl)
    by_tests false false s n rest =
        ap (cond (bytes_eq key.blob blob) (Some key)) (rest ∙ rw n refl)

-- after a removal, its blob gives nothing, and another what it gave
pub find-remove : (blob removed : List ℕ) (keys : List HeldKey) → HaveOwnBlobs keys →
    find_identity blob (remove_identity removed keys)
    ≡ cond (bytes_eq removed blob) None (find_identity blob keys)
unfolding find_identity remove_identity
find-remove blob removed keys own = by_test (bytes_eq removed blob) refl
  where
    by_test : (is : Bool) → bytes_eq removed blob ≡ is →
        find_identity blob (remove_identity removed keys) ≡ cond is None (find_identity blob keys)
    by_test true is =
        subst (λ (b : List ℕ). find_identity b (remove_identity removed keys) ≡ None)
        (equal removed blob is) (find-removed (has_blob removed) keys (only_blob removed keys own))
    by_test false is =
        find-remove_apart (has_blob blob) (has_blob removed) keys (apart_blob blob removed is)

-- an identity that was found, where it is alive at this second
abbrev pub if_alive : ℕ → Option HeldKey → Option HeldKey
if_alive second found = if_kept (λ key. lives_at second key.death) found

-- after the dead are removed, a blob gives what it gave, where that is alive
pub find-alive : (blob : List ℕ) (second : ℕ) (keys : List HeldKey) → HaveOwnBlobs keys →
    find_identity blob (alive_at second keys) ≡ if_alive second (find_identity blob keys)
unfolding find_identity alive_at
find-alive blob second keys own =
    find-filter (has_blob blob) (λ key. lives_at second key.death) keys (only_blob blob keys own)

-- ---- each has its own blob

-- after an addition
pub own_blobs-put : (new : HeldKey) (keys : List HeldKey) → HaveOwnBlobs keys →
    HaveOwnBlobs (put_identity new keys)
unfolding HaveOwnBlobs put_identity find_identity
own_blobs-put new [] own = (refl, tt)
own_blobs-put new (key ∷ keys) own =
    by_test (bytes_eq key.blob new.blob) refl (own_blobs-put new keys own.1)
  where
    by_test : (same : Bool) → bytes_eq key.blob new.blob ≡ same →
        HaveOwnBlobs (put_identity new keys) →
        HaveOwnBlobs (cond same (new ∷ keys) (key ∷ put_identity new keys))
    by_test true s rest =
        (subst (λ (b : List ℕ). find_identity b keys ≡ None) (equal key.blob new.blob s) own.0, own.1)
    by_test false s rest =
        let differ : bytes_eq new.blob key.blob ≡ false =
        other_bytes new.blob key.blob
        (λ e. both_ways (bytes_eq key.blob new.blob) s (same_bytes key.blob new.blob (sym e))) in
        (find-put key.blob new keys ∙ rw differ own.0, rest)

-- after a removal
pub own_blobs-remove : (blob : List ℕ) (keys : List HeldKey) → HaveOwnBlobs keys →
    HaveOwnBlobs (remove_identity blob keys)
unfolding HaveOwnBlobs remove_identity find_identity
own_blobs-remove blob [] own = tt
own_blobs-remove blob (key ∷ keys) own =
    by_test (has_blob blob key) (own_blobs-remove blob keys own.1)
  where
    by_test : (same : Bool) → HaveOwnBlobs (remove_identity blob keys) →
        HaveOwnBlobs (cond same keys (key ∷ remove_identity blob keys))
    by_test true rest = own.1
    by_test false rest = (find-remove_none (has_blob key.blob) (has_blob blob) keys own.0, rest)

-- after the dead are removed
pub own_blobs-alive : (second : ℕ) (keys : List HeldKey) → HaveOwnBlobs keys →
    HaveOwnBlobs (alive_at second keys)
unfolding HaveOwnBlobs alive_at find_identity
own_blobs-alive second [] own = tt
own_blobs-alive second (key ∷ keys) own =
    by_test (lives_at second key.death) (own_blobs-alive second keys own.1)
  where
    by_test : (alive : Bool) → HaveOwnBlobs (alive_at second keys) →
        HaveOwnBlobs (cond alive (key ∷ alive_at second keys) (alive_at second keys))
    by_test true rest =
        (find-filter_none (has_blob key.blob) (λ one. lives_at second one.death) keys own.0, rest)
    by_test false rest = rest
