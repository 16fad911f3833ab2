-- Each identity keeps a number of its own, and none has a number beyond the last.
use Rattle.std.proofs.Common.{◌≡◌, ◌≢◌, ℕ, ◌+◌, ◌<◌, ◌≤◌, Bool, true, false, cond, eqb, List, [], ◌∷◌, Some, None, refl, subst, arith}
use Rattle.std.specs.List.{find}
use Rattle.std.specs.Str.{bytes_eq}
use Rattle.std.proofs.lemmas.Bool.{eqb-true}
use Rattle.lists.specs.Firsts.{IsOnly}
use Rattle.lists.specs.Keyed.{has_key}
use Rattle.lists.proofs.FirstLemmas.{find-filter_none, find-remove_none, some_or_later}
use Rattle.lists.proofs.KeyedLemmas.{differ, found_key}
use Rattle.identity_table.specs.Deaths.{lives_at}
use Rattle.identity_table.specs.Identities.{HeldKey, find_number, has_blob, number_of, put_identity, remove_identity, alive_at, HaveOwnNumbers}

-- ---- each has its own number

-- what is found has the number
pub found_has_number : (number : ℕ) (keys : List HeldKey) (key : HeldKey) →
    find_number number keys ≡ Some key → key.number ≡ number
unfolding find_number
found_has_number = found_key number_of

-- a number finds one at most
pub only_number : (number last : ℕ) (keys : List HeldKey) → HaveOwnNumbers last keys →
    IsOnly (has_key number_of number) keys
unfolding HaveOwnNumbers find_number
only_number number last [] own = tt
only_number number last (key ∷ keys) own = (
  λ is. subst (λ (n : ℕ). find_number n keys ≡ None) (eqb-true key.number number is) own.1,
  only_number number last keys own.2,
)

-- what any test finds has no number beyond the last
pub found_within : (test : HeldKey → Bool) (last : ℕ) (keys : List HeldKey) (key : HeldKey) →
    HaveOwnNumbers last keys → find test keys ≡ Some key → key.number ≤ last
unfolding HaveOwnNumbers
found_within test last [] key own found = absurd cc
found_within test last (first ∷ keys) key own found =
    by_test (test first) found (found_within test last keys key own.2)
  where
    by_test : (is : Bool) → cond is (Some first) (find test keys) ≡ Some key →
        (find test keys ≡ Some key → key.number ≤ last) → key.number ≤ last
    by_test true there later =
        let is : first ≡ key = cc in subst (λ (k : HeldKey). k.number ≤ last) is own.0
    by_test false there later = later there

-- a number beyond the last is no identity's
pub no_number_beyond : (number last : ℕ) (keys : List HeldKey) → HaveOwnNumbers last keys →
    last < number → find_number number keys ≡ None
unfolding find_number HaveOwnNumbers
no_number_beyond number last [] own beyond = refl
no_number_beyond number last (key ∷ keys) own beyond =
    rw (differ key.number number (λ e. omega (arith, own.0)))
    (no_number_beyond number last keys own.2 beyond)

-- no number stays none, where another identity is put
no_number-put : (number : ℕ) (new : HeldKey) (keys : List HeldKey) → new.number ≢ number →
    find_number number keys ≡ None → find_number number (put_identity new keys) ≡ None
unfolding find_number put_identity
no_number-put number new [] other none = rw (differ new.number number other) refl
no_number-put number new (key ∷ keys) other none =
    let both = some_or_later (eqb key.number number) key (find_number number keys) none in
    by_test (bytes_eq key.blob new.blob) both.0 both.1 (no_number-put number new keys other both.1)
  where
    by_test : (same : Bool) → eqb key.number number ≡ false → find_number number keys ≡ None →
        find_number number (put_identity new keys) ≡ None →
        find_number number (cond same (new ∷ keys) (key ∷ put_identity new keys)) ≡ None
    by_test true k left rest = rw (differ new.number number other) left
    by_test false k left rest = rw k rest

-- a later last number is no less than theirs
own_numbers-later : (last : ℕ) (keys : List HeldKey) → HaveOwnNumbers last keys →
    HaveOwnNumbers (last + 1) keys
unfolding HaveOwnNumbers
own_numbers-later last [] own = tt
own_numbers-later last (key ∷ keys) own =
    (omega (arith, own.0), own.1, own_numbers-later last keys own.2)

-- an addition has a number that none had
pub own_numbers-put : (last : ℕ) (new : HeldKey) (keys : List HeldKey) → new.number ≡ last + 1 →
    HaveOwnNumbers last keys → HaveOwnNumbers (last + 1) (put_identity new keys)
unfolding HaveOwnNumbers put_identity find_number
own_numbers-put last new [] number own = (omega (arith, number), refl, tt)
own_numbers-put last new (key ∷ keys) number own =
    by_test (bytes_eq key.blob new.blob) (own_numbers-put last new keys number own.2)
  where
    by_test : (same : Bool) → HaveOwnNumbers (last + 1) (put_identity new keys) →
        HaveOwnNumbers (last + 1) (cond same (new ∷ keys) (key ∷ put_identity new keys))
    by_test true rest = (
      omega (arith, number),
      no_number_beyond new.number last keys own.2 (omega (arith, number)),
      own_numbers-later last keys own.2,
    )
    by_test false rest = (
      omega (arith, own.0),
      no_number-put key.number new keys (λ e. omega (arith, e, number, own.0)) own.1,
      rest,
    )

-- after a removal
pub own_numbers-remove : (last : ℕ) (blob : List ℕ) (keys : List HeldKey) →
    HaveOwnNumbers last keys → HaveOwnNumbers last (remove_identity blob keys)
unfolding HaveOwnNumbers remove_identity find_number
own_numbers-remove last blob [] own = tt
own_numbers-remove last blob (key ∷ keys) own =
    by_test (has_blob blob key) (own_numbers-remove last blob keys own.2)
  where
    by_test : (same : Bool) → HaveOwnNumbers last (remove_identity blob keys) →
        HaveOwnNumbers last (cond same keys (key ∷ remove_identity blob keys))
    by_test true rest = own.2
    by_test false rest =
        (own.0, find-remove_none (has_key number_of key.number) (has_blob blob) keys own.1, rest)

-- after the dead are removed
pub own_numbers-alive : (last second : ℕ) (keys : List HeldKey) → HaveOwnNumbers last keys →
    HaveOwnNumbers last (alive_at second keys)
unfolding HaveOwnNumbers alive_at find_number
own_numbers-alive last second [] own = tt
own_numbers-alive last second (key ∷ keys) own =
    by_test (lives_at second key.death) (own_numbers-alive last second keys own.2)
  where
    by_test : (alive : Bool) → HaveOwnNumbers last (alive_at second keys) →
        HaveOwnNumbers last (cond alive (key ∷ alive_at second keys) (alive_at second keys))
    by_test true rest = (
      own.0,
      find-filter_none (has_key number_of key.number) (λ one. lives_at second one.death) keys own.1,
      rest,
    )
    by_test false rest = rest
