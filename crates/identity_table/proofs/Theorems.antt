-- Tables stay sound: each identity has its own blob and number, and one message lists them all.
use Rattle.std.proofs.Common.{◌≡◌, ℕ, ◌+◌, ◌≤◌, length, IfSome, Bool, true, false, cond, List, [], ◌∷◌, arith}
use Rattle.std.specs.Str.{bytes_eq}
use Rattle.identity_table.specs.Deaths.{lives_at}
use Rattle.identity_table.specs.Identities.{HeldKey, put_identity, remove_identity, alive_at, entry_len, entries_len, answer_len, max_answer, AreShort, AreUsable, HaveOwnBlobs, HaveOwnNumbers, IsSound, kept_len, longest_private}
use Rattle.identity_table.proofs.FindLemmas.{own_blobs-put, own_blobs-remove, own_blobs-alive}
use Rattle.identity_table.proofs.KeptLemmas.{kept_len-alive, kept_len-none, kept_len-removed}
use Rattle.identity_table.proofs.NumberLemmas.{own_numbers-put, own_numbers-remove, own_numbers-alive}

-- ---- the length of the answer

-- a removal makes no answer longer
entries_len-remove : (blob : List ℕ) (keys : List HeldKey) →
    entries_len (remove_identity blob keys) ≤ entries_len keys
unfolding entries_len remove_identity
entries_len-remove blob [] = omega arith
entries_len-remove blob (key ∷ keys) =
    by_test (bytes_eq key.blob blob) (entries_len-remove blob keys)
  where
    by_test : (same : Bool) → entries_len (remove_identity blob keys) ≤ entries_len keys →
        entries_len
        (cond same keys (key ∷ remove_identity blob keys)) ≤ entry_len key + entries_len keys
    by_test true rest = omega arith
    by_test false rest = omega (arith, rest)

-- nor does expiry
entries_len-alive : (second : ℕ) (keys : List HeldKey) →
    entries_len (alive_at second keys) ≤ entries_len keys
unfolding entries_len alive_at
entries_len-alive second [] = omega arith
entries_len-alive second (key ∷ keys) =
    by_test (lives_at second key.death) (entries_len-alive second keys)
  where
    by_test : (alive : Bool) → entries_len (alive_at second keys) ≤ entries_len keys →
        entries_len
        (cond alive (key ∷ alive_at second keys)
        (alive_at second keys)) ≤ entry_len key + entries_len keys
    by_test true rest = omega (arith, rest)
    by_test false rest = omega (arith, rest)

-- ---- private strings

-- they stay short after an addition of a short one
AreShort-put : (new : HeldKey) (keys : List HeldKey) → length new.private ≤ longest_private →
    AreShort keys → AreShort (put_identity new keys)
unfolding AreShort put_identity
AreShort-put new [] short rest = (short, tt)
AreShort-put new (key ∷ keys) short rest =
    by_test (bytes_eq key.blob new.blob) (AreShort-put new keys short rest.1)
  where
    by_test : (same : Bool) → AreShort (put_identity new keys) →
        AreShort (cond same (new ∷ keys) (key ∷ put_identity new keys))
    by_test true later = (short, rest.1)
    by_test false later = (rest.0, later)

-- after a removal
AreShort-remove : (blob : List ℕ) (keys : List HeldKey) → AreShort keys →
    AreShort (remove_identity blob keys)
unfolding AreShort remove_identity
AreShort-remove blob [] rest = tt
AreShort-remove blob (key ∷ keys) rest =
    by_test (bytes_eq key.blob blob) (AreShort-remove blob keys rest.1)
  where
    by_test : (same : Bool) → AreShort (remove_identity blob keys) →
        AreShort (cond same keys (key ∷ remove_identity blob keys))
    by_test true later = rest.1
    by_test false later = (rest.0, later)

-- after the dead are removed
AreShort-alive : (second : ℕ) (keys : List HeldKey) → AreShort keys →
    AreShort (alive_at second keys)
unfolding AreShort alive_at
AreShort-alive second [] rest = tt
AreShort-alive second (key ∷ keys) rest =
    by_test (lives_at second key.death) (AreShort-alive second keys rest.1)
  where
    by_test : (alive : Bool) → AreShort (alive_at second keys) →
        AreShort (cond alive (key ∷ alive_at second keys) (alive_at second keys))
    by_test true later = (rest.0, later)
    by_test false later = later

-- ---- numbers of uses

-- they stay at least 1 after an addition of such a one
AreUsable-put : (new : HeldKey) (keys : List HeldKey) → IfSome new.uses (λ uses. 1 ≤ uses) →
    AreUsable keys → AreUsable (put_identity new keys)
unfolding AreUsable put_identity
AreUsable-put new [] usable rest = (usable, tt)
AreUsable-put new (key ∷ keys) usable rest =
    by_test (bytes_eq key.blob new.blob) (AreUsable-put new keys usable rest.1)
  where
    by_test : (same : Bool) → AreUsable (put_identity new keys) →
        AreUsable (cond same (new ∷ keys) (key ∷ put_identity new keys))
    by_test true later = (usable, rest.1)
    by_test false later = (rest.0, later)

-- after a removal
AreUsable-remove : (blob : List ℕ) (keys : List HeldKey) → AreUsable keys →
    AreUsable (remove_identity blob keys)
unfolding AreUsable remove_identity
AreUsable-remove blob [] rest = tt
AreUsable-remove blob (key ∷ keys) rest =
    by_test (bytes_eq key.blob blob) (AreUsable-remove blob keys rest.1)
  where
    by_test : (same : Bool) → AreUsable (remove_identity blob keys) →
        AreUsable (cond same keys (key ∷ remove_identity blob keys))
    by_test true later = rest.1
    by_test false later = (rest.0, later)

-- after the dead are removed
AreUsable-alive : (second : ℕ) (keys : List HeldKey) → AreUsable keys →
    AreUsable (alive_at second keys)
unfolding AreUsable alive_at
AreUsable-alive second [] rest = tt
AreUsable-alive second (key ∷ keys) rest =
    by_test (lives_at second key.death) (AreUsable-alive second keys rest.1)
  where
    by_test : (alive : Bool) → AreUsable (alive_at second keys) →
        AreUsable (cond alive (key ∷ alive_at second keys) (alive_at second keys))
    by_test true later = (rest.0, later)
    by_test false later = later

-- ---- tables stay sound

-- an empty table
pub IsSound-none : (last : ℕ) → IsSound [] last
unfolding AreShort AreUsable HaveOwnBlobs HaveOwnNumbers entries_len
IsSound-none last =
    record { blobs = tt; numbers = tt; fits = omega arith; small = omega (arith, kept_len-none); short = tt; uses = tt }

-- after an addition that fits, under the next number
pub IsSound-put : (new : HeldKey) (keys : List HeldKey) (last : ℕ) → new.number ≡ last + 1 →
    answer_len (put_identity new keys) ≤ max_answer → kept_len (put_identity new keys) ≤ 8388608 →
    length new.private ≤ longest_private → IfSome new.uses (λ uses. 1 ≤ uses) → IsSound keys last →
    IsSound (put_identity new keys) (last + 1)
IsSound-put new keys last number fits small short usable sound = record {
  blobs = own_blobs-put new keys sound.blobs;
  numbers = own_numbers-put last new keys number sound.numbers;
  fits = fits;
  small = small;
  short = AreShort-put new keys short sound.short;
  uses = AreUsable-put new keys usable sound.uses;
}

-- after a removal
pub IsSound-remove : (blob : List ℕ) (keys : List HeldKey) (last : ℕ) → IsSound keys last →
    IsSound (remove_identity blob keys) last
IsSound-remove blob keys last sound = record {
  blobs = own_blobs-remove blob keys sound.blobs;
  numbers = own_numbers-remove last blob keys sound.numbers;
  fits = omega (arith, entries_len-remove blob keys, sound.fits);
  small = omega (arith, kept_len-removed blob keys, sound.small);
  short = AreShort-remove blob keys sound.short;
  uses = AreUsable-remove blob keys sound.uses;
}

-- after the dead are removed
pub IsSound-alive : (second : ℕ) (keys : List HeldKey) (last : ℕ) → IsSound keys last →
    IsSound (alive_at second keys) last
IsSound-alive second keys last sound = record {
  blobs = own_blobs-alive second keys sound.blobs;
  numbers = own_numbers-alive last second keys sound.numbers;
  fits = omega (arith, entries_len-alive second keys, sound.fits);
  small = omega (arith, kept_len-alive second keys, sound.small);
  short = AreShort-alive second keys sound.short;
  uses = AreUsable-alive second keys sound.uses;
}
