-- Blobs that are compared, and what an addition makes of the list and of the answer.
use Rattle.std.proofs.Common.{◌≡◌, ◌≢◌, ℕ, ◌+◌, ◌<◌, ◌≤◌, Bool, true, false, cond, List, [], ◌∷◌, ◌++◌, length, Some, None, sym, ap, subst, refl, arith}
use Rattle.std.specs.Bool.{MatchBool}
use Rattle.std.specs.Str.{bytes_eq}
use Rattle.std.proofs.lemmas.Bool.{false_from_ne_true}
use Rattle.std.proofs.lemmas.Slice.Eq.{bytes_eq-Decides}
use Rattle.lists.proofs.FirstLemmas.{some_or_later}
use Rattle.identity_table.specs.Identities.{HeldKey, find_identity, has_blob, put_identity, entry_len, entries_len, answer_len, max_answer, taken_by}

-- ---- the tests

-- equal texts pass the test
pub same_bytes : (a b : List ℕ) → a ≡ b → bytes_eq a b ≡ true
same_bytes a b same = (bytes_eq-Decides a b).1 same

-- different texts do not
pub other_bytes : (a b : List ℕ) → a ≢ b → bytes_eq a b ≡ false
other_bytes a b differ =
    false_from_ne_true (bytes_eq a b) (λ e. differ ((bytes_eq-Decides a b).0 e))

-- texts that pass the test are equal
pub equal : (a b : List ℕ) → bytes_eq a b ≡ true → a ≡ b
equal a b same = (bytes_eq-Decides a b).0 same

-- ---- an addition

-- where no identity has the blob, the new one stands at the end
pub put_identity-none : (new : HeldKey) (keys : List HeldKey) → find_identity new.blob keys ≡ None →
    put_identity new keys ≡ keys ++ new ∷ []
unfolding find_identity put_identity
put_identity-none new [] none = refl
put_identity-none new (key ∷ keys) none =
    let both = some_or_later (has_blob new.blob key) key (find_identity new.blob keys) none in
    rw both.0 (ap (λ (rest : List HeldKey). key ∷ rest) (put_identity-none new keys both.1))

-- ---- the length of the answer

-- an addition takes its entry in place of the one that it replaces
pub entries_len-put : (new : HeldKey) (keys : List HeldKey) →
    entries_len (put_identity new keys) + taken_by (find_identity new.blob keys) ≡ entry_len new + entries_len keys
unfolding entries_len put_identity find_identity
entries_len-put new [] = omega arith
entries_len-put new (key ∷ keys) = by_test (bytes_eq key.blob new.blob) (entries_len-put new keys)
  where
    by_test : (same : Bool) →
        entries_len (put_identity new keys) + taken_by (find_identity new.blob keys)
        ≡ entry_len new + entries_len keys →
        entries_len (cond same (new ∷ keys) (key ∷ put_identity new keys)) + taken_by (cond same (Some key) (find_identity new.blob keys))
        ≡ entry_len new + (entry_len key + entries_len keys)
    by_test true rest = omega arith
    by_test false rest = omega (arith, rest)

-- the answer after an addition has its entry in place of the one that it replaces
pub answer_len-put : (new : HeldKey) (keys : List HeldKey) (others : ℕ) →
    others + taken_by (find_identity new.blob keys) ≡ answer_len keys →
    answer_len (put_identity new keys) ≡ others + entry_len new
answer_len-put new keys others all = omega (arith, entries_len-put new keys, all)

-- whether there is room beside the others tells whether the answer fits
pub room_after : (new : HeldKey) (keys : List HeldKey) (others : ℕ) (blob comment : List ℕ) (room : Bool) → new.blob ≡ blob → new.comment ≡ comment →
    others + taken_by (find_identity blob keys) ≡ answer_len keys →
    MatchBool room (others + (8 + (length blob + length comment)) ≤ max_answer) (max_answer < others + (8 + (length blob + length comment))) →
    MatchBool room (answer_len (put_identity new keys) ≤ max_answer) (max_answer < answer_len (put_identity new keys))
room_after new keys others blob comment true is_blob is_comment all fits =
    omega (arith, answer_len-put new keys others (subst (λ (b : List ℕ). others + taken_by (find_identity b keys) ≡ answer_len keys) (sym is_blob) all), ap length is_blob, ap length is_comment, fits)
room_after new keys others blob comment false is_blob is_comment all over =
    omega (arith, answer_len-put new keys others (subst (λ (b : List ℕ). others + taken_by (find_identity b keys) ≡ answer_len keys) (sym is_blob) all), ap length is_blob, ap length is_comment, over)
