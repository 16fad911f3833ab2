-- Lemmas on the first LF of a text.
use Rattle.std.proofs.Common.{◌≡◌, ℕ, suc, ◌+◌, ◌<◌, ◌≤◌, List, [], ◌∷◌, ◌++◌, length, take, drop, refl, ap, subst, arith, Option, Some, None, Bool, true, false, not, nat_lt, cond, MatchOption, position}
use Rattle.std.proofs.lemmas.Bool.Decides.{nat_tests}
use Rattle.std.proofs.lemmas.List.{take_all}
use Rattle.std.specs.List.{position_or_len}
use Rattle.replay_run.specs.GoesOn.{is_lf, HasNoLf, IsLineEnd}

-- one byte more at the front, by whether it ends a line
front_by_test : (byte place : ℕ) (bytes : List ℕ) (test : Bool) → is_lf byte ≡ test
    → HasNoLf (take place bytes) → HasNoLf (take (cond (not test) (1 + place) 0) (byte ∷ bytes))
front_by_test byte place bytes true is rest = tt
front_by_test byte place bytes false is rest =
    let next : 1 + place ≡ suc place = omega arith in
    rw next (is, rest)

-- no line ends before the first LF
lf-front : (bytes : List ℕ) → HasNoLf (take (position_or_len is_lf bytes) bytes)
lf-front [] = tt
lf-front (byte ∷ bytes) =
    front_by_test byte (position_or_len is_lf bytes) bytes (is_lf byte) refl (lf-front bytes)

split_by_test : (byte place : ℕ) (bytes : List ℕ) (test : Bool) → is_lf byte ≡ test
    → (place < length bytes → take place bytes ++ 10 ∷ drop (place + 1) bytes ≡ bytes)
    → cond (not test) (1 + place) 0 < length (byte ∷ bytes)
    → take (cond (not test) (1 + place) 0) (byte ∷ bytes) ++ 10 ∷ drop (cond (not test) (1 + place) 0 + 1) (byte ∷ bytes) ≡ byte ∷ bytes
split_by_test byte place bytes true is rest within =
    let same : 10 ≡ byte = grind (arith, nat_tests) in
    ap (λ b. b ∷ bytes) same
split_by_test byte place bytes false is rest within =
    let next : 1 + place ≡ suc place = omega arith in
    let after : suc place + 1 ≡ suc (place + 1) = omega arith in
    rw next (rw after (ap (λ bs. byte ∷ bs) (rest (omega arith))))

-- the text is what stands before it, the LF and what stands behind it
lf-split : (bytes : List ℕ) → position_or_len is_lf bytes < length bytes
    → take (position_or_len is_lf bytes) bytes ++ 10 ∷ drop (position_or_len is_lf bytes + 1) bytes ≡ bytes
lf-split [] within = absurd (omega arith)
lf-split (byte ∷ bytes) within = split_by_test byte (position_or_len is_lf bytes) bytes (is_lf byte) refl (λ h. lf-split bytes h) within

-- by whether there is one
lf_by_test : (bytes : List ℕ) (test : Bool)
    → nat_lt (position_or_len is_lf bytes) (length bytes) ≡ test
    → MatchOption (cond test (Some (position_or_len is_lf bytes)) None) (HasNoLf bytes) (IsLineEnd bytes)
lf_by_test bytes true is =
    let within : position_or_len is_lf bytes < length bytes = grind (arith, nat_tests) in
    record { within = within; front = lf-front bytes; split = lf-split bytes within }
lf_by_test bytes false is =
    let past : length bytes ≤ position_or_len is_lf bytes = grind (arith, nat_tests) in
    subst (λ (bs : List ℕ). HasNoLf bs) (take_all (position_or_len is_lf bytes) bytes past) (lf-front bytes)

-- what a search for the first LF finds
pub lf_found : (bytes : List ℕ) (found : Option ℕ) → found ≡ position is_lf bytes
    → MatchOption found (HasNoLf bytes) (IsLineEnd bytes)
lf_found bytes found is =
    rw is (lf_by_test bytes (nat_lt (position_or_len is_lf bytes) (length bytes)) refl)
