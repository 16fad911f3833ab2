-- Strings one after another, passed over one by one.
use Rattle.std.proofs.Common.{◌≡◌, ◌==◌, ℕ, zero, suc, ◌+◌, ◌^◌, ◌<◌, ◌≤◌, Bool, true, false, cond, ltb, List, [], ◌∷◌, ◌++◌, length, take, drop, Option, Some, None, refl, sym, ap, subst, ◌∙◌, arith, inl, inr}
use Rattle.std.specs.Prelude.{◌⊎◌, ◌↔◌, IsTrue}
use Rattle.std.proofs.lemmas.Bool.{ltb-false}
use Rattle.std.proofs.lemmas.Bool.Decides.{Decides-eqb, nat_tests}
use Rattle.std.proofs.lemmas.List.{length-drop}
use Rattle.pattern_core.specs.Patterns.{Matches}
use Rattle.wire_text.specs.Wire.{IsBytes, string, announced_len}
use Rattle.wire_text.proofs.WireLemmas.{same_string}
use Rattle.wire_core.specs.Fields.{string_len, string_at}
use Rattle.wire_core.proofs.Theorems.{string_is_front, string_at-string}
use Rattle.key_blob.specs.Principals.{AreStrings, no_more, one_more, NamesHost, this, later, passed_over, are_strings_up_to, are_strings}

guard_taken : {A : Type 0} (b : Bool) (x y : A) → cond b None (Some x) ≡ Some y → (b ≡ false) × (x ≡ y)
guard_taken true x y e = absurd cc
guard_taken false x y e = (refl, cc)

-- what follows a string is shorter
pub string_shorter : (bytes : List ℕ) (found : List ℕ × List ℕ) → string_at bytes ≡ Some found → length found.1 < length bytes
unfolding string_at string_len
string_shorter bytes found taken =
    let n = announced_len bytes in
    let g = guard_taken (ltb (length bytes) (cond (ltb (length bytes) 4) 4 (4 + n))) (take n (drop 4 bytes), drop n (drop 4 bytes)) found taken in
    let enough : cond (ltb (length bytes) 4) 4 (4 + n) ≤ length bytes = ltb-false _ _ g.0 in
    let header : 4 ≤ length bytes = grind (arith, nat_tests) in
    omega (arith, header, ap (λ (x : List ℕ × List ℕ). length x.1) g.1, length-drop n (drop 4 bytes), length-drop 4 bytes)

-- ---- how many are passed over at most doesn't matter

step_same : (m n : ℕ) (bytes : List ℕ) (found : Option (List ℕ × List ℕ)) → string_at bytes ≡ found →
    ((rest : List ℕ) → length rest < length bytes → are_strings_up_to m rest ≡ are_strings_up_to n rest) →
    passed_over found (are_strings_up_to m) bytes ≡ passed_over found (are_strings_up_to n) bytes
step_same m n bytes None is same = refl
step_same m n bytes (Some found) is same = same found.1 (string_shorter bytes found is)

none_at_end : (n : ℕ) → are_strings_up_to n [] ≡ true
unfolding are_strings_up_to string_at string_len
none_at_end zero = refl
none_at_end (suc n) = refl

none_for_none : (n : ℕ) (bytes : List ℕ) → length bytes ≤ 0 → are_strings_up_to n bytes ≡ true
none_for_none n [] none = none_at_end n
none_for_none n (byte ∷ bytes) none = absurd (omega (arith, none))

up_to_same : (m n : ℕ) (bytes : List ℕ) → length bytes ≤ m → length bytes ≤ n → are_strings_up_to m bytes ≡ are_strings_up_to n bytes
unfolding are_strings_up_to
up_to_same zero n bytes in_m in_n = none_for_none zero bytes in_m ∙ sym (none_for_none n bytes in_m)
up_to_same (suc m) zero bytes in_m in_n = none_for_none (suc m) bytes in_n ∙ sym (none_for_none zero bytes in_n)
up_to_same (suc m) (suc n) bytes in_m in_n =
    step_same m n bytes (string_at bytes) refl (λ rest shorter. up_to_same m n rest (omega (arith, shorter, in_m)) (omega (arith, shorter, in_n)))

once_more : (bytes : List ℕ) → are_strings bytes ≡ passed_over (string_at bytes) (are_strings_up_to (length bytes)) bytes
unfolding are_strings are_strings_up_to
once_more bytes = up_to_same (length bytes) (suc (length bytes)) bytes (omega arith) (omega arith)

-- a string at the front is passed over
pub are_strings-step : (bytes : List ℕ) (found : List ℕ × List ℕ) → string_at bytes ≡ Some found → are_strings bytes ≡ are_strings found.1
unfolding are_strings
are_strings-step bytes found is =
    let shorter = string_shorter bytes found is in
    once_more bytes ∙ ap (λ (o : Option (List ℕ × List ℕ)). passed_over o (are_strings_up_to (length bytes)) bytes) is
    ∙ up_to_same (length bytes) (length found.1) found.1 (omega (arith, shorter)) (omega arith)

-- where none stands there, nothing may be left
pub are_strings-end : (bytes : List ℕ) → string_at bytes ≡ None → are_strings bytes ≡ (length bytes == 0)
are_strings-end bytes is =
    once_more bytes ∙ ap (λ (o : Option (List ℕ × List ℕ)). passed_over o (are_strings_up_to (length bytes)) bytes) is

-- ---- the test is right

no_bytes : (bytes : List ℕ) → (length bytes == 0) ≡ true → AreStrings bytes
no_bytes [] none = no_more
no_bytes (byte ∷ bytes) none = absurd (omega (arith, (Decides-eqb (length (byte ∷ bytes)) 0).0 none))

from_step : (n : ℕ) (bytes : List ℕ) (found : Option (List ℕ × List ℕ)) → IsBytes bytes → string_at bytes ≡ found →
    ((rest : List ℕ) → IsBytes rest → are_strings_up_to n rest ≡ true → AreStrings rest) → passed_over found (are_strings_up_to n) bytes ≡ true → AreStrings bytes
from_step n bytes None small is more test = no_bytes bytes test
from_step n bytes (Some found) small is more test =
    let front = string_is_front bytes found.0 found.1 small is in
    subst AreStrings (sym front.0.parts) (one_more found.0 found.1 front.1 (more found.1 front.0.left test))

from_up_to : (n : ℕ) (bytes : List ℕ) → IsBytes bytes → are_strings_up_to n bytes ≡ true → AreStrings bytes
unfolding are_strings_up_to
from_up_to zero bytes small test = no_bytes bytes test
from_up_to (suc n) bytes small test = from_step n bytes (string_at bytes) small refl (from_up_to n) test

pub AreStrings-from_test : (bytes : List ℕ) → IsBytes bytes → are_strings bytes ≡ true → AreStrings bytes
unfolding are_strings
AreStrings-from_test bytes small test = from_up_to (length bytes) bytes small test

pub test-from_AreStrings : {bytes : List ℕ} → AreStrings bytes → are_strings bytes ≡ true
unfolding are_strings are_strings_up_to
test-from_AreStrings no_more = refl
test-from_AreStrings (one_more text rest small more) =
    are_strings-step (string text ++ rest) (text, rest) (string_at-string text rest small) ∙ test-from_AreStrings more

-- ---- names of a host

-- the first string, and whether it is the one
record Opened (host bytes : List ℕ) : Type 0 where
  text : List ℕ
  rest : List ℕ
  parts : bytes ≡ string text ++ rest
  small : length text < 2 ^ 32
  which : Matches host text ⊎ NamesHost host rest

opened : {host bytes : List ℕ} → NamesHost host bytes → Opened host bytes
opened (this host pattern rest small match) = record { text = pattern; rest = rest; parts = refl; small = small; which = inl match }
opened (later host text rest small more) = record { text = text; rest = rest; parts = refl; small = small; which = inr more }

behind_other : (host pattern rest other after : List ℕ) → (Matches host pattern → ⊥) → (other ≡ pattern) × (after ≡ rest) →
    Matches host other ⊎ NamesHost host after → NamesHost host rest
behind_other host pattern rest other after differs same (inl match) = absurd (differs (subst (Matches host) same.0 match))
behind_other host pattern rest other after differs same (inr more) = subst (NamesHost host) same.1 more

-- a string that doesn't match is passed over
pub NamesHost-behind : (host bytes pattern rest : List ℕ) → bytes ≡ string pattern ++ rest → length pattern < 2 ^ 32 → (Matches host pattern → ⊥) →
    NamesHost host bytes ↔ NamesHost host rest
NamesHost-behind host bytes pattern rest parts small differs = (
  λ names.
      let o = opened names in
      behind_other host pattern rest o.text o.rest differs (same_string o.text pattern o.rest rest o.small small (sym o.parts ∙ parts)) o.which,
  λ names. subst (NamesHost host) (sym parts) (later host pattern rest small names),
)

-- where no string stands, there is no name
pub no_name : (host bytes : List ℕ) → string_at bytes ≡ None → NamesHost host bytes → ⊥
no_name host bytes none names =
    let o = opened names in
    let read : string_at bytes ≡ Some (o.text, o.rest) = ap string_at o.parts ∙ string_at-string o.text o.rest o.small in
    cc

-- the test for the end is the one of the length
pub end_test : (b : Bool) (bytes : List ℕ) → IsTrue b ↔ (bytes ≡ []) → b ≡ (length bytes == 0)
end_test true [] is = refl
end_test false [] is = is.1 refl
end_test true (byte ∷ bytes) is = absurd (let wrong = is.0 refl in cc)
end_test false (byte ∷ bytes) is = grind (arith, nat_tests)
