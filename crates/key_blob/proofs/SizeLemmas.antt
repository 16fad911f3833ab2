-- The number of binary digits, found byte by byte, is that of the number.
use Rattle.std.proofs.Common.{◌≡◌, ◌↔◌, ◌≢◌, ◌==◌, ℕ, zero, suc, ◌+◌, ◌-◌, ◌*◌, ◌^◌, ◌<◌, ◌≤◌, Bool, true, false, cond, List, [], ◌∷◌, ◌++◌, length, replicate, Option, None, refl, inl, inr, sym, ap, subst, ◌∙◌, arith, lit<}
use Rattle.std.specs.Prelude.{unwrap_or}
use Rattle.std.specs.Int.{w8, leading_zeros}
use Rattle.std.proofs.lemmas.Bool.{cases_lt}
use Rattle.std.proofs.lemmas.Bool.Decides.{Decides-eqb, nat_tests}
use Rattle.std.proofs.lemmas.List.Elements.{All-drop}
use Rattle.std.proofs.lemmas.Nat.{pow-add, leading_top}
use Rattle.std.proofs.Math.Nat.{mul-le-mul_right}
use Rattle.std.proofs.Math.Pow.{pow_mono}
use Rattle.wire_text.specs.Wire.{IsBytes, string}
use Rattle.wire_core.proofs.Theorems.{string_at-string}
use Rattle.key_blob.specs.KeyTypes.{key_type}
use Rattle.key_blob.specs.PublicKeys.{KeyParts}
use Rattle.key_blob.specs.Digits.{digits_of, number_of, HasDigits}
use Rattle.key_blob.specs.KeySizes.{bits_of}

-- what the bytes behind a byte are worth together
abbrev worth : List ℕ → ℕ
worth bytes = 2 ^ (8 * length bytes)

worth-cons : (byte : ℕ) (bytes : List ℕ) → worth (byte ∷ bytes) ≡ 256 * worth bytes
worth-cons byte bytes =
    let size : 8 * suc (length bytes) ≡ 8 + 8 * length bytes = omega arith in
    ap (λ (n : ℕ). 2 ^ n) size ∙ pow-add 2 8 (8 * length bytes)

number_below : (bytes : List ℕ) → IsBytes bytes → number_of bytes < worth bytes
number_below [] small = lit< tt
number_below (byte ∷ bytes) small =
    let later = number_below bytes (All-drop (λ b. b < 256) 1 (byte ∷ bytes) small) in
    let here : byte ≤ 255 = omega (arith, small 0 0 (omega arith)) in
    let product : byte * worth bytes ≤ 255 * worth bytes = mul-le-mul_right (worth bytes) here in
    omega (arith, worth-cons byte bytes, product, later)

-- a byte that is not zero leads
leads : (byte : ℕ) (bytes : List ℕ) → IsBytes (byte ∷ bytes) → byte ≢ 0 → HasDigits (number_of (byte ∷ bytes)) (8 - leading_zeros w8 byte + 8 * length bytes)
leads byte bytes small some =
    let top = leading_top 8 byte (omega arith) (small 0 0 (omega arith)) in
    let later = number_below bytes (All-drop (λ b. b < 256) 1 (byte ∷ bytes) small) in
    let digits : 8 - leading_zeros w8 byte + 8 * length bytes ≡ suc top.0 + 8 * length bytes = omega (arith, top.1) in
    let below : 2 ^ (suc top.0 + 8 * length bytes) ≡ 2 ^ suc top.0 * worth bytes = pow-add 2 (suc top.0) (8 * length bytes) in
    let least : 2 ^ (top.0 + 8 * length bytes) ≡ 2 ^ top.0 * worth bytes = pow-add 2 top.0 (8 * length bytes) in
    let above : suc byte ≤ 2 ^ suc top.0 = omega (arith, top.3) in
    let high : suc byte * worth bytes ≤ 2 ^ suc top.0 * worth bytes = mul-le-mul_right (worth bytes) above in
    let low : 2 ^ top.0 * worth bytes ≤ byte * worth bytes = mul-le-mul_right (worth bytes) top.2 in
    let split : suc byte * worth bytes ≡ byte * worth bytes + worth bytes = grind arith in
    subst (HasDigits (number_of (byte ∷ bytes))) (sym digits) (record {
      below = omega (arith, below, high, split, later);
      least = λ _.
          let first : suc top.0 + 8 * length bytes - 1 ≡ top.0 + 8 * length bytes = omega arith in
          omega (arith, ap (λ (n : ℕ). 2 ^ n) first, least, low);
    })

by_first : (byte : ℕ) (bytes : List ℕ) (b : Bool) → (byte == 0) ≡ b → IsBytes (byte ∷ bytes) → HasDigits (number_of bytes) (digits_of bytes) →
    HasDigits (number_of (byte ∷ bytes)) (cond b (digits_of bytes) (8 - leading_zeros w8 byte + 8 * length bytes))
by_first byte bytes true is small later =
    let none : byte ≡ 0 = (Decides-eqb byte 0).0 is in
    let same : number_of bytes ≡ number_of (byte ∷ bytes) = rw none (omega arith) in
    subst (λ (n : ℕ). HasDigits n (digits_of bytes)) same later
by_first byte bytes false is small later = leads byte bytes small (grind (arith, nat_tests))

-- the digits that are found are those of the number
pub digits_of-HasDigits : (bytes : List ℕ) → IsBytes bytes → HasDigits (number_of bytes) (digits_of bytes)
digits_of-HasDigits [] small = record { below = lit< tt; least = λ h. absurd (omega arith) }
digits_of-HasDigits (byte ∷ bytes) small =
    by_first byte bytes (byte == 0) refl small (digits_of-HasDigits bytes (All-drop (λ b. b < 256) 1 (byte ∷ bytes) small))

-- a number has so many digits at most exactly where it is below that power of 2
pub digits_are_within : (bytes : List ℕ) (most : ℕ) → IsBytes bytes → (digits_of bytes ≤ most) ↔ (number_of bytes < 2 ^ most)
digits_are_within bytes most small =
    let is = digits_of-HasDigits bytes small in (
      λ within. omega (arith, is.below, pow_mono within),
      λ below.
          elim (cases_lt most (digits_of bytes)) [
            | inr within ↦ within
            | inl more ↦
                let least : most ≤ digits_of bytes - 1 = omega arith in
                absurd (omega (arith, below, is.least (omega arith), pow_mono least))
          ],
    )

-- zeros have none
pub digits_of-zeros : (count : ℕ) → digits_of (replicate count 0) ≡ 0
digits_of-zeros zero = refl
digits_of-zeros (suc count) = digits_of-zeros count

-- of two numbers of digits the one is not less than the other
no_fewer : (number a b : ℕ) → HasDigits number a → HasDigits number b → b ≤ a
no_fewer number a b is_a is_b =
    elim (cases_lt a b) [
      | inr within ↦ within
      | inl more ↦
          let within : a ≤ b - 1 = omega arith in
          absurd (omega (arith, is_a.below, is_b.least (omega arith), pow_mono within))
    ]

-- a number has one number of digits
pub digits_are_unique : (number a b : ℕ) → HasDigits number a → HasDigits number b → a ≡ b
digits_are_unique number a b is_a is_b =
    omega (arith, no_fewer number a b is_a is_b, no_fewer number b a is_b is_a)

-- the size of a key whose type doesn't tell it
by_type : (bits : Option ℕ) (digits : ℕ) → bits ≡ None → unwrap_or bits digits ≡ digits
by_type bits digits none = rw none refl

-- the size of such a key is the number of its modulus's digits
pub bits_of-modulus : (key : KeyParts) (e n rest : List ℕ) → (key_type key.kind).bits ≡ None
    → key.fields ≡ string e ++ (string n ++ rest) → length e < 2 ^ 32 → length n < 2 ^ 32 → IsBytes n
    → HasDigits (number_of n) (bits_of key)
bits_of-modulus key e n rest none fields e_fits n_fits each =
    rw (by_type (key_type key.kind).bits _ none, fields, string_at-string e (string n ++ rest) e_fits, string_at-string n rest n_fits)
    (digits_of-HasDigits n each)
