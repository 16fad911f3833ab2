-- Sets of places as the bits of a word.
use Rattle.std.proofs.Common.{◌≡◌, ◌==◌, ◌&&◌, ◌||◌, ◌-◌, ◌<◌, ◌^◌, ◌/◌, ◌+◌, ℕ, min, max, leb, cond, Bool, true, false, List, length, get_or, map, bit_and, refl, ap, sym, ◌∙◌, arith, inl, inr}
use Rattle.std.specs.Int.{bit_at}
use Rattle.std.specs.Int.RustNames.{bit_or}
use Rattle.std.proofs.lemmas.Bool.Decides.{nat_tests, leb_tells}
use Rattle.std.proofs.lemmas.Nat.Bits.{bit_at_and, bit_at_or, bit_at-lt, bit_at-zero, bit_at_ones, bit_at_ones_above, ones_shr}
use Rattle.std.proofs.lemmas.Simd.{bit_mask_l}
use Rattle.std.proofs.lemmas.List.{get_or-map}
use Rattle.std.specs.Simd.Lanes.{mask_l}
use Rattle.pattern_core.specs.Pieces.{has_place}

-- two bits, both
pub both_bits : (a b : ℕ) → a < 2 → b < 2 → (min a b == 1) ≡ (a == 1 && b == 1)
both_bits a b below within = grind (arith, nat_tests)

-- two bits, one of them
pub either_bit : (a b : ℕ) → a < 2 → b < 2 → (max a b == 1) ≡ (a == 1 || b == 1)
either_bit a b below within = grind (arith, nat_tests)

-- the places of both words
pub has_place-and : (a b k : ℕ) → has_place (bit_and a b) k ≡ (has_place a k && has_place b k)
has_place-and a b k = ap (λ n. n == 1) (bit_at_and a b k) ∙ both_bits (bit_at a k) (bit_at b k) (bit_at-lt a k) (bit_at-lt b k)

-- the places of either word
pub has_place-or : (a b k : ℕ) → has_place (bit_or a b) k ≡ (has_place a k || has_place b k)
has_place-or a b k = ap (λ n. n == 1) (bit_at_or a b k) ∙ either_bit (bit_at a k) (bit_at b k) (bit_at-lt a k) (bit_at-lt b k)

-- a bit that stands for a test
pub bit_of_test : (b : Bool) → (cond b 1 0 == 1) ≡ b
bit_of_test true = refl
bit_of_test false = refl

-- the places of a list of tests
pub has_place-mask : (test : ℕ → Bool) (bytes : List ℕ) (k : ℕ) → k < length bytes
    → has_place (mask_l (map test bytes)) k ≡ test (get_or bytes k 0)
has_place-mask test bytes k below =
    ap (λ n. n == 1) (bit_mask_l (map test bytes) k) ∙ bit_of_test (get_or (map test bytes) k false) ∙ get_or-map test bytes k 0 false below

-- the places up to the last
pub has_place-to : (last k : ℕ) → k < 64 → has_place ((2 ^ 64 - 1) / 2 ^ (63 - min last 63)) k ≡ leb k last
has_place-to last k below =
    let m = min last 63 in
    let shift : 64 - (63 - m) ≡ m + 1 = omega arith in
    let word : (2 ^ 64 - 1) / 2 ^ (63 - m) ≡ 2 ^ (m + 1) - 1 =
    ones_shr 64 (63 - m) (omega arith) ∙ ap (λ n. 2 ^ n - 1) shift in
    elim (leb_tells k last) [
      | inl h ↦ ap (λ w. has_place w k) word ∙ ap (λ n. n == 1) (bit_at_ones (m + 1) k (omega (arith, h.1))) ∙ sym h.0
      | inr h ↦ ap (λ w. has_place w k) word ∙ ap (λ n. n == 1) (bit_at_ones_above (m + 1) k (omega (arith, h.1))) ∙ sym h.0
    ]

-- a word that is 0 has no place
pub has_place-nothing : (k : ℕ) → has_place 0 k ≡ false
has_place-nothing k = ap (λ n. n == 1) (bit_at-zero k)
