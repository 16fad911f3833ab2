-- Numbers of a signature modulo n, and the tests of numbers.
use Rattle.std.proofs.Common.{◌≡◌, ◌<◌, ℕ, ◌+◌, ◌*◌, true, false, nat_eq, nat_lt, if◌then◌else◌, arith}
use Rattle.std.proofs.lemmas.Bool.Decides.{nat_tests}
use Rattle.curve_laws.proofs.DifferenceLemmas.{IsCongruent, itself, shifted}
use Rattle.group_laws.proofs.LineLemmas.{comes-to}

-- u1 + u2 d is k, where s is (e + r d) / k, u1 is e / s and u2 is r / s: i is 1 / k, w is 1 / s
pub nonce-is : (m k i s e r d w u1 u2 : ℕ) → 0 < m → IsCongruent m (k * i) 1
    → IsCongruent m s (i * (e + r * d)) → IsCongruent m (s * w) 1
    → IsCongruent m u1 (e * w) → IsCongruent m u2 (r * w) → IsCongruent m (u1 + u2 * d) k
nonce-is m k i s e r d w u1 u2 some i_is s_is w_is u1_is u2_is =
    comes-to some
    (shifted 0 1 u1_is (shifted 0 d u2_is (shifted (e * w + r * d * w) 0 i_is (shifted (k * w) 0 s_is
    (shifted 0 k w_is (itself m (u1 + u2 * d)))))))
    k (omega arith)

-- what a test of a range says
pub range-says : (k n : ℕ) → (if nat_lt 0 k then nat_lt k n else false) ≡ true → (0 < k) × (k < n)
range-says k n is = grind (arith, nat_tests)

-- and what passes it
pub in-range : (k n : ℕ) → 0 < k → k < n → (if nat_lt 0 k then nat_lt k n else false) ≡ true
in-range k n some below = grind (arith, nat_tests)

-- neither number is 0
pub usable-says : (r s : ℕ) → (if nat_eq r 0 then false else (if nat_eq s 0 then false else true)) ≡ true
    → (0 < r) × (0 < s)
usable-says r s is = grind (arith, nat_tests)
