-- Roots modulo p, and points that they give.
use Rattle.std.proofs.Common.{◌≡◌, ◌<◌, ◌≤◌, ◌-◌, ℕ, ◌+◌, ◌*◌, ◌%◌, arith, ap, refl, sym, ◌∙◌}
use Rattle.std.proofs.Math.Nat.{add-mod_right, mod-eq_of_lt, mod-mod}
use Rattle.std.proofs.lemmas.Nat.{mod_below, mul-mod_second}
use Rattle.field25519.specs.Field.{prime}
use Rattle.curve25519.specs.Encoding.{root_of_minus_one}
use Rattle.curve_laws.proofs.DifferenceLemmas.{IsCongruent, equal, products, sums, then, without}
use Rattle.curve_laws.proofs.FieldLemmas.{mul, opposite, sub}
use Rattle.edwards_laws.proofs.CurveLemmas.{some}

-- a remainder, by a product within it
pub root-of-first : (m u v r w : ℕ) → u < m → w ≡ (v * ((r * r) % m)) % m → w ≡ u → IsCongruent m (v * (r * r)) u
root-of-first m u v r w below w_is same =
    record { is = sym (mul-mod_second v (r * r) m) ∙ sym w_is ∙ same ∙ sym (mod-eq_of_lt below) }

-- i r is the root of the opposite
root-of-second : (m u v r i w : ℕ) → 0 < m → IsCongruent m (i * i + 1) 0 → IsCongruent m (u + w) 0
    → IsCongruent m (v * (r * r)) w → IsCongruent m (v * ((r * i) * (r * i))) u
root-of-second m u v r i w some i_is w_is is =
    let turned : IsCongruent m (v * ((r * i) * (r * i))) (w * (i * i)) =
    then (equal m (v * ((r * i) * (r * i))) (v * (r * r) * (i * i)) (omega arith))
    (products is (equal m (i * i) (i * i) refl)) in
    let none : IsCongruent m (w * (i * i) + w) 0 =
    then (equal m (w * (i * i) + w) (w * (i * i + 1)) (omega arith))
    (then (products (equal m w w refl) i_is) (equal m (w * 0) 0 (omega arith))) in
    let same : IsCongruent m (w * (i * i) + w) (u + w) = then none (record { is = sym w_is.is }) in
    then turned (without w some same)

-- the opposite has the same square
pub opposite-square : (m r x : ℕ) → 0 < m → IsCongruent m (r + x) 0 → IsCongruent m (x * x) (r * r)
opposite-square m r x some is =
    let left : IsCongruent m (x * x + x * r) 0 =
    then (equal m (x * x + x * r) (x * (r + x)) (omega arith))
    (then (products (equal m x x refl) is) (equal m (x * 0) 0 (omega arith))) in
    let right : IsCongruent m (r * r + x * r) 0 =
    then (equal m (r * r + x * r) (r * (r + x)) (omega arith))
    (then (products (equal m r r refl) is) (equal m (r * 0) 0 (omega arith))) in
    without (x * r) some (then left (record { is = sym right.is }))

-- x is on the curve where x x (d y y + 1) is y y - 1
pub on-curve : (m d x y u v : ℕ) → IsCongruent m (u + 1) (y * y) → IsCongruent m v (d * (y * y) + 1)
    → IsCongruent m (v * (x * x)) u → IsCongruent m (y * y) (x * x + 1 + d * x * x * y * y)
on-curve m d x y u v u_is v_is is =
    let one_more : IsCongruent m (v * (x * x) + 1) (u + 1) = sums is (equal m 1 1 refl) in
    let spread : IsCongruent m ((d * (y * y) + 1) * (x * x) + 1) (v * (x * x) + 1) =
    sums (products (record { is = sym v_is.is }) (equal m (x * x) (x * x) refl)) (equal m 1 1 refl) in
    let other = then spread (then one_more u_is) in
    record { is = sym other.is ∙ ap (λ k. k % m) (the-same d (x * x) (y * y) x y) }
  where
    the-same : (d xx yy x y : ℕ) → (d * (y * y) + 1) * (x * x) + 1 ≡ x * x + 1 + d * x * x * y * y
    the-same d xx yy x y = omega arith

-- below m is at most m
pub within : (x : ℕ) → x < prime → x ≤ prime
within x below = omega arith

-- a remainder is congruent to its number
pub remainder : (m a r : ℕ) → a % m ≡ r → 0 < m → IsCongruent m r a
remainder m a r is more = record { is = ap (λ k. k % m) (sym is) ∙ mod-mod a m }

-- the second root
pub second-root : (u v c r w : ℕ) → u < prime → w ≡ (v * ((c * c) % prime)) % prime
    → w ≡ (0 + (prime - u)) % prime → (c * root_of_minus_one) % prime ≡ r → IsCongruent prime (v * (r * r)) u
second-root u v c r w below w_is opposite_is r_is =
    let i = root_of_minus_one in
    let w_below : w < prime = rw w_is (mod_below (v * ((c * c) % prime)) prime some) in
    let square = root-of-first prime w v c w w_below w_is refl in
    let none : IsCongruent prime (u + w) 0 = rw (sym opposite_is) at (opposite prime u some (within u below)) in
    let r_at = remainder prime (c * i) r r_is some in
    then (products (equal prime v v refl) (products r_at r_at)) (root-of-second prime u v c i w some (record { is = refl }) none square)

-- ---- what y gives

-- k - 1, and 1
pub less-one : (m k : ℕ) → 0 < m → IsCongruent m ((k % m + (m - 1)) % m + 1) k
less-one m k more =
    let whole : k % m + (m - 1) + 1 ≡ k % m + m = omega arith in
    then (sums (remainder m (k % m + (m - 1)) ((k % m + (m - 1)) % m) refl more) (equal m 1 1 refl))
    (then (equal m (k % m + (m - 1) + 1) (k % m + m) whole)
    (then (record { is = add-mod_right (k % m) m }) (remainder m k (k % m) refl more)))

-- d k + 1
pub one-more : (m d k : ℕ) → 0 < m → IsCongruent m ((d * (k % m) % m + 1) % m) (d * k + 1)
one-more m d k more =
    then (remainder m (d * (k % m) % m + 1) ((d * (k % m) % m + 1) % m) refl more)
    (sums (then (remainder m (d * (k % m)) (d * (k % m) % m) refl more)
    (products (equal m d d refl) (remainder m k (k % m) refl more))) (equal m 1 1 refl))

-- ---- opposites

-- - (x z) is (- x) z
pub negated-product : (m x z : ℕ) → 0 < m → x ≤ m → (x * z) % m ≤ m
    → sub m 0 ((x * z) % m) ≡ mul m (sub m 0 x) z
negated-product m x z more fits product_fits =
    let k = (x * z) % m in
    let w = sub m 0 x in
    let s = sub m 0 k in
    let k_is = remainder m (x * z) k refl more in
    let left : IsCongruent m (s + x * z) 0 =
    then (sums (equal m s s refl) (record { is = sym k_is.is }))
    (then (equal m (s + k) (k + s) (omega arith)) (opposite m k more product_fits)) in
    let right : IsCongruent m (w * z + x * z) 0 =
    then (equal m (w * z + x * z) ((x + w) * z) (omega arith))
    (then (products (opposite m x more fits) (equal m z z refl)) (equal m (0 * z) 0 (omega arith))) in
    let same = without (x * z) more (then left (record { is = sym right.is })) in
    sym (mod-eq_of_lt (mod_below _ m more)) ∙ same.is

-- a square in place of another
pub squares : (u v x r : ℕ) → IsCongruent prime (x * x) (r * r) → IsCongruent prime (v * (r * r)) u
    → IsCongruent prime (v * (x * x)) u
squares u v x r same is = then (products (equal prime v v refl) same) is
