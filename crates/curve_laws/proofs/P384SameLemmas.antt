-- Coordinates of one point of P-384 have one x, one y and one encoding; what is decoded is a point.
use Rattle.std.proofs.Common.{◌≡◌, ◌<◌, ◌-◌, ◌∷◌, ◌++◌, ℕ, List, take, drop, slice_index, Some, None, Bool, true, false, zero, suc, ◌*◌, ◌%◌, ◌^◌, arith, ap, refl, sym, ◌∙◌, nat_eq, nat_lt, if◌then◌else◌}
use Rattle.std.proofs.Math.Nat.{pow-succ'}
use Rattle.wide_words.specs.Numbers.{big_endian, octets}
use Rattle.p384_field.specs.Field.{field_inv, field_mul, field_pow, prime}
use Rattle.p384_curve.specs.declared.point.Point.{Point}
use Rattle.p384_curve.specs.Encoding.{affine_x, affine_y, decoded, encoded, is_on_curve, valid_point}
use Rattle.p384_curve.specs.Points.{IsOnCurve, point_at}
use Rattle.curve_laws.proofs.P384RootLemmas.{quotient-x, quotient-y}
use Rattle.curve_laws.specs.P384.{Affine, At, IsFinite, HasPoint, StandsFor, for_finite, for_infinity}

-- ---- the point at infinity has the coordinates 0

zero-times : (i : ℕ) → (0 * i) % prime ≡ 0
zero-times i = omega arith

times-zero : (i : ℕ) → (i * 0) % prime ≡ 0
times-zero i = omega arith

x-of-infinity : (p : Point) → p.x ≡ 0 → affine_x p ≡ 0
unfolding affine_x field_mul
x-of-infinity p none = ap (λ k. (k * field_inv p.z) % prime) none ∙ zero-times (field_inv p.z)

-- 0 to a power above 0
no-power : (n : ℕ) → 0 < n → 0 ^ n ≡ 0
no-power zero some = absurd (omega arith)
no-power (suc n) some = pow-succ' 0 n ∙ (omega arith)

-- 0 counts as the inverse of 0
no-inverse : field_inv 0 ≡ 0
unfolding field_inv field_pow
no-inverse = ap (λ k. k % prime) (no-power (prime - 2) (omega arith))

y-of-infinity : (p : Point) → p.z ≡ 0 → affine_y p ≡ 0
unfolding affine_y field_mul
y-of-infinity p none =
    ap (λ k. (p.y * k) % prime) (ap (λ z. field_inv z) none ∙ no-inverse) ∙ times-zero p.y

-- ---- one point

pub same-x : (p q : Point) (z : Affine) → StandsFor p z → StandsFor q z → affine_x p ≡ affine_x q
same-x p q _ (for_infinity p_at _) (for_infinity q_at _) = x-of-infinity p p_at.x_is ∙ sym (x-of-infinity q q_at.x_is)
same-x p q _ (for_finite x y on p_at p_some) (for_finite _ _ on' q_at q_some) =
    quotient-x p x y (for_finite x y on p_at p_some) ∙ sym (quotient-x q x y (for_finite x y on' q_at q_some))

same-y : (p q : Point) (z : Affine) → StandsFor p z → StandsFor q z → affine_y p ≡ affine_y q
same-y p q _ (for_infinity p_at _) (for_infinity q_at _) = y-of-infinity p p_at.z_is ∙ sym (y-of-infinity q q_at.z_is)
same-y p q _ (for_finite x y on p_at p_some) (for_finite _ _ on' q_at q_some) =
    quotient-y p x y (for_finite x y on p_at p_some) ∙ sym (quotient-y q x y (for_finite x y on' q_at q_some))

pub same-encoding : (p q : Point) (z : Affine) → StandsFor p z → StandsFor q z → encoded p ≡ encoded q
unfolding encoded
same-encoding p q z p_is q_is =
    ap (λ x. 4 ∷ (octets 48 x ++ octets 48 (affine_y p))) (same-x p q z p_is q_is)
    ∙ ap (λ y. 4 ∷ (octets 48 (affine_x q) ++ octets 48 y)) (same-y p q z p_is q_is)

-- ---- what is decoded

-- (x : y : 1) of a point of the curve
pub point-stands : (x y : ℕ) → IsFinite x y → StandsFor (point_at x y) (At x y)
unfolding point_at field_mul
point-stands x y on =
    let x_below = on.x_below in
    let y_below = on.y_below in
    for_finite x y on (record { x_is = omega arith; y_is = omega arith })
    (record { some = omega arith; below = omega arith })

-- the tests that a point of two numbers passed
curve-equation : (x y : ℕ) → is_on_curve x y ≡ true → IsOnCurve x y
unfolding is_on_curve
curve-equation x y is = grind arith

by-tests : (x y : ℕ) (q : Point) (first second third : Bool) → nat_lt x prime ≡ first → nat_lt y prime ≡ second
    → is_on_curve x y ≡ third
    → (if first then (if second then (if third then Some (point_at x y) else None) else None) else None) ≡ Some q
    → IsFinite x y × (point_at x y ≡ q)
by-tests x y q true true true first_is second_is third_is is =
    (record { x_below = grind arith; y_below = grind arith; on_curve = curve-equation x y third_is }, grind arith)
by-tests x y q true true false first_is second_is third_is is = absurd (grind arith)
by-tests x y q true false third first_is second_is third_is is = absurd (grind arith)
by-tests x y q false second third first_is second_is third_is is = absurd (grind arith)

valid-stands : (x y : ℕ) (q : Point) → valid_point x y ≡ Some q → StandsFor q (At x y)
unfolding valid_point
valid-stands x y q is =
    let tests = by-tests x y q (nat_lt x prime) (nat_lt y prime) (is_on_curve x y) refl refl refl is in
    rw tests.1 at (point-stands x y tests.0)

-- the byte 04 was first
by-mark : (q : Point) (x y : ℕ) (mark : Bool) → (if mark then valid_point x y else None) ≡ Some q → StandsFor q (At x y)
by-mark q x y true is = valid-stands x y q is
by-mark q x y false is = absurd (grind arith)

-- what is decoded stands for a point of the curve
pub decoded-stands : (bytes : List ℕ) (q : Point) → decoded bytes ≡ Some q → HasPoint q
unfolding decoded
decoded-stands bytes q is = record {
  x = big_endian (take 48 (drop 1 bytes));
  y = big_endian (take 48 (drop 49 bytes));
  is = by-mark q _ _ (nat_eq (slice_index bytes 0) 4) is;
}
