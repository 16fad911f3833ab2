-- RFC 8032's addition in extended coordinates, modulo m: its eight numbers, and that what comes out stands for the sum.
use Rattle.std.proofs.Common.{◌≡◌, ◌<◌, ℕ, ◌+◌, ◌*◌, ◌%◌, arith, refl, sym}
use Rattle.std.proofs.Math.Nat.{mod-mod}
use Rattle.curve_laws.proofs.DifferenceLemmas.{IsCongruent, IsDifference, difference, equal, fits, itself, product, products, shifted, sum, then, told}
use Rattle.curve_laws.proofs.FieldLemmas.{add, both-settled, mul, scaled, sub}
use Rattle.curve_laws.proofs.UnitLemmas.{IsUnit, unit-alike, unit-product}
use Rattle.group_laws.proofs.LineLemmas.{comes-to}
use Rattle.edwards_laws.proofs.SumLemmas.{AreUnder, IsEdwards, IsInverted, IsOn, f-inverted, g-inverted}

-- the numbers e, f, g and h of the addition: twice z1 z2, times both numerators and both denominators
pub record AreSteps (m x1 y1 z1 x2 y2 z2 f g ve vf vg vh : ℕ) : Type 0 where
  pub e_is : IsCongruent m ve (2 * z1 * z2 * (x1 * y2 + y1 * x2))
  pub f_is : IsCongruent m vf (2 * z1 * z2 * f)
  pub g_is : IsCongruent m vg (2 * z1 * z2 * g)
  pub h_is : IsCongruent m vh (2 * z1 * z2 * (y1 * y2 + x1 * x2))

-- a remainder is congruent to the number
remainder : (m v : ℕ) → IsCongruent m (v % m) v
remainder m v = record { is = mod-mod v m }

-- T as x y z
scaled-twice : (m x y z v : ℕ) → 0 < m → v ≡ mul m (mul m x y) z → IsDifference m v (x * y * z) 0
scaled-twice m x y z v some is =
    let both : IsDifference m (mul m x y) (x * y) 0 = told some (product refl (itself m x) (itself m y)) (omega arith) in
    told some (product is both (itself m z)) (omega arith)

-- the steps make these numbers
pub steps : (m d x1 y1 z1 x2 y2 z2 f g vx1 vy1 vt1 vx2 vy2 vt2 : ℕ) → 0 < m
    → vx1 ≡ mul m x1 z1 → vy1 ≡ mul m y1 z1 → vt1 ≡ mul m (mul m x1 y1) z1
    → vx2 ≡ mul m x2 z2 → vy2 ≡ mul m y2 z2 → vt2 ≡ mul m (mul m x2 y2) z2
    → AreUnder m d x1 y1 x2 y2 f g
    → AreSteps m x1 y1 z1 x2 y2 z2 f g
    (sub m (mul m (add m vy1 vx1) (add m vy2 vx2)) (mul m (sub m vy1 vx1) (sub m vy2 vx2)))
    (sub m (mul m (mul m z1 2) z2) (mul m (mul m (mul m vt1 2) d) vt2))
    (add m (mul m (mul m z1 2) z2) (mul m (mul m (mul m vt1 2) d) vt2))
    (add m (mul m (add m vy1 vx1) (add m vy2 vx2)) (mul m (sub m vy1 vx1) (sub m vy2 vx2)))
steps m d x1 y1 z1 x2 y2 z2 f g vx1 vy1 vt1 vx2 vy2 vt2 some x1_is y1_is t1_is x2_is y2_is t2_is under =
    let x1_at = scaled m x1 z1 vx1 some x1_is in
    let y1_at = scaled m y1 z1 vy1 some y1_is in
    let x2_at = scaled m x2 z2 vx2 some x2_is in
    let y2_at = scaled m y2 z2 vy2 some y2_is in
    let t1_at = scaled-twice m x1 y1 z1 vt1 some t1_is in
    let t2_at = scaled-twice m x2 y2 z2 vt2 some t2_is in
    let less1 : IsDifference m (sub m vy1 vx1) (y1 * z1) (x1 * z1) = told some (difference (fits some (x1 * z1) x1_is) refl y1_at x1_at) (omega arith) in
    let less2 : IsDifference m (sub m vy2 vx2) (y2 * z2) (x2 * z2) = told some (difference (fits some (x2 * z2) x2_is) refl y2_at x2_at) (omega arith) in
    let more1 : IsDifference m (add m vy1 vx1) (y1 * z1 + x1 * z1) 0 = told some (sum refl y1_at x1_at) (omega arith) in
    let more2 : IsDifference m (add m vy2 vx2) (y2 * z2 + x2 * z2) 0 = told some (sum refl y2_at x2_at) (omega arith) in
    let a_at : IsDifference m (mul m (sub m vy1 vx1) (sub m vy2 vx2)) (z1 * z2 * (y1 * y2 + x1 * x2)) (z1 * z2 * (y1 * x2 + x1 * y2)) = told some (product refl less1 less2) (omega arith) in
    let b_at : IsDifference m (mul m (add m vy1 vx1) (add m vy2 vx2)) (z1 * z2 * (y1 * y2 + x1 * x2 + y1 * x2 + x1 * y2)) 0 = told some (product refl more1 more2) (omega arith) in
    let twice_t : IsDifference m (mul m vt1 2) (2 * x1 * y1 * z1) 0 = told some (product refl t1_at (itself m 2)) (omega arith) in
    let scaled_t : IsDifference m (mul m (mul m vt1 2) d) (2 * d * x1 * y1 * z1) 0 = told some (product refl twice_t (itself m d)) (omega arith) in
    let c_at : IsDifference m (mul m (mul m (mul m vt1 2) d) vt2) (2 * z1 * z2 * (d * x1 * x2 * y1 * y2)) 0 = told some (product refl scaled_t t2_at) (omega arith) in
    let twice_z : IsDifference m (mul m z1 2) (2 * z1) 0 = told some (product refl (itself m z1) (itself m 2)) (omega arith) in
    let d_at : IsDifference m (mul m (mul m z1 2) z2) (2 * z1 * z2) 0 = told some (product refl twice_z (itself m z2)) (omega arith) in
    record {
      e_is = comes-to some (difference (fits some _ refl) refl b_at a_at) (2 * z1 * z2 * (x1 * y2 + y1 * x2)) (omega arith);
      f_is = comes-to some (shifted (2 * z1 * z2) 0 under.f_is (difference (fits some _ refl) refl d_at c_at)) (2 * z1 * z2 * f) (omega arith);
      g_is = comes-to some (shifted (2 * z1 * z2) 0 under.g_is (sum refl d_at c_at)) (2 * z1 * z2 * g) (omega arith);
      h_is = comes-to some (sum refl b_at a_at) (2 * z1 * z2 * (y1 * y2 + x1 * x2)) (omega arith);
    }

-- ---- the sum

-- e is x3 g, and h is y3 f
quotient-step : (m z n u v w q : ℕ) → 0 < m → IsCongruent m v (z * n) → IsCongruent m w (z * u)
    → IsCongruent m (q * u) n → IsCongruent m v (q * w)
quotient-step m z n u v w q some v_is w_is q_is =
    comes-to some (shifted 0 1 v_is (shifted z 0 q_is (shifted q 0 w_is (itself m v)))) (q * w) (omega arith)

-- a product of remainders, as a product with another
pub product-step : (m v w q x : ℕ) → IsCongruent m (v * w) (q * x) → mul m v w ≡ mul m q (x % m)
product-step m v w q x is =
    both-settled m (mul m v w) (mul m q (x % m)) (sym (mod-mod _ m)) (sym (mod-mod _ m))
    (then (remainder m (v * w)) (then is
    (then (products (equal m q q refl) (back-remainder m x)) (back-remainder m (q * (x % m))))))
  where
    back-remainder : (m x : ℕ) → IsCongruent m x (x % m)
    back-remainder m x = record { is = sym (mod-mod x m) }

-- what comes out, where (x3, y3) is the sum
pub record AreSums (m ve vf vg vh x3 y3 : ℕ) : Type 0 where
  pub x : mul m ve vf ≡ mul m x3 (mul m vf vg)
  pub y : mul m vg vh ≡ mul m y3 (mul m vf vg)
  pub t : mul m ve vh ≡ mul m (mul m x3 y3) (mul m vf vg)

-- it is so, since e is x3 g, and h is y3 f
pub sums : (m x1 y1 z1 x2 y2 z2 f g ve vf vg vh x3 y3 : ℕ) → 0 < m
    → AreSteps m x1 y1 z1 x2 y2 z2 f g ve vf vg vh
    → IsCongruent m (x3 * g) (x1 * y2 + y1 * x2) → IsCongruent m (y3 * f) (y1 * y2 + x1 * x2)
    → AreSums m ve vf vg vh x3 y3
sums m x1 y1 z1 x2 y2 z2 f g ve vf vg vh x3 y3 some are x_is y_is =
    let e_is = quotient-step m (2 * z1 * z2) (x1 * y2 + y1 * x2) g ve vg x3 some are.e_is are.g_is x_is in
    let h_is = quotient-step m (2 * z1 * z2) (y1 * y2 + x1 * x2) f vh vf y3 some are.h_is are.f_is y_is in
    record {
      x = product-step m ve vf x3 (vf * vg)
          (comes-to some (shifted 0 vf e_is (itself m (ve * vf))) (x3 * (vf * vg)) (omega arith));
      y = product-step m vg vh y3 (vf * vg)
          (comes-to some (shifted 0 vg h_is (itself m (vg * vh))) (y3 * (vf * vg)) (omega arith));
      t = product-step m ve vh (mul m x3 y3) (vf * vg)
          (comes-to some
          (shifted 0 vh e_is (shifted 0 (x3 * vg) h_is (shifted 0 (vf * vg) (reduced m x3 y3) (itself m (ve * vh)))))
          (mul m x3 y3 * (vf * vg)) (omega arith));
    }
  where
    reduced : (m x3 y3 : ℕ) → IsCongruent m (x3 * y3) (mul m x3 y3)
    reduced m x3 y3 = record { is = sym (mod-mod (x3 * y3) m) }

-- ---- Z isn't 0

-- i v is v i
unit-of-inverted : (m v : ℕ) → IsInverted m v → IsUnit m v
unit-of-inverted m v has =
    record { inverse = has.i; is = then (equal m (v * has.i) (has.i * v) (omega arith)) has.is }

-- Z is a product of numbers of which none is 0
pub z-unit : (m d x1 y1 z1 x2 y2 z2 f g ve vf vg vh : ℕ) → IsEdwards m d → IsOn m d x1 y1 → IsOn m d x2 y2
    → AreUnder m d x1 y1 x2 y2 f g → IsUnit m z1 → IsUnit m z2
    → AreSteps m x1 y1 z1 x2 y2 z2 f g ve vf vg vh → IsUnit m (mul m vf vg)
z-unit m d x1 y1 z1 x2 y2 z2 f g ve vf vg vh curve p q under z1_unit z2_unit are =
    let two = curve.field.inverts 2 (omega arith) curve.field.more in
    let twice = unit-product m (2 * z1) z2 (unit-product m 2 z1 two z1_unit) z2_unit in
    let f_unit = unit-of-inverted m f (f-inverted m d x1 y1 x2 y2 f g curve p q under) in
    let g_unit = unit-of-inverted m g (g-inverted m d x1 y1 x2 y2 f g curve p q under) in
    unit-alike m (vf * vg) (mul m vf vg) (remainder m (vf * vg))
    (unit-product m vf vg
    (unit-alike m (2 * z1 * z2 * f) vf are.f_is (unit-product m (2 * z1 * z2) f twice f_unit))
    (unit-alike m (2 * z1 * z2 * g) vg are.g_is (unit-product m (2 * z1 * z2) g twice g_unit)))
