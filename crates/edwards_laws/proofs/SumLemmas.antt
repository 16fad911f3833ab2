-- Sums on - x ^ 2 + y ^ 2 = 1 + d x ^ 2 y ^ 2 modulo m, where - 1 is a square and d isn't: no denominator is 0, the sum of points
-- is a point, and one alone.
use Rattle.std.proofs.Common.{◌≡◌, ◌⊎◌, ◌<◌, ℕ, ◌+◌, ◌*◌, ◌%◌, arith, refl, ◌∙◌, inl, inr}
use Rattle.std.proofs.Math.Nat.{mod-eq_of_lt, zero-mod}
use Rattle.curve_laws.proofs.DifferenceLemmas.{IsCongruent, back, equal, itself, shifted, then}
use Rattle.group_laws.proofs.FieldLemmas.{IsField, decided, has-difference, has-quotient, settle, some-of}
use Rattle.group_laws.proofs.LineLemmas.{comes-to}
use Rattle.edwards_laws.proofs.OnCurveLemmas.{squares-on-curve}
use Rattle.edwards_laws.proofs.FractionLemmas.{both-none, d-is-square, fraction-on-curve, other-root, root-of-d, w-one-by-f, w-one-by-g}

-- a field in which i is a root of - 1, and d has none
pub record IsEdwards (m d : ℕ) : Type 0 where
  pub field : IsField m
  pub i : ℕ
  pub i_is : IsCongruent m (i * i + 1) 0
  pub no_square : (r : ℕ) → IsCongruent m (r * r) d → ⊥

-- a point of the curve
pub record IsOn (m d x y : ℕ) : Type 0 where
  pub x_below : x < m
  pub y_below : y < m
  pub on : IsCongruent m (y * y) (x * x + 1 + d * x * x * y * y)

-- what stands under the sum's y and x
pub record AreUnder (m d x1 y1 x2 y2 f g : ℕ) : Type 0 where
  pub f_is : IsCongruent m (f + d * x1 * x2 * y1 * y2) 1
  pub g_is : IsCongruent m g (1 + d * x1 * x2 * y1 * y2)

-- (x3, y3) is the sum, where f and g stand under y and x
pub record IsSumOver (m d x1 y1 x2 y2 f g x3 y3 : ℕ) : Type 0 where
  pub under : AreUnder m d x1 y1 x2 y2 f g
  pub x_below : x3 < m
  pub y_below : y3 < m
  pub x : IsCongruent m (x3 * g) (x1 * y2 + y1 * x2)
  pub y : IsCongruent m (y3 * f) (y1 * y2 + x1 * x2)

-- ---- no denominator is 0

-- 1 isn't 0
no-equal : (n : ℕ) → n ≡ 1 → n ≡ 0 → ⊥
no-equal n one none = omega arith

-- m is more than 1
above-one : (m : ℕ) → 2 < m → 1 < m
above-one m more = omega arith

-- modulo which 1 is not 0
one-some : (m : ℕ) → 2 < m → IsCongruent m 1 0 → ⊥
one-some m more is = no-equal (1 % m) (mod-eq_of_lt (above-one m more)) (is.is ∙ zero-mod m)

-- where w = d x1 x2 y1 y2 has the square 1, and y2 + i x2 isn't 0, d would be a square
square-at : (m d x1 y1 x2 y2 w i : ℕ) → IsEdwards m d
    → IsCongruent m (y1 * y1) (x1 * x1 + 1 + d * x1 * x1 * y1 * y1)
    → IsCongruent m (y2 * y2) (x2 * x2 + 1 + d * x2 * x2 * y2 * y2)
    → IsCongruent m w (d * x1 * x2 * y1 * y2) → IsCongruent m (w * w) 1
    → IsCongruent m (i * i + 1) 0 → (IsCongruent m (x1 * y1 * (y2 + i * x2)) 0 → ⊥) → ⊥
square-at m d x1 y1 x2 y2 w i curve e1 e2 w_is w_one i_is some_at =
    let some = some-of m curve.field.more in
    let k = has-quotient m 0 (x1 * y1 * (y2 + i * x2)) curve.field (λ is. some_at (back is)) in
    let square = d-is-square m x1 y1 x2 y2 d i w some e1 e2 w_is w_one i_is in
    let k_is = then k.is (equal m (k.i * 0 + 1) 1 (omega arith)) in
    curve.no_square ((y1 + i * w * x1) * k.i) (root-of-d m x1 y1 x2 y2 d i k.i (y1 + i * w * x1) some square k_is)

-- one of y2 + i x2 and y2 - i x2 isn't 0
square-by : (m d x1 y1 x2 y2 w : ℕ) → IsEdwards m d
    → IsCongruent m (y1 * y1) (x1 * x1 + 1 + d * x1 * x1 * y1 * y1)
    → IsCongruent m (y2 * y2) (x2 * x2 + 1 + d * x2 * x2 * y2 * y2)
    → IsCongruent m w (d * x1 * x2 * y1 * y2) → IsCongruent m (w * w) 1
    → (i j : ℕ) → IsCongruent m (i * i + 1) 0 → IsCongruent m (j + i) 0
    → IsCongruent m (x1 * y1 * (y2 + i * x2)) 0 ⊎ (IsCongruent m (x1 * y1 * (y2 + i * x2)) 0 → ⊥)
    → IsCongruent m (x1 * y1 * (y2 + j * x2)) 0 ⊎ (IsCongruent m (x1 * y1 * (y2 + j * x2)) 0 → ⊥)
    → ⊥
square-by m d x1 y1 x2 y2 w curve e1 e2 w_is w_one i j i_is ij (inr some_at) _ =
    square-at m d x1 y1 x2 y2 w i curve e1 e2 w_is w_one i_is some_at
square-by m d x1 y1 x2 y2 w curve e1 e2 w_is w_one i j i_is ij (inl none_at) (inr some_at) =
    square-at m d x1 y1 x2 y2 w j curve e1 e2 w_is w_one (other-root m i j (some-of m curve.field.more) i_is ij) some_at
square-by m d x1 y1 x2 y2 w curve e1 e2 w_is w_one i j i_is ij (inl i_none) (inl j_none) =
    let some = some-of m curve.field.more in
    let half = curve.field.inverts 2 (omega arith) curve.field.more in
    one-some m curve.field.more (both-none m x1 y1 x2 y2 d i j w half.inverse some i_none j_none ij half.is w_is w_one)

-- d x1 x2 y1 y2 isn't 1 or - 1
not-one : (m d x1 y1 x2 y2 : ℕ) → IsEdwards m d → IsOn m d x1 y1 → IsOn m d x2 y2
    → IsCongruent m (d * x1 * x2 * y1 * y2 * (d * x1 * x2 * y1 * y2)) 1 → ⊥
not-one m d x1 y1 x2 y2 curve p q w_one =
    let j = has-difference m 0 curve.i (some-of m curve.field.more) in
    square-by m d x1 y1 x2 y2 (d * x1 * x2 * y1 * y2) curve p.on q.on
    (equal m (d * x1 * x2 * y1 * y2) (d * x1 * x2 * y1 * y2) refl) w_one curve.i j.d curve.i_is j.is
    (decided m (x1 * y1 * (y2 + curve.i * x2)) 0) (decided m (x1 * y1 * (y2 + j.d * x2)) 0)

-- i is 1 / v
pub record IsInverted (m v : ℕ) : Type 0 where
  pub i : ℕ
  pub is : IsCongruent m (i * v) 1

-- what is not 0 has an inverse
inverted : (m v : ℕ) → IsField m → (IsCongruent m v 0 → ⊥) → IsInverted m v
inverted m v field some_at =
    let k = has-quotient m 0 v field (λ is. some_at (back is)) in
    record { i = k.i; is = then k.is (equal m (k.i * 0 + 1) 1 (omega arith)) }

-- one can divide by f
pub f-inverted : (m d x1 y1 x2 y2 f g : ℕ) → IsEdwards m d → IsOn m d x1 y1 → IsOn m d x2 y2
    → AreUnder m d x1 y1 x2 y2 f g → IsInverted m f
f-inverted m d x1 y1 x2 y2 f g curve p q under =
    inverted m f curve.field (λ none.
    not-one m d x1 y1 x2 y2 curve p q
    (w-one-by-f m (d * x1 * x2 * y1 * y2) f (some-of m curve.field.more) under.f_is none))

-- and by g
pub g-inverted : (m d x1 y1 x2 y2 f g : ℕ) → IsEdwards m d → IsOn m d x1 y1 → IsOn m d x2 y2
    → AreUnder m d x1 y1 x2 y2 f g → IsInverted m g
g-inverted m d x1 y1 x2 y2 f g curve p q under =
    inverted m g curve.field (λ none.
    not-one m d x1 y1 x2 y2 curve p q
    (w-one-by-g m (d * x1 * x2 * y1 * y2) g (some-of m curve.field.more) under.g_is none))

-- ---- one sum, a point

-- the sum of points is a point
pub sum-on : (m d x1 y1 x2 y2 f g x3 y3 : ℕ) → IsEdwards m d → IsOn m d x1 y1 → IsOn m d x2 y2
    → IsSumOver m d x1 y1 x2 y2 f g x3 y3 → IsOn m d x3 y3
sum-on m d x1 y1 x2 y2 f g x3 y3 curve p q sum =
    let some = some-of m curve.field.more in
    let i = f-inverted m d x1 y1 x2 y2 f g curve p q sum.under in
    let j = g-inverted m d x1 y1 x2 y2 f g curve p q sum.under in
    record {
      x_below = sum.x_below;
      y_below = sum.y_below;
      on = fraction-on-curve m d f g x3 y3 (x1 * y2 + y1 * x2) (y1 * y2 + x1 * x2) i.i j.i some sum.x sum.y i.is j.is
          (squares-on-curve m x1 y1 x2 y2 d f g some sum.under.f_is sum.under.g_is p.on q.on);
    }

-- numbers whose products with v are one are one: i is 1 / v
pub divided : (m v a b e i : ℕ) → 0 < m → IsCongruent m (i * v) 1 → IsCongruent m (a * v) e → IsCongruent m (b * v) e
    → IsCongruent m a b
divided m v a b e i some i_is a_is b_is =
    comes-to some (shifted a b i_is (shifted i 0 b_is (shifted 0 i a_is (itself m a)))) b (omega arith)

-- the sum over other numbers that are f and g
over : (m d x1 y1 x2 y2 f g k l x3 y3 : ℕ) → 0 < m → AreUnder m d x1 y1 x2 y2 f g
    → IsSumOver m d x1 y1 x2 y2 k l x3 y3 → IsSumOver m d x1 y1 x2 y2 f g x3 y3
over m d x1 y1 x2 y2 f g k l x3 y3 some under sum =
    record {
      under = under;
      x_below = sum.x_below;
      y_below = sum.y_below;
      x = comes-to some
          (shifted 0 1 sum.x (shifted 0 x3 under.g_is (shifted x3 0 sum.under.g_is (itself m (x3 * g)))))
          (x1 * y2 + y1 * x2) (omega arith);
      y = comes-to some
          (shifted 0 1 sum.y (shifted 0 y3 under.f_is (shifted y3 0 sum.under.f_is (itself m (y3 * f)))))
          (y1 * y2 + x1 * x2) (omega arith);
    }

-- there is one sum
pub one-sum : (m d x1 y1 x2 y2 f g x3 y3 k l x4 y4 : ℕ) → IsEdwards m d → IsOn m d x1 y1 → IsOn m d x2 y2
    → IsSumOver m d x1 y1 x2 y2 f g x3 y3 → IsSumOver m d x1 y1 x2 y2 k l x4 y4
    → (x3 ≡ x4) × (y3 ≡ y4)
one-sum m d x1 y1 x2 y2 f g x3 y3 k l x4 y4 curve p q first second =
    let some = some-of m curve.field.more in
    let i = f-inverted m d x1 y1 x2 y2 f g curve p q first.under in
    let j = g-inverted m d x1 y1 x2 y2 f g curve p q first.under in
    let again = over m d x1 y1 x2 y2 f g k l x4 y4 some first.under second in (
      settle m x3 x4 first.x_below again.x_below (divided m g x3 x4 (x1 * y2 + y1 * x2) j.i some j.is first.x again.x),
      settle m y3 y4 first.y_below again.y_below (divided m f y3 y4 (y1 * y2 + x1 * x2) i.i some i.is first.y again.y),
    )

-- P + Q is Q + P
pub turned : (m d x1 y1 x2 y2 f g x3 y3 : ℕ) → IsSumOver m d x1 y1 x2 y2 f g x3 y3
    → IsSumOver m d x2 y2 x1 y1 f g x3 y3
turned m d x1 y1 x2 y2 f g x3 y3 sum =
    record {
      under = record {
        f_is = then (equal m (f + d * x2 * x1 * y2 * y1) (f + d * x1 * x2 * y1 * y2) (omega arith)) sum.under.f_is;
        g_is = then sum.under.g_is (equal m (1 + d * x1 * x2 * y1 * y2) (1 + d * x2 * x1 * y2 * y1) (omega arith));
      };
      x_below = sum.x_below;
      y_below = sum.y_below;
      x = then sum.x (equal m (x1 * y2 + y1 * x2) (x2 * y1 + y2 * x1) (omega arith));
      y = then sum.y (equal m (y1 * y2 + x1 * x2) (y2 * y1 + x2 * x1) (omega arith));
    }

-- O + P is P, where O is (0, 1)
pub neutral-sum : (m d x y f g : ℕ) → 0 < m → IsOn m d x y → AreUnder m d 0 1 x y f g
    → IsSumOver m d 0 1 x y f g x y
neutral-sum m d x y f g some on under =
    record {
      under = under;
      x_below = on.x_below;
      y_below = on.y_below;
      x = comes-to some (shifted 0 x under.g_is (itself m (x * g))) (0 * y + 1 * x) (omega arith);
      y = comes-to some (shifted 0 y under.f_is (itself m (y * f))) (1 * y + 0 * x) (omega arith);
    }

-- the opposite (w, y) of a point, where w is - x
pub opposite-on : (m d x y w : ℕ) → 0 < m → IsOn m d x y → w < m → IsCongruent m (x + w) 0 → IsOn m d w y
opposite-on m d x y w some on w_below w_is =
    record {
      x_below = w_below;
      y_below = on.y_below;
      on = comes-to some
          (shifted 0 1 on.on (shifted (w + d * w * y * y) (x + d * x * y * y) w_is (itself m (y * y))))
          (w * w + 1 + d * w * w * y * y) (omega arith);
    }

-- with which it gives O
pub opposite-sum : (m d x y w f g : ℕ) → 1 < m → IsOn m d x y → IsCongruent m (x + w) 0
    → AreUnder m d x y w y f g → IsSumOver m d x y w y f g 0 1
opposite-sum m d x y w f g more on w_is under =
    record {
      under = under;
      x_below = omega arith;
      y_below = more;
      x = comes-to (omega arith) (shifted y 0 w_is (itself m (0 * g))) (x * y + y * w) (omega arith);
      y = comes-to (omega arith)
          (shifted (x + d * x * y * y) 0 w_is (shifted 1 0 on.on (shifted 0 1 under.f_is (itself m (1 * f)))))
          (y * y + x * w) (omega arith);
    }
