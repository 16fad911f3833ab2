-- Sums of points of y ^ 2 = x ^ 3 - 3 x + b modulo m by lines, where no point has y = 0: there is one alone, and it is the same
-- whichever point comes first.
use Rattle.std.proofs.Common.{◌≡◌, ◌⊎◌, ◌<◌, ℕ, ◌+◌, ◌*◌, arith, refl, inl, inr}
use Rattle.curve_laws.proofs.DifferenceLemmas.{IsCongruent, back, equal, then}
use Rattle.group_laws.proofs.FieldLemmas.{IsField, decided, has-difference, has-quotient, no-zero, settle, some-of}
use Rattle.group_laws.proofs.LineLemmas.{IsLine, IsOpposite, IsSame, IsThird, line-back, line-turned, one-slope-by-x, one-slope-by-y, one-third, opposites-on-line, third-alike, third-back, third-turned}

-- O, the point at infinity, or the point (x, y)
pub data Affine : Type 0 where
  Infinity : Affine
  At : (x y : ℕ) → Affine

-- x and y are of a point of the curve
pub record IsFinite (m b x y : ℕ) : Type 0 where
  pub x_below : x < m
  pub y_below : y < m
  pub on_curve : IsCongruent m (3 * x + y * y) (b + x * x * x)

-- a point of the curve
pub data IsPoint (m b : ℕ) : Affine → Type 0 where
  infinity_is : IsPoint m b Infinity
  finite_is : (x y : ℕ) → IsFinite m b x y → IsPoint m b (At x y)

-- a curve over a field, none of whose points has y = 0
pub record IsCurve (m b : ℕ) : Type 0 where
  pub field : IsField m
  pub y_some : (x y : ℕ) → IsFinite m b x y → 0 < y

-- the third point of a line through two
pub record IsLineSum (m b x1 y1 x2 y2 x3 y3 : ℕ) : Type 0 where
  pub s : ℕ
  pub line : IsLine m s x1 y1 x2 y2
  pub third : IsThird m s x1 y1 x2 x3 y3
  pub finite : IsFinite m b x3 y3

-- SEC 1's rules, with one for chords and tangents
pub data IsSum (m b : ℕ) : Affine → Affine → Affine → Type 0 where
  of_infinities : IsSum m b Infinity Infinity Infinity
  with_infinity : (x y : ℕ) → IsSum m b (At x y) Infinity (At x y)
  infinity_with : (x y : ℕ) → IsSum m b Infinity (At x y) (At x y)
  of_opposites : (x1 y1 x2 y2 : ℕ) → IsOpposite m x1 y1 x2 y2 → IsSum m b (At x1 y1) (At x2 y2) Infinity
  of_line : (x1 y1 x2 y2 x3 y3 : ℕ) → IsLineSum m b x1 y1 x2 y2 x3 y3
      → IsSum m b (At x1 y1) (At x2 y2) (At x3 y3)

-- ---- points that are one

-- points with one x and one y are one,
pub at-equal : (x1 y1 x2 y2 : ℕ) → x1 ≡ x2 → y1 ≡ y2 → At x1 y1 ≡ At x2 y2
at-equal x1 y1 x2 y2 x_is y_is = cc

-- and so are points of the curve whose x and y are congruent
pub at-settled : (m b x1 y1 x2 y2 : ℕ) → IsFinite m b x1 y1 → IsFinite m b x2 y2
    → IsSame m x1 y1 x2 y2 → At x1 y1 ≡ At x2 y2
at-settled m b x1 y1 x2 y2 first second are =
    at-equal x1 y1 x2 y2
    (settle m x1 x2 first.x_below second.x_below are.x) (settle m y1 y2 first.y_below second.y_below are.y)

-- a sum of the same points
pub moved : (m b : ℕ) (p q p' q' third : Affine) → p ≡ p' → q ≡ q' → IsSum m b p q third
    → IsSum m b p' q' third
moved m b p q p' q' third p_is q_is is = rw (← p_is, ← q_is) is

-- ---- one slope

-- no line goes through opposites, since y isn't 0
pub no-line : (m b s x1 y1 x2 y2 : ℕ) → IsCurve m b → IsFinite m b x1 y1 → IsLine m s x1 y1 x2 y2
    → IsOpposite m x1 y1 x2 y2 → ⊥
no-line m b s x1 y1 x2 y2 curve on line opposite =
    let some = some-of m curve.field.more in
    let half = curve.field.inverts 2 (omega arith) curve.field.more in
    let none = opposites-on-line m s x1 y1 x2 y2 half.inverse some half.is line opposite in
    no-zero y1 (settle m y1 0 on.y_below some none) (curve.y_some x1 y1 on)

-- by x2 - x1 where that is not 0, else by y1 + y2, which is not 0 then
one-slope-at : (m b s t x1 y1 x2 y2 : ℕ) → IsCurve m b → IsFinite m b x1 y1 → IsLine m s x1 y1 x2 y2
    → IsLine m t x1 y1 x2 y2 → IsCongruent m x1 x2 ⊎ (IsCongruent m x1 x2 → ⊥)
    → IsCongruent m (y1 + y2) 0 ⊎ (IsCongruent m (y1 + y2) 0 → ⊥) → IsCongruent m s t
one-slope-at m b s t x1 y1 x2 y2 curve on first second (inr differ) _ =
    let i = has-quotient m x1 x2 curve.field differ in
    one-slope-by-x m s t x1 y1 x2 y2 i.i (some-of m curve.field.more) i.is first second
one-slope-at m b s t x1 y1 x2 y2 curve on first second (inl x_is) (inl y_is) =
    absurd (no-line m b s x1 y1 x2 y2 curve on first (record { x = x_is; y = y_is }))
one-slope-at m b s t x1 y1 x2 y2 curve on first second (inl x_is) (inr differ) =
    let i = has-quotient m 0 (y1 + y2) curve.field (λ is. differ (back is)) in
    one-slope-by-y m s t x1 y1 x2 y2 i.i (some-of m curve.field.more) i.is first second

-- the line through two points has one slope
pub one-slope : (m b s t x1 y1 x2 y2 : ℕ) → IsCurve m b → IsFinite m b x1 y1
    → IsLine m s x1 y1 x2 y2 → IsLine m t x1 y1 x2 y2 → IsCongruent m s t
one-slope m b s t x1 y1 x2 y2 curve on first second =
    one-slope-at m b s t x1 y1 x2 y2 curve on first second (decided m x1 x2) (decided m (y1 + y2) 0)

-- ---- one sum

-- P + Q is one point
pub unique : (m b : ℕ) (p q first second : Affine) → IsCurve m b → IsPoint m b p
    → IsSum m b p q first → IsSum m b p q second → first ≡ second
unique m b _ _ _ _ curve point of_infinities of_infinities = refl
unique m b _ _ _ _ curve point (with_infinity x y) (with_infinity _ _) = refl
unique m b _ _ _ _ curve point (infinity_with x y) (infinity_with _ _) = refl
unique m b _ _ _ _ curve point (of_opposites _ _ _ _ _) (of_opposites _ _ _ _ _) = refl
unique m b _ _ _ _ curve (finite_is _ _ on) (of_opposites x1 y1 x2 y2 opposite) (of_line _ _ _ _ x3 y3 sum) =
    absurd (no-line m b sum.s x1 y1 x2 y2 curve on sum.line opposite)
unique m b _ _ _ _ curve (finite_is _ _ on) (of_line _ _ _ _ x3 y3 sum) (of_opposites x1 y1 x2 y2 opposite) =
    absurd (no-line m b sum.s x1 y1 x2 y2 curve on sum.line opposite)
unique m b _ _ _ _ curve (finite_is _ _ on) (of_line x1 y1 x2 y2 x3 y3 first) (of_line _ _ _ _ x4 y4 second) =
    let some = some-of m curve.field.more in
    let s_is = one-slope m b first.s second.s x1 y1 x2 y2 curve on first.line second.line in
    at-settled m b x3 y3 x4 y4 first.finite second.finite
    (one-third m first.s x1 y1 x2 x3 y3 x4 y4 some first.third (third-alike m first.s second.s x1 y1 x2 x4 y4 some s_is second.third))

-- a sum of points is a point
pub closed : (m b : ℕ) (p q third : Affine) → IsPoint m b p → IsPoint m b q → IsSum m b p q third
    → IsPoint m b third
closed m b _ _ _ p_at q_at of_infinities = infinity_is
closed m b _ _ _ p_at q_at (with_infinity _ _) = p_at
closed m b _ _ _ p_at q_at (infinity_with _ _) = q_at
closed m b _ _ _ p_at q_at (of_opposites _ _ _ _ _) = infinity_is
closed m b _ _ _ p_at q_at (of_line _ _ _ _ x3 y3 sum) = finite_is x3 y3 sum.finite

-- ---- either order

-- the sum of the second point and the first
pub line-sum-turned : (m b x1 y1 x2 y2 x3 y3 : ℕ) → 0 < m → IsLineSum m b x1 y1 x2 y2 x3 y3
    → IsLineSum m b x2 y2 x1 y1 x3 y3
line-sum-turned m b x1 y1 x2 y2 x3 y3 some sum =
    record {
      s = sum.s;
      line = line-turned m sum.s x1 y1 x2 y2 sum.line;
      third = third-turned m sum.s x1 y1 x2 y2 x3 y3 some sum.line sum.third;
      finite = sum.finite;
    }

-- opposites in the other order
opposite-turned : (m x1 y1 x2 y2 : ℕ) → IsOpposite m x1 y1 x2 y2 → IsOpposite m x2 y2 x1 y1
opposite-turned m x1 y1 x2 y2 opposite =
    record { x = back opposite.x; y = then (equal m (y2 + y1) (y1 + y2) (omega arith)) opposite.y }

-- P + Q is Q + P
pub commute : (m b : ℕ) (p q third : Affine) → 0 < m → IsSum m b p q third → IsSum m b q p third
commute m b _ _ _ some of_infinities = of_infinities
commute m b _ _ _ some (with_infinity x y) = infinity_with x y
commute m b _ _ _ some (infinity_with x y) = with_infinity x y
commute m b _ _ _ some (of_opposites x1 y1 x2 y2 opposite) = of_opposites x2 y2 x1 y1 (opposite-turned m x1 y1 x2 y2 opposite)
commute m b _ _ _ some (of_line x1 y1 x2 y2 x3 y3 sum) = of_line x2 y2 x1 y1 x3 y3 (line-sum-turned m b x1 y1 x2 y2 x3 y3 some sum)

-- (P + Q) - Q is P, where w is y of - Q
pub line-sum-back : (m b x1 y1 x2 y2 x3 y3 w : ℕ) → 0 < m → IsFinite m b x1 y1
    → IsLineSum m b x1 y1 x2 y2 x3 y3 → IsCongruent m (y2 + w) 0 → IsLineSum m b x3 y3 x2 w x1 y1
line-sum-back m b x1 y1 x2 y2 x3 y3 w some on sum w_is =
    let r = has-difference m 0 sum.s some in
    record {
      s = r.d;
      line = line-back m sum.s x1 y1 x2 y2 x3 y3 w r.d some sum.line sum.third w_is r.is;
      third = third-back m sum.s x1 y1 x2 x3 y3 r.d some sum.third r.is;
      finite = on;
    }
