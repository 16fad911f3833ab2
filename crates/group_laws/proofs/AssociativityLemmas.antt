-- (P + Q) + R is P + (Q + R). It is shown as (Q + P) + R is (Q + R) + P, which is the same of P and of R, so that each
-- case serves both sides: one of the points is O, P or R is - Q, all three are on one line, or the lines through Q and P
-- and through Q and R have slopes that differ, tangents as well as chords.
use Rattle.std.proofs.Common.{◌≡◌, ◌⊎◌, ◌<◌, ℕ, ◌+◌, ◌*◌, arith, refl, sym, ◌∙◌, inl, inr}
use Rattle.curve_laws.proofs.DifferenceLemmas.{IsCongruent, back, itself, shifted, then}
use Rattle.group_laws.proofs.FieldLemmas.{decided, has-difference, has-quotient, settle, some-of}
use Rattle.group_laws.proofs.LineLemmas.{IsLine, IsOpposite, IsThird, comes-to, line-alike, third-alike}
use Rattle.group_laws.proofs.SlopeLemmas.{IsWhole, second-line, slope-of-slopes, third-of-second, wholes-are-one}
use Rattle.group_laws.proofs.CollinearLemmas.{one-y, third-is-opposite}
use Rattle.group_laws.proofs.SumLemmas.{Affine, At, Infinity, IsCurve, IsFinite, IsLineSum, IsPoint, IsSum, at-equal, at-settled, commute, finite_is, line-sum-back, line-sum-turned, moved, no-line, of_infinities, infinity_with, of_line, of_opposites, one-slope, unique, with_infinity}

-- ---- slopes that differ

-- a sum of two points on a known line is its third point
record IsThirdOf (m b u x1 y1 x2 : ℕ) (third : Affine) : Type 0 where
  pub x3 : ℕ
  pub y3 : ℕ
  pub is : third ≡ At x3 y3
  pub on : IsThird m u x1 y1 x2 x3 y3
  pub finite : IsFinite m b x3 y3

-- since the line has one slope, and opposites are on none
third-of-line : (m b u x1 y1 x2 y2 : ℕ) (third : Affine) → IsCurve m b → IsFinite m b x1 y1
    → IsLine m u x1 y1 x2 y2 → IsSum m b (At x1 y1) (At x2 y2) third
    → IsThirdOf m b u x1 y1 x2 third
third-of-line m b u _ _ _ _ _ curve on line (of_opposites x1 y1 x2 y2 opposite) =
    absurd (no-line m b u x1 y1 x2 y2 curve on line opposite)
third-of-line m b u _ _ _ _ _ curve on line (of_line x1 y1 x2 y2 x3 y3 sum) =
    let u_is = one-slope m b u sum.s x1 y1 x2 y2 curve on line sum.line in
    record {
      x3 = x3;
      y3 = y3;
      is = refl;
      on = third-alike m u sum.s x1 y1 x2 x3 y3 (some-of m curve.field.more) u_is sum.third;
      finite = sum.finite;
    }

-- a sum (Q + P) + R in terms of Q, P, both slopes and the slope of the slopes
record IsWholeOf (m b x0 y0 x1 s t n : ℕ) (third : Affine) : Type 0 where
  pub x3 : ℕ
  pub y3 : ℕ
  pub is : third ≡ At x3 y3
  pub whole : IsWhole m x0 y0 x1 s t n x3 y3
  pub finite : IsFinite m b x3 y3

-- each such sum is so
whole-sum : (m b x0 y0 x1 y1 x2 y2 s t xa ya k n : ℕ) (third : Affine) → IsCurve m b
    → IsFinite m b xa ya → IsLine m s x0 y0 x1 y1 → IsLine m t x0 y0 x2 y2
    → IsThird m s x0 y0 x1 xa ya → IsCongruent m (k * t) (k * s + 1)
    → IsCongruent m (n * t + x1) (n * s + x2) → IsSum m b (At xa ya) (At x2 y2) third
    → IsWholeOf m b x0 y0 x1 s t n third
whole-sum m b x0 y0 x1 y1 x2 y2 s t xa ya k n third curve on first second first_third k_is n_is sum =
    let some = some-of m curve.field.more in
    let u = has-difference m n s some in
    let line = second-line m x0 y0 x1 y1 x2 y2 s t xa ya k n u.d some first second first_third k_is n_is u.is in
    let c = third-of-line m b u.d xa ya x2 y2 third curve on line sum in
    record {
      x3 = c.x3;
      y3 = c.y3;
      is = c.is;
      whole = third-of-second m x0 y0 x1 y1 x2 y2 s t xa ya n u.d c.x3 c.y3 some first_third n_is u.is c.on;
      finite = c.finite;
    }

-- so with P and R in either order it is one point
whole-sums-are-one : (m b x0 y0 x1 x2 s t n : ℕ) (left right : Affine) → 0 < m
    → IsCongruent m (n * t + x1) (n * s + x2) → IsWholeOf m b x0 y0 x1 s t n left
    → IsWholeOf m b x0 y0 x2 t s n right → left ≡ right
whole-sums-are-one m b x0 y0 x1 x2 s t n left right some n_is c e =
    let are = wholes-are-one m x0 y0 x1 x2 s t n c.x3 c.y3 e.x3 e.y3 some n_is c.whole e.whole in
    c.is ∙ at-settled m b c.x3 c.y3 e.x3 e.y3 c.finite e.finite are ∙ sym e.is

-- (Q + P) + R is (Q + R) + P, where the slopes of the lines through Q and P and through Q and R differ
two-slopes : (m b x0 y0 x1 y1 x2 y2 xa ya xb yb : ℕ) (left right : Affine) → IsCurve m b
    → (first : IsLineSum m b x0 y0 x1 y1 xa ya) → (second : IsLineSum m b x0 y0 x2 y2 xb yb)
    → (IsCongruent m first.s second.s → ⊥)
    → IsSum m b (At xa ya) (At x2 y2) left → IsSum m b (At xb yb) (At x1 y1) right → left ≡ right
two-slopes m b x0 y0 x1 y1 x2 y2 xa ya xb yb left right curve first second differ left_is right_is =
    let some = some-of m curve.field.more in
    let s = first.s in
    let t = second.s in
    let k = has-quotient m s t curve.field differ in
    let l = has-quotient m t s curve.field (λ is. differ (back is)) in
    let d = has-difference m x2 x1 some in
    let n = k.i * d.d in
    let n_is = slope-of-slopes m x1 x2 s t k.i d.d some k.is d.is in
    whole-sums-are-one m b x0 y0 x1 x2 s t n left right some n_is
    (whole-sum m b x0 y0 x1 y1 x2 y2 s t xa ya k.i n left curve first.finite first.line second.line first.third k.is n_is left_is)
    (whole-sum m b x0 y0 x2 y2 x1 y1 t s xb yb l.i n right curve second.finite second.line first.line second.third l.is (back n_is) right_is)

-- ---- one slope

-- a sum of opposites is O
only-infinity : (m b x1 y1 x2 y2 : ℕ) (third : Affine) → IsCurve m b → IsFinite m b x1 y1
    → IsOpposite m x1 y1 x2 y2 → IsSum m b (At x1 y1) (At x2 y2) third → third ≡ Infinity
only-infinity m b x1 y1 x2 y2 third curve on opposite is =
    unique m b (At x1 y1) (At x2 y2) third Infinity curve (finite_is x1 y1 on) is (of_opposites x1 y1 x2 y2 opposite)

-- P is R, where x1 is x2; else both sums are O
one-line : (m b x0 y0 x1 y1 x2 y2 xa ya xb yb : ℕ) (left right : Affine) → IsCurve m b
    → IsFinite m b x0 y0 → IsFinite m b x1 y1 → IsFinite m b x2 y2
    → (first : IsLineSum m b x0 y0 x1 y1 xa ya) → (second : IsLineSum m b x0 y0 x2 y2 xb yb)
    → IsLine m first.s x0 y0 x2 y2 → IsThird m first.s x0 y0 x2 xb yb
    → IsCongruent m x1 x2 ⊎ (IsCongruent m x1 x2 → ⊥)
    → IsSum m b (At xa ya) (At x2 y2) left → IsSum m b (At xb yb) (At x1 y1) right → left ≡ right
one-line m b x0 y0 x1 y1 x2 y2 xa ya xb yb left right curve q p r first second line third (inl x_is) left_is right_is =
    let y_is = one-y m first.s x0 y0 x1 y1 x2 y2 (some-of m curve.field.more) first.line line x_is in
    let p_is = at-settled m b x1 y1 x2 y2 p r (record { x = x_is; y = y_is }) in
    let again = moved m b (At x0 y0) (At x2 y2) (At x0 y0) (At x1 y1) (At xb yb) refl (sym p_is) (of_line x0 y0 x2 y2 xb yb second) in
    let sums_are = unique m b (At x0 y0) (At x1 y1) (At xb yb) (At xa ya) curve (finite_is x0 y0 q) again (of_line x0 y0 x1 y1 xa ya first) in
    unique m b (At xa ya) (At x2 y2) left right curve (finite_is xa ya first.finite) left_is
    (moved m b (At xb yb) (At x1 y1) (At xa ya) (At x2 y2) right sums_are p_is right_is)
one-line m b x0 y0 x1 y1 x2 y2 xa ya xb yb left right curve q p r first second line third (inr differ) left_is right_is =
    let some = some-of m curve.field.more in
    let i = has-quotient m x1 x2 curve.field differ in
    let j = has-quotient m x2 x1 curve.field (λ is. differ (back is)) in
    only-infinity m b xa ya x2 y2 left curve first.finite
    (third-is-opposite m first.s x0 y0 x1 y1 x2 y2 i.i xa ya some i.is first.line line first.third) left_is
    ∙ sym (only-infinity m b xb yb x1 y1 right curve second.finite
    (third-is-opposite m first.s x0 y0 x2 y2 x1 y1 j.i xb yb some j.is line first.line third) right_is)

-- both slopes are one, or they differ
two-lines-at : (m b x0 y0 x1 y1 x2 y2 xa ya xb yb : ℕ) (left right : Affine) → IsCurve m b
    → IsFinite m b x0 y0 → IsFinite m b x1 y1 → IsFinite m b x2 y2
    → (first : IsLineSum m b x0 y0 x1 y1 xa ya) → (second : IsLineSum m b x0 y0 x2 y2 xb yb)
    → IsCongruent m first.s second.s ⊎ (IsCongruent m first.s second.s → ⊥)
    → IsSum m b (At xa ya) (At x2 y2) left → IsSum m b (At xb yb) (At x1 y1) right → left ≡ right
two-lines-at m b x0 y0 x1 y1 x2 y2 xa ya xb yb left right curve q p r first second (inl s_is) left_is right_is =
    let some = some-of m curve.field.more in
    one-line m b x0 y0 x1 y1 x2 y2 xa ya xb yb left right curve q p r first second
    (line-alike m first.s second.s x0 y0 x2 y2 some s_is second.line)
    (third-alike m first.s second.s x0 y0 x2 xb yb some s_is second.third) (decided m x1 x2) left_is right_is
two-lines-at m b x0 y0 x1 y1 x2 y2 xa ya xb yb left right curve q p r first second (inr differ) left_is right_is =
    two-slopes m b x0 y0 x1 y1 x2 y2 xa ya xb yb left right curve first second differ left_is right_is

-- ---- O, and opposites

-- O + P is P
infinity-and : (m b : ℕ) (p third : Affine) → IsSum m b Infinity p third → third ≡ p
infinity-and m b _ _ of_infinities = refl
infinity-and m b _ _ (infinity_with x y) = refl

-- P + O is P
and-infinity : (m b : ℕ) (p third : Affine) → IsSum m b p Infinity third → third ≡ p
and-infinity m b _ _ of_infinities = refl
and-infinity m b _ _ (with_infinity x y) = refl

-- P is - Q: then (Q + R) + P is R
one-opposite : (m b x0 y0 x1 y1 x2 y2 xb yb : ℕ) (left right : Affine) → IsCurve m b
    → IsFinite m b x0 y0 → IsFinite m b x1 y1 → IsFinite m b x2 y2
    → IsOpposite m x0 y0 x1 y1 → IsLineSum m b x0 y0 x2 y2 xb yb
    → IsSum m b Infinity (At x2 y2) left → IsSum m b (At xb yb) (At x1 y1) right → left ≡ right
one-opposite m b x0 y0 x1 y1 x2 y2 xb yb left right curve q p r opposite second left_is right_is =
    let some = some-of m curve.field.more in
    let x_is : At x0 y1 ≡ At x1 y1 = at-equal x0 y1 x1 y1 (settle m x0 x1 q.x_below p.x_below opposite.x) refl in
    let again = line-sum-back m b x2 y2 x0 y0 xb yb y1 some r (line-sum-turned m b x0 y0 x2 y2 xb yb some second) opposite.y in
    let is = moved m b (At xb yb) (At x0 y1) (At xb yb) (At x1 y1) (At x2 y2) refl x_is (of_line xb yb x0 y1 x2 y2 again) in
    infinity-and m b (At x2 y2) left left_is
    ∙ unique m b (At xb yb) (At x1 y1) (At x2 y2) right curve (finite_is xb yb second.finite) is right_is

-- P and R are - Q: they are one
opposites-alike : (m b x0 y0 x1 y1 x2 y2 : ℕ) → 0 < m → IsFinite m b x1 y1 → IsFinite m b x2 y2
    → IsOpposite m x0 y0 x1 y1 → IsOpposite m x0 y0 x2 y2 → At x2 y2 ≡ At x1 y1
opposites-alike m b x0 y0 x1 y1 x2 y2 some p r first second =
    at-settled m b x2 y2 x1 y1 r p
    (record {
      x = then (back second.x) first.x;
      y = comes-to some (shifted 1 0 first.y (shifted 0 1 second.y (itself m y2))) y1 (omega arith);
    })

-- ---- all cases

-- (Q + P) + R is (Q + R) + P
swap : (m b : ℕ) (q p r s t left right : Affine) → IsCurve m b → IsPoint m b q → IsPoint m b p
    → IsPoint m b r → IsSum m b q p s → IsSum m b q r t → IsSum m b s r left → IsSum m b t p right
    → left ≡ right
swap m b Infinity p r s t left right curve q_at p_at r_at first second left_is right_is =
    let s_is = infinity-and m b p s first in
    let t_is = infinity-and m b r t second in
    unique m b p r left right curve p_at (moved m b s r p r left s_is refl left_is)
    (commute m b r p right (some-of m curve.field.more) (moved m b t p r p right t_is refl right_is))
swap m b q Infinity r s t left right curve q_at p_at r_at first second left_is right_is =
    unique m b q r left t curve q_at (moved m b s r q r left (and-infinity m b q s first) refl left_is) second
    ∙ sym (and-infinity m b t right right_is)
swap m b q p Infinity s t left right curve q_at p_at r_at first second left_is right_is =
    and-infinity m b s left left_is
    ∙ unique m b q p s right curve q_at first (moved m b t p q p right (and-infinity m b q t second) refl right_is)
swap m b _ _ _ _ _ left right curve _ (finite_is _ _ p) (finite_is _ _ r) (of_opposites x0 y0 x1 y1 first) (of_opposites _ _ x2 y2 second) left_is right_is =
    infinity-and m b (At x2 y2) left left_is
    ∙ opposites-alike m b x0 y0 x1 y1 x2 y2 (some-of m curve.field.more) p r first second
    ∙ sym (infinity-and m b (At x1 y1) right right_is)
swap m b _ _ _ _ _ left right curve (finite_is _ _ q) (finite_is _ _ p) (finite_is _ _ r) (of_opposites x0 y0 x1 y1 first) (of_line _ _ x2 y2 xb yb second) left_is right_is =
    one-opposite m b x0 y0 x1 y1 x2 y2 xb yb left right curve q p r first second left_is right_is
swap m b _ _ _ _ _ left right curve (finite_is _ _ q) (finite_is _ _ p) (finite_is _ _ r) (of_line _ _ x1 y1 xa ya first) (of_opposites x0 y0 x2 y2 second) left_is right_is =
    sym (one-opposite m b x0 y0 x2 y2 x1 y1 xa ya right left curve q r p second first right_is left_is)
swap m b _ _ _ _ _ left right curve (finite_is _ _ q) (finite_is _ _ p) (finite_is _ _ r) (of_line x0 y0 x1 y1 xa ya first) (of_line _ _ x2 y2 xb yb second) left_is right_is =
    two-lines-at m b x0 y0 x1 y1 x2 y2 xa ya xb yb left right curve q p r first second (decided m first.s second.s) left_is right_is

-- (P + Q) + R is P + (Q + R)
pub associate : (m b : ℕ) (p q r s t left right : Affine) → IsCurve m b → IsPoint m b p
    → IsPoint m b q → IsPoint m b r → IsSum m b p q s → IsSum m b s r left → IsSum m b q r t
    → IsSum m b p t right → left ≡ right
associate m b p q r s t left right curve p_at q_at r_at first left_is second right_is =
    let some = some-of m curve.field.more in
    swap m b q p r s t left right curve q_at p_at r_at (commute m b p q s some first) second left_is (commute m b p t right some right_is)
