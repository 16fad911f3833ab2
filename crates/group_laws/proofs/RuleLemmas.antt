-- From SEC 1's rules 3 to 5, with the operations of the field modulo m, to sums by lines.
use Rattle.std.proofs.Common.{◌≡◌, ◌≢◌, ◌<◌, ◌≤◌, ℕ, ◌+◌, ◌*◌, arith, refl, ◌∙◌}
use Rattle.std.proofs.Math.Nat.{mod-eq_of_lt}
use Rattle.std.proofs.lemmas.Nat.{mod_below}
use Rattle.curve_laws.proofs.DifferenceLemmas.{IsCongruent, IsDifference, difference, equal, fits, itself, product, then, told}
use Rattle.curve_laws.proofs.FieldLemmas.{inverse-of-run, mul, opposite, slope-of-chord, slope-of-tangent, sub, x-of-third, y-of-third}
use Rattle.curve_laws.proofs.LineLemmas.{chord-slope, third-on-curve}
use Rattle.curve_laws.proofs.UnitLemmas.{apart, curve-opposite}
use Rattle.group_laws.proofs.FieldLemmas.{some-of}
use Rattle.group_laws.proofs.LineLemmas.{IsLine, IsThird}
use Rattle.group_laws.proofs.SumLemmas.{At, IsCurve, IsFinite, IsLineSum, IsSum, Infinity, of_line, of_opposites}

-- s ^ 2 - x1 - x2
abbrev pub x-third : (m s x1 x2 : ℕ) → ℕ
x-third m s x1 x2 = sub m (sub m (mul m s s) x1) x2

-- s (x1 - x3) - y1
abbrev pub y-third : (m s x1 y1 x2 : ℕ) → ℕ
y-third m s x1 y1 x2 = sub m (mul m s (sub m x1 (x-third m s x1 x2))) y1

-- below m is at most m
within : {m x : ℕ} → x < m → x ≤ m
within below = omega arith

-- and more than 2 is at least 3
three-within : {m : ℕ} → 2 < m → 3 ≤ m
three-within more = omega arith

-- the product with an inverse is 1, as a remainder
inverse-is : (m v i : ℕ) → 2 < m → IsCongruent m (v * i) 1 → mul m v i ≡ 1
inverse-is m v i more is = is.is ∙ mod-eq_of_lt (omega arith)

-- ---- the third point

-- x-third and y-third are of the third point,
third-is : (m s x1 y1 x2 : ℕ) → 0 < m → x1 < m → y1 < m → x2 < m
    → IsThird m s x1 y1 x2 (x-third m s x1 x2) (y-third m s x1 y1 x2)
third-is m s x1 y1 x2 some x1_below y1_below x2_below =
    let x3 = x-third m s x1 x2 in
    let y3 = y-third m s x1 y1 x2 in
    let x_at = x-of-third m s x1 x2 some (within x1_below) (within x2_below) in
    let run : IsDifference m (sub m x1 x3) x1 x3 = told some (difference (fits some _ refl) refl (itself m x1) (itself m x3)) (omega arith) in
    let drop : IsDifference m (mul m s (sub m x1 x3)) (s * x1) (s * x3) = told some (product refl (itself m s) run) (omega arith) in
    let y_at : IsDifference m y3 (s * x1) (s * x3 + y1) = told some (difference (within y1_below) refl drop (itself m y1)) (omega arith) in
    record {
      x = then (equal m (x3 + x1 + x2) (x3 + (x1 + x2)) (omega arith)) x_at.is;
      y = then (equal m (y3 + y1 + s * x3) (y3 + (s * x3 + y1)) (omega arith)) y_at.is;
    }

-- which is a point of the curve, where both points are on the line and the first is of the curve
third-finite : (m b s x1 y1 x2 y2 : ℕ) → 0 < m → IsFinite m b x1 y1 → x2 < m
    → IsLine m s x1 y1 x2 y2 → IsFinite m b (x-third m s x1 x2) (y-third m s x1 y1 x2)
third-finite m b s x1 y1 x2 y2 some on x2_below line =
    let x3 = x-third m s x1 x2 in
    let y3 = y-third m s x1 y1 x2 in
    let x_at = x-of-third m s x1 x2 some (within on.x_below) (within x2_below) in
    let y_at = y-of-third m s x1 y1 x2 x3 some (fits some _ refl) (within on.y_below) x_at in
    let is = third-on-curve m b x1 y1 x2 y2 s x3 y3 some x_at y_at on.on_curve line.chord line.slope in
    record {
      x_below = mod_below _ m some;
      y_below = mod_below _ m some;
      on_curve = then (equal m (3 * x3 + y3 * y3) (y3 * y3 + 3 * x3) (omega arith))
          (then is (equal m (x3 * x3 * x3 + b) (b + x3 * x3 * x3) (omega arith)));
    }

-- so it is a sum by lines
line-sum : (m b s x1 y1 x2 y2 : ℕ) → 0 < m → IsFinite m b x1 y1 → x2 < m → IsLine m s x1 y1 x2 y2
    → IsLineSum m b x1 y1 x2 y2 (x-third m s x1 x2) (y-third m s x1 y1 x2)
line-sum m b s x1 y1 x2 y2 some on x2_below line =
    record {
      s = s;
      line = line;
      third = third-is m s x1 y1 x2 some on.x_below on.y_below x2_below;
      finite = third-finite m b s x1 y1 x2 y2 some on x2_below line;
    }

-- ---- the rules

-- rule 4
pub sum-of-chord : (m b s x1 y1 x2 y2 : ℕ) → IsCurve m b → IsFinite m b x1 y1 → IsFinite m b x2 y2
    → x1 ≢ x2 → mul m s (sub m x2 x1) ≡ sub m y2 y1
    → IsSum m b (At x1 y1) (At x2 y2) (At (x-third m s x1 x2) (y-third m s x1 y1 x2))
sum-of-chord m b s x1 y1 x2 y2 curve first second differ is =
    let some = some-of m curve.field.more in
    let chord = slope-of-chord m s x1 y1 x2 y2 some (within first.x_below) (within first.y_below) is in
    let run_some = apart m x1 x2 some first.x_below second.x_below differ (sub m x2 x1) refl in
    let unit = curve.field.inverts (sub m x2 x1) run_some (mod_below _ m some) in
    let i_is = inverse-of-run m unit.inverse x1 x2 some (within first.x_below) (inverse-is m (sub m x2 x1) unit.inverse curve.field.more unit.is) in
    of_line x1 y1 x2 y2 (x-third m s x1 x2) (y-third m s x1 y1 x2)
    (line-sum m b s x1 y1 x2 y2 some first second.x_below (record {
      chord = chord;
      slope = chord-slope m b x1 y1 x2 y2 s unit.inverse some first.on_curve second.on_curve chord i_is;
    }))

-- rule 5
pub sum-of-tangent : (m b s x y : ℕ) → IsCurve m b → IsFinite m b x y
    → mul m s (mul m 2 y) ≡ sub m (mul m 3 (mul m x x)) 3
    → IsSum m b (At x y) (At x y) (At (x-third m s x x) (y-third m s x y x))
sum-of-tangent m b s x y curve on is =
    let some = some-of m curve.field.more in
    of_line x y x y (x-third m s x x) (y-third m s x y x)
    (line-sum m b s x y x y some on on.x_below (record {
      chord = equal m (s * x + y) (s * x + y) refl;
      slope = slope-of-tangent m s x y some (three-within curve.field.more) is;
    }))

-- rule 3
pub sum-of-opposites : (m b x y : ℕ) → 0 < m → IsFinite m b x y
    → IsSum m b (At x y) (At x (sub m 0 y)) Infinity
sum-of-opposites m b x y some on =
    of_opposites x y x (sub m 0 y) (record { x = equal m x x refl; y = opposite m y some (within on.y_below) })

-- the opposite of a point of the curve is one
pub opposite-finite : (m b x y : ℕ) → 0 < m → IsFinite m b x y → IsFinite m b x (sub m 0 y)
opposite-finite m b x y some on =
    record {
      x_below = on.x_below;
      y_below = mod_below _ m some;
      on_curve = curve-opposite m b x y (sub m 0 y) some (opposite m y some (within on.y_below)) on.on_curve;
    }
