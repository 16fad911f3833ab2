-- Lines through two points of a curve y ^ 2 = x ^ 3 - 3 x + b modulo m, and the third point of each. That both points are
-- of the curve is said by the second equation of a line, so that neither b nor the curve's equation occurs, and a tangent
-- is a line like any other.
use Rattle.std.proofs.Common.{◌≡◌, ◌<◌, ℕ, ◌+◌, ◌*◌, arith}
use Rattle.curve_laws.proofs.DifferenceLemmas.{IsCongruent, IsDifference, back, equal, itself, same, shifted, then, without}

-- the line of the slope s through (x1, y1) and (x2, y2): s (x2 - x1) = y2 - y1, and
-- s (y1 + y2) = x1 ^ 2 + x1 x2 + x2 ^ 2 - 3, each of which gives the other where one can divide
pub record IsLine (m s x1 y1 x2 y2 : ℕ) : Type 0 where
  pub chord : IsCongruent m (s * x1 + y2) (s * x2 + y1)
  pub slope : IsCongruent m (s * y1 + s * y2 + 3) (x1 * x1 + x1 * x2 + x2 * x2)

-- the sum by rules 4 and 5: x3 = s ^ 2 - x1 - x2, and y3 = s (x1 - x3) - y1
pub record IsThird (m s x1 y1 x2 x3 y3 : ℕ) : Type 0 where
  pub x : IsCongruent m (x3 + x1 + x2) (s * s)
  pub y : IsCongruent m (y3 + y1 + s * x3) (s * x1)

-- one point modulo m
pub record IsSame (m x1 y1 x2 y2 : ℕ) : Type 0 where
  pub x : IsCongruent m x1 x2
  pub y : IsCongruent m y1 y2

-- a point and its opposite
pub record IsOpposite (m x1 y1 x2 y2 : ℕ) : Type 0 where
  pub x : IsCongruent m x1 x2
  pub y : IsCongruent m (y1 + y2) 0

-- v is w, where v as a difference has the value w: the step that ends each computation
pub comes-to : {m v a b : ℕ} → 0 < m → IsDifference m v a b → (w : ℕ) → a ≡ w + b
    → IsCongruent m v w
comes-to {b = b} some v_is w is = without b some (then v_is.is (same _ is))

-- ---- a line and its third point in another form

-- the line through the second point and the first
pub line-turned : (m s x1 y1 x2 y2 : ℕ) → IsLine m s x1 y1 x2 y2 → IsLine m s x2 y2 x1 y1
line-turned m s x1 y1 x2 y2 line =
    record {
      chord = back line.chord;
      slope = then (equal m (s * y2 + s * y1 + 3) (s * y1 + s * y2 + 3) (omega arith))
          (then line.slope (equal m (x1 * x1 + x1 * x2 + x2 * x2) (x2 * x2 + x2 * x1 + x1 * x1) (omega arith)));
    }

-- which has the same third point
pub third-turned : (m s x1 y1 x2 y2 x3 y3 : ℕ) → 0 < m → IsLine m s x1 y1 x2 y2
    → IsThird m s x1 y1 x2 x3 y3 → IsThird m s x2 y2 x1 x3 y3
third-turned m s x1 y1 x2 y2 x3 y3 some line third =
    record {
      x = then (equal m (x3 + x2 + x1) (x3 + x1 + x2) (omega arith)) third.x;
      y = comes-to some (shifted 0 1 third.y (shifted 0 1 line.chord (itself m (y3 + y2 + s * x3)))) (s * x2) (omega arith);
    }

-- a slope congruent to a line's is a slope of it
pub line-alike : (m s t x1 y1 x2 y2 : ℕ) → 0 < m → IsCongruent m s t → IsLine m t x1 y1 x2 y2
    → IsLine m s x1 y1 x2 y2
line-alike m s t x1 y1 x2 y2 some s_is line =
    record {
      chord = comes-to some (shifted 0 1 line.chord (shifted x2 x1 s_is (itself m (s * x1 + y2)))) (s * x2 + y1) (omega arith);
      slope = comes-to some (shifted 0 1 line.slope (shifted 0 (y1 + y2) s_is (itself m (s * y1 + s * y2 + 3))))
          (x1 * x1 + x1 * x2 + x2 * x2) (omega arith);
    }

-- with the same third point
pub third-alike : (m s t x1 y1 x2 x3 y3 : ℕ) → 0 < m → IsCongruent m s t
    → IsThird m t x1 y1 x2 x3 y3 → IsThird m s x1 y1 x2 x3 y3
third-alike m s t x1 y1 x2 x3 y3 some s_is third =
    record {
      x = comes-to some (shifted 0 1 third.x (shifted (s + t) 0 s_is (itself m (x3 + x1 + x2)))) (s * s) (omega arith);
      y = comes-to some (shifted 0 1 third.y (shifted x1 x3 s_is (itself m (y3 + y1 + s * x3)))) (s * x1) (omega arith);
    }

-- a line has one third point
pub one-third : (m s x1 y1 x2 x3 y3 x4 y4 : ℕ) → 0 < m → IsThird m s x1 y1 x2 x3 y3
    → IsThird m s x1 y1 x2 x4 y4 → IsSame m x3 y3 x4 y4
one-third m s x1 y1 x2 x3 y3 x4 y4 some first second =
    record {
      x = comes-to some (shifted 1 0 second.x (shifted 0 1 first.x (itself m x3))) x4 (omega arith);
      y = comes-to some (shifted 1 0 second.y (shifted 0 s second.x (shifted 0 1 first.y (shifted s 0 first.x (itself m y3)))))
          y4 (omega arith);
    }

-- ---- which slopes two points have

-- where x1 and x2 differ, one alone: i is 1 / (x2 - x1)
pub one-slope-by-x : (m s t x1 y1 x2 y2 i : ℕ) → 0 < m → IsCongruent m (i * x2) (i * x1 + 1)
    → IsLine m s x1 y1 x2 y2 → IsLine m t x1 y1 x2 y2 → IsCongruent m s t
one-slope-by-x m s t x1 y1 x2 y2 i some i_is first second =
    comes-to some (shifted s t i_is (shifted 0 i second.chord (shifted i 0 first.chord (itself m s)))) t (omega arith)

-- where y1 and - y2 differ, one alone: i is 1 / (y1 + y2)
pub one-slope-by-y : (m s t x1 y1 x2 y2 i : ℕ) → 0 < m → IsCongruent m (i * (y1 + y2)) (i * 0 + 1)
    → IsLine m s x1 y1 x2 y2 → IsLine m t x1 y1 x2 y2 → IsCongruent m s t
one-slope-by-y m s t x1 y1 x2 y2 i some i_is first second =
    comes-to some (shifted s t i_is (shifted i 0 second.slope (shifted 0 i first.slope (itself m s)))) t (omega arith)

-- on a line through opposites y is 0: j is 1 / 2
pub opposites-on-line : (m s x1 y1 x2 y2 j : ℕ) → 0 < m → IsCongruent m (2 * j) 1
    → IsLine m s x1 y1 x2 y2 → IsOpposite m x1 y1 x2 y2 → IsCongruent m y1 0
opposites-on-line m s x1 y1 x2 y2 j some j_is line opposite =
    comes-to some (shifted y1 0 j_is (shifted 0 j opposite.y (shifted 0 (s * j) opposite.x (shifted j 0 line.chord (itself m y1)))))
    0 (omega arith)

-- ---- back from the third point

-- (x3, y3) and the opposite (x2, w) of the second point are on the line of the slope r = - s,
pub line-back : (m s x1 y1 x2 y2 x3 y3 w r : ℕ) → 0 < m → IsLine m s x1 y1 x2 y2
    → IsThird m s x1 y1 x2 x3 y3 → IsCongruent m (y2 + w) 0 → IsCongruent m (r + s) 0
    → IsLine m r x3 y3 x2 w
line-back m s x1 y1 x2 y2 x3 y3 w r some line third w_is r_is =
    record {
      chord = comes-to some
          (shifted x2 x3 r_is (shifted 0 1 w_is (shifted 1 0 third.y (shifted 1 0 line.chord (itself m (r * x3 + w))))))
          (r * x2 + y3) (omega arith);
      slope = comes-to some
          (shifted (y1 + s * x3) (x1 * s + w) r_is (shifted s 0 w_is (shifted 0 r third.y (shifted x3 x1 third.x (shifted 0 1 line.slope (itself m (r * y3 + r * w + 3)))))))
          (x3 * x3 + x3 * x2 + x2 * x2) (omega arith);
    }

-- whose third point is the first
pub third-back : (m s x1 y1 x2 x3 y3 r : ℕ) → 0 < m → IsThird m s x1 y1 x2 x3 y3
    → IsCongruent m (r + s) 0 → IsThird m r x3 y3 x2 x1 y1
third-back m s x1 y1 x2 x3 y3 r some third r_is =
    record {
      x = comes-to some (shifted r s r_is (shifted 0 1 third.x (itself m (x1 + x3 + x2)))) (r * r) (omega arith);
      y = comes-to some (shifted x3 x1 r_is (shifted 0 1 third.y (itself m (y1 + y3 + r * x1)))) (r * x3) (omega arith);
    }
