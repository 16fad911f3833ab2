-- The two lines of a sum of three points. The line of the slope s goes through Q = (x0, y0) and P = (x1, y1), that of t through
-- Q and R = (x2, y2), and n = (x2 - x1) / (t - s) is the slope of the slopes. Then the line through Q + P and R has the
-- slope n - s, and that through Q + R and P has n - t, and both third points are one. The cofactors were found by a
-- Groebner basis (Singular); the check multiplies them out.
use Rattle.std.proofs.Common.{◌<◌, ℕ, ◌+◌, ◌*◌, arith}
use Rattle.curve_laws.proofs.DifferenceLemmas.{IsCongruent, itself, shifted}
use Rattle.group_laws.proofs.LineLemmas.{IsLine, IsSame, IsThird, comes-to}

-- n by k = 1 / (t - s) and d = x2 - x1
pub slope-of-slopes : (m x1 x2 s t k d : ℕ) → 0 < m → IsCongruent m (k * t) (k * s + 1)
    → IsCongruent m (d + x1) x2 → IsCongruent m (k * d * t + x1) (k * d * s + x2)
slope-of-slopes m x1 x2 s t k d some k_is d_is =
    comes-to some (shifted 0 1 d_is (shifted 0 d k_is (itself m (k * d * t + x1)))) (k * d * s + x2) (omega arith)

-- the line of u = n - s meets the curve in Q + P and in R
pub second-line : (m x0 y0 x1 y1 x2 y2 s t xa ya k n u : ℕ) → 0 < m → IsLine m s x0 y0 x1 y1
    → IsLine m t x0 y0 x2 y2 → IsThird m s x0 y0 x1 xa ya → IsCongruent m (k * t) (k * s + 1)
    → IsCongruent m (n * t + x1) (n * s + x2) → IsCongruent m (u + s) n → IsLine m u xa ya x2 y2
second-line m x0 y0 x1 y1 x2 y2 s t xa ya k n u some first second third k_is n_is u_is =
    record {
      chord = comes-to some
          (shifted (x0 + x2 + y2 * k) (x1 + y1 * k + t * n + xa) u_is
          (shifted (x0 * k + x1 * k + x2 * k + s + t * k * u) (t * k * n) n_is
          (shifted (x0 * u + y0 + y2 + t * n * n) (2 * x0 * n + x1 * u + x2 * n + t * n * u) k_is
          (shifted 1 0 third.y (shifted 0 n third.x
          (shifted 0 k second.slope (shifted (k * n) (k * u) second.chord
          (shifted k 0 first.slope (shifted (k * u) (k * n) first.chord (itself m (u * xa + y2)))))))))))
          (u * x2 + ya) (omega arith);
      slope = comes-to some
          (shifted (x0 * n + x1 * n + y1 * t * k + x2 * n) (y0 + y1 + y2 * t * k + y2 + ya) u_is
          (shifted (x0 * k * n + x1 * k * n + x1 + x2 * k * n + x2 + xa)
          (x0 * k * u + y0 * k + x1 * t * k + x1 * k * u + x2 * t * k + x2 * k * u + y2 * k + t * xa * k + 2 * ya * k) n_is
          (shifted
          (x0 * x0 + x0 * xa + x0 * n * u + 2 * y0 * n + x1 * x1 + x1 * t * n + x1 * xa + x1 * n * u + y1 * n + x2 * t * n + x2 * n * u + y2 * n + t * xa * n + 2 * ya * n)
          (x0 * n * n + 2 * y0 * s + y0 * u + x1 * n * n + y1 * s + y1 * u + 2 * x2 * x2 + 2 * x2 * xa + x2 * n * n + y2 * s) k_is
          (shifted (2 * x1 * k + s + n) (2 * x2 * k) third.y (shifted (y2 * k + xa) (x1 + y1 * k) third.x
          (shifted (2 * s * k + k * u) (k * n) second.slope (shifted 0 (x0 * k + x2 * k + xa * k) second.chord
          (shifted (k * n) (2 * s * k + k * u + 1) first.slope
          (shifted (x0 * k + x1 * k + s + xa * k) 0 first.chord (itself m (u * ya + u * y2 + 3)))))))))))
          (xa * xa + xa * x2 + x2 * x2) (omega arith);
    }

-- what its third point is: x3 is the same whichever of P and R comes first, and so is y3, since n t + x1 is n s + x2
pub record IsWhole (m x0 y0 x1 s t n x3 y3 : ℕ) : Type 0 where
  pub x : IsCongruent m (x3 + n * s + n * t) (x0 + n * n)
  pub y : IsCongruent m (y3 + n * (2 * x0 + x1 + n * n + s * t)) (y0 + 2 * n * n * s + n * n * t)

-- the third point of the line through Q + P and R is so
pub third-of-second : (m x0 y0 x1 y1 x2 y2 s t xa ya n u x3 y3 : ℕ) → 0 < m
    → IsThird m s x0 y0 x1 xa ya → IsCongruent m (n * t + x1) (n * s + x2) → IsCongruent m (u + s) n
    → IsThird m u xa ya x2 x3 y3 → IsWhole m x0 y0 x1 s t n x3 y3
third-of-second m x0 y0 x1 y1 x2 y2 s t xa ya n u x3 y3 some first n_is u_is second =
    record {
      x = comes-to some
          (shifted 0 1 second.x (shifted s (n + u) u_is (shifted 0 1 n_is (shifted 1 0 first.x (itself m (x3 + n * s + n * t))))))
          (x0 + n * n) (omega arith);
      y = comes-to some
          (shifted 0 1 second.y (shifted n s second.x
          (shifted (s * s + n * n + n * u + x3) (2 * s * n + s * u + xa) u_is (shifted n s n_is
          (shifted 1 0 first.y (shifted s (2 * n) first.x (itself m (y3 + n * (2 * x0 + x1 + n * n + s * t)))))))))
          (y0 + 2 * n * n * s + n * n * t) (omega arith);
    }

-- both third points are one
pub wholes-are-one : (m x0 y0 x1 x2 s t n x3 y3 x4 y4 : ℕ) → 0 < m
    → IsCongruent m (n * t + x1) (n * s + x2) → IsWhole m x0 y0 x1 s t n x3 y3
    → IsWhole m x0 y0 x2 t s n x4 y4 → IsSame m x3 y3 x4 y4
wholes-are-one m x0 y0 x1 x2 s t n x3 y3 x4 y4 some n_is first second =
    record {
      x = comes-to some (shifted 1 0 second.x (shifted 0 1 first.x (itself m x3))) x4 (omega arith);
      y = comes-to some (shifted 1 0 second.y (shifted 0 1 first.y (shifted n 0 n_is (itself m y3)))) y4 (omega arith);
    }
