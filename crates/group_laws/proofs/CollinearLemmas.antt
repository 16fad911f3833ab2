-- Three points on one line: Q = (x0, y0), P = (x1, y1) and R = (x2, y2) on that of the slope s, where (xa, ya) is Q + P.
use Rattle.std.proofs.Common.{◌<◌, ℕ, ◌+◌, ◌*◌, arith}
use Rattle.curve_laws.proofs.DifferenceLemmas.{IsCongruent, itself, shifted}
use Rattle.group_laws.proofs.LineLemmas.{IsLine, IsOpposite, IsThird, comes-to}

-- where x1 and x2 differ, Q + P is the opposite of R: i is 1 / (x2 - x1)
pub third-is-opposite : (m s x0 y0 x1 y1 x2 y2 i xa ya : ℕ) → 0 < m
    → IsCongruent m (i * x2) (i * x1 + 1) → IsLine m s x0 y0 x1 y1 → IsLine m s x0 y0 x2 y2
    → IsThird m s x0 y0 x1 xa ya → IsOpposite m xa ya x2 y2
third-is-opposite m s x0 y0 x1 y1 x2 y2 i xa ya some i_is first second third =
    record {
      x = comes-to some
          (shifted (x1 * i) (x2 * i) third.x (shifted xa x2 i_is (shifted 0 i second.slope
          (shifted (s * i) 0 second.chord (shifted i 0 first.slope (shifted 0 (s * i) first.chord (itself m xa)))))))
          x2 (omega arith);
      y = comes-to some
          (shifted 0 1 third.y (shifted (x2 * s * i) (x1 * s * i) third.x (shifted (x2 * s) (s * xa) i_is
          (shifted (s * i) 0 second.slope (shifted 0 (s * s * i + 1) second.chord
          (shifted 0 (s * i) first.slope (shifted (s * s * i) 0 first.chord (itself m (ya + y2)))))))))
          0 (omega arith);
    }

-- where x1 and x2 are one, so are y1 and y2
pub one-y : (m s x0 y0 x1 y1 x2 y2 : ℕ) → 0 < m → IsLine m s x0 y0 x1 y1 → IsLine m s x0 y0 x2 y2
    → IsCongruent m x1 x2 → IsCongruent m y1 y2
one-y m s x0 y0 x1 y1 x2 y2 some first second x_is =
    comes-to some (shifted 0 s x_is (shifted 1 0 second.chord (shifted 0 1 first.chord (itself m y1)))) y2 (omega arith)
