-- The coordinates of a sum, where they are those of a line's third point.
use Rattle.std.proofs.Common.{◌<◌, ℕ, ◌+◌, ◌*◌, ◌%◌, arith, refl}
use Rattle.curve_laws.proofs.DifferenceLemmas.{IsCongruent, IsDifference, alike, itself, product, product', shifted, sum', told}
use Rattle.curve_laws.proofs.StepLemmas.{IsSum}

-- X is x Z, where the line with the slope s through both points is a chord of the curve or its tangent
pub x-of-line : (m b x1 y1 z1 x2 y2 z2 s x3 y3 vx vy vz : ℕ) → 0 < m
    → IsSum m b (x1 * z1 * (x2 * z2)) (y1 * z1 * (y2 * z2)) (z1 * z2) (x1 * z1 * (y2 * z2) + y1 * z1 * (x2 * z2)) (y1 * z1 * z2 + z1 * (y2 * z2)) (x1 * z1 * z2 + z1 * (x2 * z2)) vx vy vz
    → IsDifference m x3 (s * s) (x1 + x2) → IsCongruent m (3 * x1 + y1 * y1) (b + x1 * x1 * x1)
    → IsCongruent m (s * x1 + y2) (s * x2 + y1)
    → IsCongruent m (s * y1 + s * y2 + 3) (x1 * x1 + x1 * x2 + x2 * x2)
    → IsCongruent m vx ((x3 * vz) % m)
x-of-line m b x1 y1 z1 x2 y2 z2 s x3 y3 vx vy vz some sum x3_at e1 s_is g =
    alike some (told some (shifted (z1 * z1 * z2 * z2 * s * s * y1 * x2 + 3 * z1 * z1 * z2 * z2 * s * x1 * x1 * x2 + 3 * z1 * z1 * z2 * z2 * s * x1 + 4 * z1 * z1 * z2 * z2 * s * y1 * y1 + 3 * z1 * z1 * z2 * z2 * x1 * x1 * y1 + 3 * z1 * z1 * z2 * z2 * x1 * y1 * x2) (z1 * z1 * z2 * z2 * s * s * x1 * y1 + 3 * z1 * z1 * z2 * z2 * s * x1 * x1 * x1 + 3 * z1 * z1 * z2 * z2 * s * x2 + 6 * z1 * z1 * z2 * z2 * y1) g (shifted (3 * z1 * z1 * z2 * z2 * s * s * s * x1 + 3 * z1 * z1 * z2 * z2 * s * x1 * x1) (3 * z1 * z1 * z2 * z2 * s * s * s * x2 + 6 * z1 * z1 * z2 * z2 * s * s * y1 + 3 * z1 * z1 * z2 * z2 * s * x1 * x2 + 3 * z1 * z1 * z2 * z2 * x1 * y1 + 3 * z1 * z1 * z2 * z2 * y1 * x2) e1 (shifted (3 * z1 * z1 * z2 * z2 * b * s * s + 3 * z1 * z1 * z2 * z2 * b * x1 + 3 * z1 * z1 * z2 * z2 * s * s * x1 * x1 * x1 + z1 * z1 * z2 * z2 * s * s * y1 * y2 + 6 * z1 * z1 * z2 * z2 * s * y1 + 3 * z1 * z1 * z2 * z2 * x1 * x1 + 3 * z1 * z1 * z2 * z2 * x1 * x2 + 3 * z1 * z1 * z2 * z2 * x2 * x2) (9 * z1 * z1 * z2 * z2 * s * s * x1 + 2 * z1 * z1 * z2 * z2 * s * s * y1 * y1 + z1 * z1 * z2 * z2 * s * x1 * x1 * y1 + 4 * z1 * z1 * z2 * z2 * s * x1 * y1 * x2 + z1 * z1 * z2 * z2 * s * y1 * x2 * x2 + 3 * z1 * z1 * z2 * z2 * x1 * x1 * x1 * x2 + 3 * z1 * z1 * z2 * z2 * x1 * x1 * x2 * x2 + 3 * z1 * z1 * z2 * z2 * x1 * y1 * y1 + 2 * z1 * z1 * z2 * z2 * x1 * y1 * y2 + 3 * z1 * z1 * z2 * z2 * y1 * y1 * x2 + z1 * z1 * z2 * z2 * y1 * x2 * y2 + 9 * z1 * z1 * z2 * z2) s_is sum.x))) (omega arith)) (product {z = (x3 * vz) % m} refl x3_at sum.z)

-- Y without y2 and b
y-in-line : (m b x1 y1 z1 x2 y2 z2 s vx vy vz : ℕ) → 0 < m
    → IsSum m b (x1 * z1 * (x2 * z2)) (y1 * z1 * (y2 * z2)) (z1 * z2) (x1 * z1 * (y2 * z2) + y1 * z1 * (x2 * z2)) (y1 * z1 * z2 + z1 * (y2 * z2)) (x1 * z1 * z2 + z1 * (x2 * z2)) vx vy vz
    → IsCongruent m (3 * x1 + y1 * y1) (b + x1 * x1 * x1)
    → IsCongruent m (s * x1 + y2) (s * x2 + y1)
    → IsDifference m vy (z1 * z1 * z2 * z2 * s * s * x1 * x1 * y1 * y1 + z1 * z1 * z2 * z2 * s * s * y1 * y1 * x2 * x2 + 2 * z1 * z1 * z2 * z2 * s * y1 * y1 * y1 * x2 + 45 * z1 * z1 * z2 * z2 * x1 * x1 * x1 * x1 + 18 * z1 * z1 * z2 * z2 * x1 * x1 * x1 * y1 * y1 + 18 * z1 * z1 * z2 * z2 * x1 * x1 * x1 * x2 + 9 * z1 * z1 * z2 * z2 * x1 * x1 * y1 * y1 * x2 + 18 * z1 * z1 * z2 * z2 * x1 * x1 * x2 * x2 + 9 * z1 * z1 * z2 * z2 * x1 * y1 * y1 * x2 * x2 + 9 * z1 * z1 * z2 * z2 * y1 * y1 * x2 + 27 * z1 * z1 * z2 * z2) (2 * z1 * z1 * z2 * z2 * s * s * x1 * y1 * y1 * x2 + 2 * z1 * z1 * z2 * z2 * s * x1 * y1 * y1 * y1 + 9 * z1 * z1 * z2 * z2 * x1 * x1 * x1 * x1 * x1 * x1 + 9 * z1 * z1 * z2 * z2 * x1 * x1 * x1 * x1 * x1 * x2 + 9 * z1 * z1 * z2 * z2 * x1 * x1 * x1 * x1 * x2 * x2 + 63 * z1 * z1 * z2 * z2 * x1 * x1 + 45 * z1 * z1 * z2 * z2 * x1 * y1 * y1 + 9 * z1 * z1 * z2 * z2 * x1 * x2 + 8 * z1 * z1 * z2 * z2 * y1 * y1 * y1 * y1 + 9 * z1 * z1 * z2 * z2 * x2 * x2)
y-in-line m b x1 y1 z1 x2 y2 z2 s vx vy vz some sum e1 s_is =
    let without : IsDifference m vy (9 * z1 * z1 * z2 * z2 * b * x1 * x1 * x2 + 9 * z1 * z1 * z2 * z2 * b * x1 * x2 * x2 + 9 * z1 * z1 * z2 * z2 * b * x1 + 9 * z1 * z1 * z2 * z2 * b * x2 + z1 * z1 * z2 * z2 * s * s * x1 * x1 * y1 * y1 + z1 * z1 * z2 * z2 * s * s * y1 * y1 * x2 * x2 + 2 * z1 * z1 * z2 * z2 * s * y1 * y1 * y1 * x2 + z1 * z1 * z2 * z2 * y1 * y1 * y1 * y1 + 27 * z1 * z1 * z2 * z2) (9 * z1 * z1 * z2 * z2 * b * b + 2 * z1 * z1 * z2 * z2 * s * s * x1 * y1 * y1 * x2 + 2 * z1 * z1 * z2 * z2 * s * x1 * y1 * y1 * y1 + 9 * z1 * z1 * z2 * z2 * x1 * x1 * x2 * x2 + 9 * z1 * z1 * z2 * z2 * x1 * x1 + 36 * z1 * z1 * z2 * z2 * x1 * x2 + 9 * z1 * z1 * z2 * z2 * x2 * x2) = told some (shifted (z1 * z1 * z2 * z2 * s * x1 * y1 * y1) (z1 * z1 * z2 * z2 * s * y1 * y1 * x2 + z1 * z1 * z2 * z2 * y1 * y1 * y1 + z1 * z1 * z2 * z2 * y1 * y1 * y2) s_is sum.y) (omega arith) in
    told some (shifted (9 * z1 * z1 * z2 * z2 * x1 * x1 * x1 + 9 * z1 * z1 * z2 * z2 * x1 * x1 * x2 + 9 * z1 * z1 * z2 * z2 * x1 * x2 * x2 + 9 * z1 * z1 * z2 * z2 * x2) (9 * z1 * z1 * z2 * z2 * b + 18 * z1 * z1 * z2 * z2 * x1 + 9 * z1 * z1 * z2 * z2 * y1 * y1) e1 without) (omega arith)

-- Z without y2 and b
z-in-line : (m b x1 y1 z1 x2 y2 z2 s vx vy vz : ℕ) → 0 < m
    → IsSum m b (x1 * z1 * (x2 * z2)) (y1 * z1 * (y2 * z2)) (z1 * z2) (x1 * z1 * (y2 * z2) + y1 * z1 * (x2 * z2)) (y1 * z1 * z2 + z1 * (y2 * z2)) (x1 * z1 * z2 + z1 * (x2 * z2)) vx vy vz
    → IsCongruent m (3 * x1 + y1 * y1) (b + x1 * x1 * x1)
    → IsCongruent m (s * x1 + y2) (s * x2 + y1)
    → IsDifference m vz (z1 * z1 * z2 * z2 * s * s * x1 * x1 * y1 + z1 * z1 * z2 * z2 * s * s * y1 * x2 * x2 + 3 * z1 * z1 * z2 * z2 * s * x1 * x1 * x1 * x1 + 3 * z1 * z1 * z2 * z2 * s * x1 * x1 * x2 * x2 + 6 * z1 * z1 * z2 * z2 * s * x1 * x2 + 6 * z1 * z1 * z2 * z2 * s * y1 * y1 * x2 + 3 * z1 * z1 * z2 * z2 * x1 * x1 * y1 * x2 + 3 * z1 * z1 * z2 * z2 * x1 * y1 * x2 * x2 + 9 * z1 * z1 * z2 * z2 * x1 * y1 + 8 * z1 * z1 * z2 * z2 * y1 * y1 * y1) (2 * z1 * z1 * z2 * z2 * s * s * x1 * y1 * x2 + 6 * z1 * z1 * z2 * z2 * s * x1 * x1 * x1 * x2 + 3 * z1 * z1 * z2 * z2 * s * x1 * x1 + 6 * z1 * z1 * z2 * z2 * s * x1 * y1 * y1 + 3 * z1 * z1 * z2 * z2 * s * x2 * x2 + 6 * z1 * z1 * z2 * z2 * x1 * x1 * x1 * y1 + 9 * z1 * z1 * z2 * z2 * y1 * x2)
z-in-line m b x1 y1 z1 x2 y2 z2 s vx vy vz some sum e1 s_is =
    let without : IsDifference m vz (3 * z1 * z1 * z2 * z2 * b * s * x2 + 6 * z1 * z1 * z2 * z2 * b * y1 + z1 * z1 * z2 * z2 * s * s * x1 * x1 * y1 + z1 * z1 * z2 * z2 * s * s * y1 * x2 * x2 + 3 * z1 * z1 * z2 * z2 * s * x1 * x1 * x2 * x2 + 6 * z1 * z1 * z2 * z2 * s * x1 * x1 + 3 * z1 * z1 * z2 * z2 * s * y1 * y1 * x2 + 3 * z1 * z1 * z2 * z2 * x1 * x1 * y1 * x2 + 3 * z1 * z1 * z2 * z2 * x1 * y1 * x2 * x2 + 2 * z1 * z1 * z2 * z2 * y1 * y1 * y1) (3 * z1 * z1 * z2 * z2 * b * s * x1 + 2 * z1 * z1 * z2 * z2 * s * s * x1 * y1 * x2 + 3 * z1 * z1 * z2 * z2 * s * x1 * x1 * x1 * x2 + 3 * z1 * z1 * z2 * z2 * s * x1 * y1 * y1 + 3 * z1 * z1 * z2 * z2 * s * x1 * x2 + 3 * z1 * z1 * z2 * z2 * s * x2 * x2 + 9 * z1 * z1 * z2 * z2 * x1 * y1 + 9 * z1 * z1 * z2 * z2 * y1 * x2) = told some (shifted (z1 * z1 * z2 * z2 * s * x1 * y1 + 6 * z1 * z1 * z2 * z2 * x1 + 3 * z1 * z1 * z2 * z2 * x2) (3 * z1 * z1 * z2 * z2 * b + z1 * z1 * z2 * z2 * s * y1 * x2 + 3 * z1 * z1 * z2 * z2 * x1 * x1 * x2 + 2 * z1 * z1 * z2 * z2 * y1 * y1 + z1 * z1 * z2 * z2 * y1 * y2) s_is sum.z) (omega arith) in
    told some (shifted (3 * z1 * z1 * z2 * z2 * s * x2 + 6 * z1 * z1 * z2 * z2 * y1) (3 * z1 * z1 * z2 * z2 * s * x1) e1 without) (omega arith)

-- the slope's equation without y2
slope-in-line : (m s x1 y1 x2 y2 : ℕ) → 0 < m → IsCongruent m (s * x1 + y2) (s * x2 + y1)
    → IsCongruent m (s * y1 + s * y2 + 3) (x1 * x1 + x1 * x2 + x2 * x2)
    → IsCongruent m (s * s * x2 + 2 * s * y1 + 3) (s * s * x1 + x1 * x1 + x1 * x2 + x2 * x2)
slope-in-line m s x1 y1 x2 y2 some s_is g =
    alike some (told some (shifted s 0 s_is (shifted 0 1 g (itself m (s * s * x2 + 2 * s * y1 + 3)))) (omega arith)) (itself m (s * s * x1 + x1 * x1 + x1 * x2 + x2 * x2))

-- and Y is y Z
y-of-slope : (m x1 y1 z1 x2 z2 s y3 vy vz : ℕ) → 0 < m
    → IsDifference m vy (z1 * z1 * z2 * z2 * s * s * x1 * x1 * y1 * y1 + z1 * z1 * z2 * z2 * s * s * y1 * y1 * x2 * x2 + 2 * z1 * z1 * z2 * z2 * s * y1 * y1 * y1 * x2 + 45 * z1 * z1 * z2 * z2 * x1 * x1 * x1 * x1 + 18 * z1 * z1 * z2 * z2 * x1 * x1 * x1 * y1 * y1 + 18 * z1 * z1 * z2 * z2 * x1 * x1 * x1 * x2 + 9 * z1 * z1 * z2 * z2 * x1 * x1 * y1 * y1 * x2 + 18 * z1 * z1 * z2 * z2 * x1 * x1 * x2 * x2 + 9 * z1 * z1 * z2 * z2 * x1 * y1 * y1 * x2 * x2 + 9 * z1 * z1 * z2 * z2 * y1 * y1 * x2 + 27 * z1 * z1 * z2 * z2) (2 * z1 * z1 * z2 * z2 * s * s * x1 * y1 * y1 * x2 + 2 * z1 * z1 * z2 * z2 * s * x1 * y1 * y1 * y1 + 9 * z1 * z1 * z2 * z2 * x1 * x1 * x1 * x1 * x1 * x1 + 9 * z1 * z1 * z2 * z2 * x1 * x1 * x1 * x1 * x1 * x2 + 9 * z1 * z1 * z2 * z2 * x1 * x1 * x1 * x1 * x2 * x2 + 63 * z1 * z1 * z2 * z2 * x1 * x1 + 45 * z1 * z1 * z2 * z2 * x1 * y1 * y1 + 9 * z1 * z1 * z2 * z2 * x1 * x2 + 8 * z1 * z1 * z2 * z2 * y1 * y1 * y1 * y1 + 9 * z1 * z1 * z2 * z2 * x2 * x2)
    → IsDifference m vz (z1 * z1 * z2 * z2 * s * s * x1 * x1 * y1 + z1 * z1 * z2 * z2 * s * s * y1 * x2 * x2 + 3 * z1 * z1 * z2 * z2 * s * x1 * x1 * x1 * x1 + 3 * z1 * z1 * z2 * z2 * s * x1 * x1 * x2 * x2 + 6 * z1 * z1 * z2 * z2 * s * x1 * x2 + 6 * z1 * z1 * z2 * z2 * s * y1 * y1 * x2 + 3 * z1 * z1 * z2 * z2 * x1 * x1 * y1 * x2 + 3 * z1 * z1 * z2 * z2 * x1 * y1 * x2 * x2 + 9 * z1 * z1 * z2 * z2 * x1 * y1 + 8 * z1 * z1 * z2 * z2 * y1 * y1 * y1) (2 * z1 * z1 * z2 * z2 * s * s * x1 * y1 * x2 + 6 * z1 * z1 * z2 * z2 * s * x1 * x1 * x1 * x2 + 3 * z1 * z1 * z2 * z2 * s * x1 * x1 + 6 * z1 * z1 * z2 * z2 * s * x1 * y1 * y1 + 3 * z1 * z1 * z2 * z2 * s * x2 * x2 + 6 * z1 * z1 * z2 * z2 * x1 * x1 * x1 * y1 + 9 * z1 * z1 * z2 * z2 * y1 * x2)
    → IsDifference m y3 (s * (2 * x1 + x2)) (s * s * s + y1)
    → IsCongruent m (s * s * x2 + 2 * s * y1 + 3) (s * s * x1 + x1 * x1 + x1 * x2 + x2 * x2)
    → IsCongruent m vy ((y3 * vz) % m)
y-of-slope m x1 y1 z1 x2 z2 s y3 vy vz some y_at z_at y3_at line =
    alike some (told some (shifted (z1 * z1 * z2 * z2 * s * s * s * x1 * y1 + 3 * z1 * z1 * z2 * z2 * s * s * x1 * x1 * x1 + 3 * z1 * z1 * z2 * z2 * s * s * x2 + 6 * z1 * z1 * z2 * z2 * s * y1 + 18 * z1 * z1 * z2 * z2 * x1 * x1 + 12 * z1 * z1 * z2 * z2 * x1 * y1 * y1) (z1 * z1 * z2 * z2 * s * s * s * y1 * x2 + 3 * z1 * z1 * z2 * z2 * s * s * x1 * x1 * x2 + 3 * z1 * z1 * z2 * z2 * s * s * x1 + 4 * z1 * z1 * z2 * z2 * s * s * y1 * y1 + 3 * z1 * z1 * z2 * z2 * s * x1 * x1 * y1 + 3 * z1 * z1 * z2 * z2 * s * x1 * y1 * x2 + 9 * z1 * z1 * z2 * z2 * x1 * x1 * x1 * x1 + 9 * z1 * z1 * z2 * z2) line y_at) (omega arith)) (product {z = (y3 * vz) % m} refl y3_at z_at)

pub y-of-line : (m b x1 y1 z1 x2 y2 z2 s x3 y3 vx vy vz : ℕ) → 0 < m
    → IsSum m b (x1 * z1 * (x2 * z2)) (y1 * z1 * (y2 * z2)) (z1 * z2) (x1 * z1 * (y2 * z2) + y1 * z1 * (x2 * z2)) (y1 * z1 * z2 + z1 * (y2 * z2)) (x1 * z1 * z2 + z1 * (x2 * z2)) vx vy vz
    → IsDifference m y3 (s * (2 * x1 + x2)) (s * s * s + y1)
    → IsCongruent m (3 * x1 + y1 * y1) (b + x1 * x1 * x1)
    → IsCongruent m (s * x1 + y2) (s * x2 + y1)
    → IsCongruent m (s * y1 + s * y2 + 3) (x1 * x1 + x1 * x2 + x2 * x2)
    → IsCongruent m vy ((y3 * vz) % m)
y-of-line m b x1 y1 z1 x2 y2 z2 s x3 y3 vx vy vz some sum y3_at e1 s_is g =
    y-of-slope m x1 y1 z1 x2 z2 s y3 vy vz some
    (y-in-line m b x1 y1 z1 x2 y2 z2 s vx vy vz some sum e1 s_is)
    (z-in-line m b x1 y1 z1 x2 y2 z2 s vx vy vz some sum e1 s_is)
    y3_at
    (slope-in-line m s x1 y1 x2 y2 some s_is g)

-- the third point of a line is on the curve
pub third-on-curve : (m b x1 y1 x2 y2 s x3 y3 : ℕ) → 0 < m → IsDifference m x3 (s * s) (x1 + x2)
    → IsDifference m y3 (s * (2 * x1 + x2)) (s * s * s + y1)
    → IsCongruent m (3 * x1 + y1 * y1) (b + x1 * x1 * x1)
    → IsCongruent m (s * x1 + y2) (s * x2 + y1)
    → IsCongruent m (s * y1 + s * y2 + 3) (x1 * x1 + x1 * x2 + x2 * x2)
    → IsCongruent m (y3 * y3 + 3 * x3) (x3 * x3 * x3 + b)
third-on-curve m b x1 y1 x2 y2 s x3 y3 some x3_at y3_at e1 s_is g =
    let square = product' y3_at y3_at in
    let cube = product' (product' x3_at x3_at) x3_at in
    alike some (told some (shifted (2 * x1 + x2) (s * s) g (shifted 0 1 e1 (shifted (s * s * s) (2 * s * x1 + s * x2) s_is (sum' square (product' (itself m 3) x3_at))))) (omega arith)) (sum' cube (itself m b))

-- a chord's slope meets the equation that a tangent's meets
pub chord-slope : (m b x1 y1 x2 y2 s i : ℕ) → 0 < m
    → IsCongruent m (3 * x1 + y1 * y1) (b + x1 * x1 * x1)
    → IsCongruent m (3 * x2 + y2 * y2) (b + x2 * x2 * x2)
    → IsCongruent m (s * x1 + y2) (s * x2 + y1) → IsCongruent m (i * x2) (i * x1 + 1)
    → IsCongruent m (s * y1 + s * y2 + 3) (x1 * x1 + x1 * x2 + x2 * x2)
chord-slope m b x1 y1 x2 y2 s i some e1 e2 s_is i_is =
    alike some (told some (shifted i 0 e1 (shifted 0 i e2 (shifted (i * y1 + i * y2) 0 s_is (shifted (s * y1 + s * y2 + 3) (x1 * x1 + x1 * x2 + x2 * x2) i_is (itself m (s * y1 + s * y2 + 3)))))) (omega arith)) (itself m (x1 * x1 + x1 * x2 + x2 * x2))
