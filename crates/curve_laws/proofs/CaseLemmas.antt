-- The coordinates of a sum with the point at infinity and with the opposite point, and which of them aren't 0.
use Rattle.std.proofs.Common.{◌<◌, ℕ, ◌+◌, ◌*◌, ◌%◌, arith, refl}
use Rattle.curve_laws.proofs.DifferenceLemmas.{IsCongruent, IsDifference, alike, itself, product, product', shifted, told}
use Rattle.curve_laws.proofs.StepLemmas.{IsSum}

-- a point and the point at infinity
pub x-with-infinity : (m b x y z1 w vx vy vz : ℕ) → 0 < m
    → IsSum m b ((x * z1) * 0) ((y * z1) * w) (z1 * 0) ((x * z1) * w + (y * z1) * 0) ((y * z1) * 0 + z1 * w) ((x * z1) * 0 + z1 * 0) vx vy vz
    → IsCongruent m vx ((x * vz) % m)
x-with-infinity m b x y z1 w vx vy vz some sum =
    alike some (told some sum.x (omega arith)) (product {z = (x * vz) % m} refl (itself m x) sum.z)

pub y-with-infinity : (m b x y z1 w vx vy vz : ℕ) → 0 < m
    → IsSum m b ((x * z1) * 0) ((y * z1) * w) (z1 * 0) ((x * z1) * w + (y * z1) * 0) ((y * z1) * 0 + z1 * w) ((x * z1) * 0 + z1 * 0) vx vy vz
    → IsCongruent m vy ((y * vz) % m)
y-with-infinity m b x y z1 w vx vy vz some sum =
    alike some (told some sum.y (omega arith)) (product {z = (y * vz) % m} refl (itself m y) sum.z)

pub z-with-infinity : (m b x y z1 w vx vy vz : ℕ) → 0 < m
    → IsSum m b ((x * z1) * 0) ((y * z1) * w) (z1 * 0) ((x * z1) * w + (y * z1) * 0) ((y * z1) * 0 + z1 * w) ((x * z1) * 0 + z1 * 0) vx vy vz
    → IsCongruent m vz (y * (z1 * z1) * (w * w))
z-with-infinity m b x y z1 w vx vy vz some sum =
    alike some (told some sum.z (omega arith)) (itself m (y * (z1 * z1) * (w * w)))

-- the point at infinity twice
pub x-of-infinity : (m b y w vx vy vz : ℕ) → 0 < m
    → IsSum m b (0 * 0) (y * w) (0 * 0) (0 * w + y * 0) (y * 0 + 0 * w) (0 * 0 + 0 * 0) vx vy vz
    → IsCongruent m vx 0
x-of-infinity m b y w vx vy vz some sum = alike some (told some sum.x (omega arith)) (itself m 0)

pub z-of-infinity : (m b y w vx vy vz : ℕ) → 0 < m
    → IsSum m b (0 * 0) (y * w) (0 * 0) (0 * w + y * 0) (y * 0 + 0 * w) (0 * 0 + 0 * 0) vx vy vz
    → IsCongruent m vz 0
z-of-infinity m b y w vx vy vz some sum = alike some (told some sum.z (omega arith)) (itself m 0)

pub y-of-infinity : (m b y w vx vy vz : ℕ) → 0 < m
    → IsSum m b (0 * 0) (y * w) (0 * 0) (0 * w + y * 0) (y * 0 + 0 * w) (0 * 0 + 0 * 0) vx vy vz
    → IsCongruent m vy (y * w * (y * w))
y-of-infinity m b y w vx vy vz some sum = alike some (told some sum.y (omega arith)) (itself m (y * w * (y * w)))

-- a point and its opposite
pub x-of-opposites : (m b x y z1 w z2 vx vy vz : ℕ) → 0 < m
    → IsSum m b ((x * z1) * (x * z2)) ((y * z1) * (w * z2)) (z1 * z2) ((x * z1) * (w * z2) + (y * z1) * (x * z2)) ((y * z1) * z2 + z1 * (w * z2)) ((x * z1) * z2 + z1 * (x * z2)) vx vy vz
    → IsCongruent m (y + w) 0 → IsCongruent m vx 0
x-of-opposites m b x y z1 w z2 vx vy vz some sum w_is =
    alike some (told some (shifted (9 * z1 * z1 * z2 * z2 * b * x) (z1 * z1 * z2 * z2 * w * x * y + 9 * z1 * z1 * z2 * z2 * x * x + 9 * z1 * z1 * z2 * z2) w_is sum.x) (omega arith)) (itself m 0)

pub z-of-opposites : (m b x y z1 w z2 vx vy vz : ℕ) → 0 < m
    → IsSum m b ((x * z1) * (x * z2)) ((y * z1) * (w * z2)) (z1 * z2) ((x * z1) * (w * z2) + (y * z1) * (x * z2)) ((y * z1) * z2 + z1 * (w * z2)) ((x * z1) * z2 + z1 * (x * z2)) vx vy vz
    → IsCongruent m (y + w) 0 → IsCongruent m vz 0
z-of-opposites m b x y z1 w z2 vx vy vz some sum w_is =
    alike some (told some (shifted (9 * z1 * z1 * z2 * z2 * x) (z1 * z1 * z2 * z2 * w * y + 3 * z1 * z1 * z2 * z2 * b + 3 * z1 * z1 * z2 * z2 * x * x * x) w_is sum.z) (omega arith)) (itself m 0)

-- Y of it is y of the double, 8 y ^ 3 times
pub y-of-opposites : (m b x y z1 w z2 t y3 vx vy vz : ℕ) → 0 < m
    → IsSum m b ((x * z1) * (x * z2)) ((y * z1) * (w * z2)) (z1 * z2) ((x * z1) * (w * z2) + (y * z1) * (x * z2)) ((y * z1) * z2 + z1 * (w * z2)) ((x * z1) * z2 + z1 * (x * z2)) vx vy vz
    → IsCongruent m (y + w) 0 → IsCongruent m (3 * x + y * y) (b + x * x * x)
    → IsCongruent m (2 * t * y + 3) (3 * x * x) → IsDifference m y3 (t * (3 * x)) (t * t * t + y)
    → IsCongruent m vy (z1 * z1 * (z2 * z2) * (8 * (y * y * y)) * y3)
y-of-opposites m b x y z1 w z2 t y3 vx vy vz some sum w_is e t_is y3_at =
    let first : IsDifference m vy (18 * z1 * z1 * z2 * z2 * b * x * x * x + 18 * z1 * z1 * z2 * z2 * b * x + z1 * z1 * z2 * z2 * y * y * y * y + 27 * z1 * z1 * z2 * z2) (9 * z1 * z1 * z2 * z2 * b * b + 9 * z1 * z1 * z2 * z2 * x * x * x * x + 54 * z1 * z1 * z2 * z2 * x * x) = told some (shifted (z1 * z1 * z2 * z2 * y * y * y) (z1 * z1 * z2 * z2 * w * y * y) w_is sum.y) (omega arith) in
    let second : IsDifference m vy (81 * z1 * z1 * z2 * z2 * x * x * x * x + 36 * z1 * z1 * z2 * z2 * x * x * x * y * y + 27 * z1 * z1 * z2 * z2) (27 * z1 * z1 * z2 * z2 * x * x * x * x * x * x + 81 * z1 * z1 * z2 * z2 * x * x + 36 * z1 * z1 * z2 * z2 * x * y * y + 8 * z1 * z1 * z2 * z2 * y * y * y * y) = told some (shifted (27 * z1 * z1 * z2 * z2 * x * x * x) (9 * z1 * z1 * z2 * z2 * b + 9 * z1 * z1 * z2 * z2 * x + 9 * z1 * z1 * z2 * z2 * y * y) e first) (omega arith) in
    alike some (told some (shifted (6 * z1 * z1 * z2 * z2 * t * y + 18 * z1 * z1 * z2 * z2 * x * x + 12 * z1 * z1 * z2 * z2 * x * y * y) (4 * z1 * z1 * z2 * z2 * t * t * y * y + 6 * z1 * z1 * z2 * z2 * t * x * x * y + 9 * z1 * z1 * z2 * z2 * x * x * x * x + 9 * z1 * z1 * z2 * z2) t_is second) (omega arith)) (product' (itself m (z1 * z1 * (z2 * z2) * (8 * (y * y * y)))) y3_at)

-- Z of a double is 8 y ^ 3
pub z-of-double : (m b x y z1 z2 vx vy vz : ℕ) → 0 < m
    → IsSum m b ((x * z1) * (x * z2)) ((y * z1) * (y * z2)) (z1 * z2) ((x * z1) * (y * z2) + (y * z1) * (x * z2)) ((y * z1) * z2 + z1 * (y * z2)) ((x * z1) * z2 + z1 * (x * z2)) vx vy vz
    → IsCongruent m (3 * x + y * y) (b + x * x * x)
    → IsCongruent m vz (z1 * z1 * (z2 * z2) * (8 * (y * y * y)))
z-of-double m b x y z1 z2 vx vy vz some sum e =
    alike some (told some (shifted (6 * z1 * z1 * z2 * z2 * y) 0 e sum.z) (omega arith)) (itself m (z1 * z1 * (z2 * z2) * (8 * (y * y * y))))

-- Z of a sum is y of the difference of the points, (x2 - x1) ^ 3 times
times-cube : (m x1 y1 x2 y2 t d y3 : ℕ) → 0 < m → IsDifference m d x2 x1
    → IsCongruent m (t * x2 + y1 + y2) (t * x1)
    → IsDifference m y3 (t * (2 * x1 + x2)) (t * t * t + y1)
    → IsDifference m (d * (d * d) * y3) (3 * x1 * x1 * x2 * y2 + 3 * x1 * y1 * x2 * x2 + y1 * y1 * y1 + 3 * y1 * y1 * y2 + 3 * y1 * y2 * y2 + y2 * y2 * y2) (x1 * x1 * x1 * y1 + 2 * x1 * x1 * x1 * y2 + 2 * y1 * x2 * x2 * x2 + x2 * x2 * x2 * y2)
times-cube m x1 y1 x2 y2 t d y3 some d_at t_is y3_at =
    let square : IsDifference m (d * d) (x1 * x1 + x2 * x2) (2 * x1 * x2) = told some (product' d_at d_at) (omega arith) in
    let cube : IsDifference m (d * (d * d)) (3 * x1 * x1 * x2 + x2 * x2 * x2) (x1 * x1 * x1 + 3 * x1 * x2 * x2) = told some (product' d_at square) (omega arith) in
    told some (shifted (t * t * x1 * x1 + t * t * x2 * x2 + t * x1 * y1 + t * x1 * y2 + 3 * x1 * x1 * x2 + y1 * y1 + 2 * y1 * y2 + y2 * y2) (2 * t * t * x1 * x2 + t * y1 * x2 + t * x2 * y2 + 2 * x1 * x1 * x1 + x2 * x2 * x2) t_is (product' cube y3_at)) (omega arith)

pub z-of-chord : (m b x1 y1 z1 x2 y2 z2 t d y3 vx vy vz : ℕ) → 0 < m
    → IsSum m b ((x1 * z1) * (x2 * z2)) ((y1 * z1) * (y2 * z2)) (z1 * z2) ((x1 * z1) * (y2 * z2) + (y1 * z1) * (x2 * z2)) ((y1 * z1) * z2 + z1 * (y2 * z2)) ((x1 * z1) * z2 + z1 * (x2 * z2)) vx vy vz
    → IsCongruent m (3 * x1 + y1 * y1) (b + x1 * x1 * x1)
    → IsCongruent m (3 * x2 + y2 * y2) (b + x2 * x2 * x2) → IsDifference m d x2 x1
    → IsCongruent m (t * x2 + y1 + y2) (t * x1)
    → IsDifference m y3 (t * (2 * x1 + x2)) (t * t * t + y1)
    → IsCongruent m vz (z1 * z1 * (z2 * z2) * (d * (d * d) * y3))
z-of-chord m b x1 y1 z1 x2 y2 z2 t d y3 vx vy vz some sum e1 e2 d_at t_is y3_at =
    alike some (told some (shifted (2 * z1 * z1 * z2 * z2 * y1 + z1 * z1 * z2 * z2 * y2) 0 e2 (shifted (z1 * z1 * z2 * z2 * y1 + 2 * z1 * z1 * z2 * z2 * y2) 0 e1 sum.z)) (omega arith)) (product' (itself m (z1 * z1 * (z2 * z2))) (times-cube m x1 y1 x2 y2 t d y3 some d_at t_is y3_at))
