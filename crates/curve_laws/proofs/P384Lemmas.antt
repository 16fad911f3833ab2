-- The formula's sum of two points of P-384.
use Rattle.std.proofs.Common.{◌≡◌, ◌<◌, ◌≤◌, ℕ, ◌+◌, ◌*◌, ◌%◌, arith, refl, sym}
use Rattle.std.proofs.Math.Nat.{mod-mod}
use Rattle.p384_field.specs.Field.{prime, field_add, field_mul, field_sub}
use Rattle.p384_curve.specs.declared.point.Point.{Point}
use Rattle.p384_curve.specs.Points.{IsOnCurve, curve_b, point_add}
use Rattle.curve_laws.proofs.DifferenceLemmas.{IsCongruent, IsDifference, alike, equal, fits, itself, told}
use Rattle.curve_laws.proofs.StepLemmas.{IsSum, sum-steps}
use Rattle.curve_laws.proofs.LineLemmas.{chord-slope, x-of-line, y-of-line}
use Rattle.curve_laws.proofs.CaseLemmas.{x-of-opposites, x-with-infinity, y-with-infinity, z-of-opposites}
use Rattle.curve_laws.proofs.FieldLemmas.{both-settled, inverse-of-run, on-curve, opposite, scaled, settled, slope-of-chord, slope-of-tangent, x-of-third, y-of-third, zero-at}
use Rattle.curve_laws.specs.P384.{HasAffine, HasInverse, IsAtInfinity, IsChord, IsFinite, IsTangent, negated, third_x, third_y}

pub some : 0 < prime
some = omega arith

pub fits-three : 3 ≤ prime
fits-three = omega arith

pub within : {x : ℕ} → x < prime → x ≤ prime
within below = omega arith

-- the sum of points whose coordinates are x1 to z2 modulo p
pub sum-is : (p q : Point) (x1 y1 z1 x2 y2 z2 : ℕ)
    → IsDifference prime p.x x1 0 → IsDifference prime p.y y1 0 → IsDifference prime p.z z1 0
    → IsDifference prime q.x x2 0 → IsDifference prime q.y y2 0 → IsDifference prime q.z z2 0
    → IsSum prime curve_b (x1 * x2) (y1 * y2) (z1 * z2) (x1 * y2 + y1 * x2) (y1 * z2 + z1 * y2) (x1 * z2 + z1 * x2) (point_add p q).x (point_add p q).y (point_add p q).z
unfolding point_add field_add field_mul field_sub
sum-is p q x1 y1 z1 x2 y2 z2 px py pz qx qy qz =
    sum-steps prime curve_b x1 y1 z1 x2 y2 z2 p.x p.y p.z q.x q.y q.z some px py pz qx qy qz refl refl refl refl refl refl refl refl refl refl refl refl refl refl refl refl refl refl refl refl refl refl refl refl refl refl refl refl refl refl refl refl refl refl refl refl refl refl refl refl refl refl refl

-- its coordinates are below p
pub x-settled : (p q : Point) → (point_add p q).x ≡ (point_add p q).x % prime
unfolding point_add field_sub
x-settled p q = sym (mod-mod _ prime)

pub y-settled : (p q : Point) → (point_add p q).y ≡ (point_add p q).y % prime
unfolding point_add field_add
y-settled p q = sym (mod-mod _ prime)

pub z-settled : (p q : Point) → (point_add p q).z ≡ (point_add p q).z % prime
unfolding point_add field_add
z-settled p q = sym (mod-mod _ prime)

-- and by the affine coordinates of both points
pub affine-sum : (p q : Point) (x1 y1 x2 y2 : ℕ) → HasAffine p x1 y1 → HasAffine q x2 y2
    → IsSum prime curve_b (x1 * p.z * (x2 * q.z)) (y1 * p.z * (y2 * q.z)) (p.z * q.z) (x1 * p.z * (y2 * q.z) + y1 * p.z * (x2 * q.z)) (y1 * p.z * q.z + p.z * (y2 * q.z)) (x1 * p.z * q.z + p.z * (x2 * q.z)) (point_add p q).x (point_add p q).y (point_add p q).z
unfolding field_mul
affine-sum p q x1 y1 x2 y2 p_at q_at =
    sum-is p q (x1 * p.z) (y1 * p.z) p.z (x2 * q.z) (y2 * q.z) q.z
    (scaled prime x1 p.z p.x some p_at.x_is) (scaled prime y1 p.z p.y some p_at.y_is) (itself prime p.z)
    (scaled prime x2 q.z q.x some q_at.x_is) (scaled prime y2 q.z q.y some q_at.y_is) (itself prime q.z)

pub equation : (x y : ℕ) → IsOnCurve x y → IsCongruent prime (3 * x + y * y) (curve_b + x * x * x)
unfolding field_add field_mul field_sub
equation x y is = on-curve prime curve_b x y some is

-- a line through two points, with the slope that a chord or a tangent has
line-sum : (p q : Point) (slope x1 y1 x2 y2 : ℕ) → IsFinite x1 y1 → IsFinite x2 y2
    → HasAffine p x1 y1 → HasAffine q x2 y2
    → IsCongruent prime (slope * x1 + y2) (slope * x2 + y1)
    → IsCongruent prime (slope * y1 + slope * y2 + 3) (x1 * x1 + x1 * x2 + x2 * x2)
    → HasAffine (point_add p q) (third_x slope x1 x2) (third_y slope x1 y1 x2)
unfolding field_add field_mul field_sub
line-sum p q slope x1 y1 x2 y2 first second p_at q_at line slope_is =
    let sum = affine-sum p q x1 y1 x2 y2 p_at q_at in
    let x_at = x-of-third prime slope x1 x2 some (within first.x_below) (within second.x_below) in
    let y_at = y-of-third prime slope x1 y1 x2 (third_x slope x1 x2) some (fits some _ refl) (within first.y_below) x_at in
    let e = equation x1 y1 first.on_curve in
    record {
      x_is = settled prime (point_add p q).x (third_x slope x1 x2 * (point_add p q).z) (x-settled p q)
          (x-of-line prime curve_b x1 y1 p.z x2 y2 q.z slope (third_x slope x1 x2) (third_y slope x1 y1 x2) (point_add p q).x (point_add p q).y (point_add p q).z some sum x_at e line slope_is);
      y_is = settled prime (point_add p q).y (third_y slope x1 y1 x2 * (point_add p q).z) (y-settled p q)
          (y-of-line prime curve_b x1 y1 p.z x2 y2 q.z slope (third_x slope x1 x2) (third_y slope x1 y1 x2) (point_add p q).x (point_add p q).y (point_add p q).z some sum y_at e line slope_is);
    }

pub chord-sum : (p q : Point) (slope x1 y1 x2 y2 : ℕ) → IsFinite x1 y1 → IsFinite x2 y2
    → HasAffine p x1 y1 → HasAffine q x2 y2
    → HasInverse (field_sub x2 x1) → IsChord slope x1 y1 x2 y2
    → HasAffine (point_add p q) (third_x slope x1 x2) (third_y slope x1 y1 x2)
unfolding field_mul field_sub
chord-sum p q slope x1 y1 x2 y2 first second p_at q_at inverse chord =
    let line = slope-of-chord prime slope x1 y1 x2 y2 some (within first.x_below) (within first.y_below) chord in
    line-sum p q slope x1 y1 x2 y2 first second p_at q_at line
    (chord-slope prime curve_b x1 y1 x2 y2 slope inverse.inverse some (equation x1 y1 first.on_curve) (equation x2 y2 second.on_curve) line
    (inverse-of-run prime inverse.inverse x1 x2 some (within first.x_below) inverse.is))

pub tangent-sum : (p q : Point) (slope x y : ℕ) → IsFinite x y → HasAffine p x y → HasAffine q x y
    → IsTangent slope x y
    → HasAffine (point_add p q) (third_x slope x x) (third_y slope x y x)
unfolding field_mul field_sub
tangent-sum p q slope x y finite p_at q_at tangent =
    line-sum p q slope x y x y finite finite p_at q_at (equal prime (slope * x + y) (slope * x + y) refl)
    (slope-of-tangent prime slope x y some fits-three tangent)

pub infinity-sum : (p q : Point) (x y : ℕ) → HasAffine p x y → IsAtInfinity q
    → IsSum prime curve_b (x * p.z * 0) (y * p.z * q.y) (p.z * 0) (x * p.z * q.y + y * p.z * 0) (y * p.z * 0 + p.z * q.y) (x * p.z * 0 + p.z * 0) (point_add p q).x (point_add p q).y (point_add p q).z
unfolding field_mul
infinity-sum p q x y p_at q_at =
    sum-is p q (x * p.z) (y * p.z) p.z 0 q.y 0
    (scaled prime x p.z p.x some p_at.x_is) (scaled prime y p.z p.y some p_at.y_is) (itself prime p.z)
    (zero-at prime q.x q_at.x_is) (itself prime q.y) (zero-at prime q.z q_at.z_is)

pub sum-with-infinity : (p q : Point) (x y : ℕ) → HasAffine p x y → IsAtInfinity q
    → HasAffine (point_add p q) x y
unfolding field_mul
sum-with-infinity p q x y p_at q_at =
    let sum = infinity-sum p q x y p_at q_at in
    record {
      x_is = settled prime (point_add p q).x (x * (point_add p q).z) (x-settled p q) (x-with-infinity prime curve_b x y p.z q.y (point_add p q).x (point_add p q).y (point_add p q).z some sum);
      y_is = settled prime (point_add p q).y (y * (point_add p q).z) (y-settled p q) (y-with-infinity prime curve_b x y p.z q.y (point_add p q).x (point_add p q).y (point_add p q).z some sum);
    }

pub opposites-sum : (p q : Point) (x y : ℕ) → IsFinite x y → HasAffine p x y
    → HasAffine q x (negated y) → IsAtInfinity (point_add p q)
unfolding field_sub
opposites-sum p q x y finite p_at q_at =
    let sum = affine-sum p q x y x (negated y) p_at q_at in
    let w_is = opposite prime y some (within finite.y_below) in
    record {
      x_is = settled prime (point_add p q).x 0 (x-settled p q) (x-of-opposites prime curve_b x y p.z (negated y) q.z (point_add p q).x (point_add p q).y (point_add p q).z some sum w_is);
      z_is = settled prime (point_add p q).z 0 (z-settled p q) (z-of-opposites prime curve_b x y p.z (negated y) q.z (point_add p q).x (point_add p q).y (point_add p q).z some sum w_is);
    }

-- points with the same coordinates
the-same : (p q : Point) → p.x ≡ q.x → p.y ≡ q.y → p.z ≡ q.z → p ≡ q
the-same p q x y z = λ i. record { x = x i; y = y i; z = z i }

plain-sum : (p q : Point)
    → IsSum prime curve_b (p.x * q.x) (p.y * q.y) (p.z * q.z) (p.x * q.y + p.y * q.x) (p.y * q.z + p.z * q.y) (p.x * q.z + p.z * q.x) (point_add p q).x (point_add p q).y (point_add p q).z
plain-sum p q =
    sum-is p q p.x p.y p.z q.x q.y q.z (itself prime p.x) (itself prime p.y) (itself prime p.z) (itself prime q.x) (itself prime q.y) (itself prime q.z)

pub commutes : (p q : Point) → point_add p q ≡ point_add q p
commutes p q =
    let here = plain-sum p q in
    let there = plain-sum q p in
    the-same (point_add p q) (point_add q p)
    (both-settled prime (point_add p q).x (point_add q p).x (x-settled p q) (x-settled q p) (alike some (told some here.x (omega arith)) there.x))
    (both-settled prime (point_add p q).y (point_add q p).y (y-settled p q) (y-settled q p) (alike some (told some here.y (omega arith)) there.y))
    (both-settled prime (point_add p q).z (point_add q p).z (z-settled p q) (z-settled q p) (alike some (told some here.z (omega arith)) there.z))

pub infinity-plus : (p q : Point) (x y : ℕ) → IsAtInfinity p → HasAffine q x y
    → HasAffine (point_add p q) x y
infinity-plus p q x y p_at q_at = rw (commutes p q) (sum-with-infinity q p x y q_at p_at)
