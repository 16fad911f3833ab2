-- The sum of two points of P-256 by SEC 1 (version 2.0), section 2.2.1, and what coordinates stand for.
use Rattle.std.specs.Prelude.{◌≡◌, ◌≢◌, ◌<◌, ℕ}
use Rattle.p256_field.specs.Field.{prime, field_sub, field_mul}
use Rattle.p256_curve.specs.declared.point.Point.{Point}
use Rattle.p256_curve.specs.Points.{IsOnCurve}

-- ---- points as SEC 1 has them

-- O, the point at infinity, or the point (x, y)
pub data Affine : Type 0 where
  Infinity : Affine
  At : (x y : ℕ) → Affine

-- x and y are of a point of the curve
pub record IsFinite (x y : ℕ) : Type 0 where
  pub x_below : x < prime
  pub y_below : y < prime
  pub on_curve : IsOnCurve x y

-- a number by which one can divide
pub record HasInverse (x : ℕ) : Type 0 where
  pub inverse : ℕ
  pub is : field_mul x inverse ≡ 1

-- the opposite of y
abbrev pub negated : ℕ → ℕ
negated y = field_sub 0 y

-- rule 4: the slope times (x2 - x1) is y2 - y1
abbrev pub IsChord : (slope x1 y1 x2 y2 : ℕ) → Type 0
IsChord slope x1 y1 x2 y2 = field_mul slope (field_sub x2 x1) ≡ field_sub y2 y1

-- rule 5: the slope times 2 y is 3 x ^ 2 + a, where a is - 3
abbrev pub IsTangent : (slope x y : ℕ) → Type 0
IsTangent slope x y = field_mul slope (field_mul 2 y) ≡ field_sub (field_mul 3 (field_mul x x)) 3

-- rules 4 and 5: x3 = slope ^ 2 - x1 - x2
abbrev pub third_x : (slope x1 x2 : ℕ) → ℕ
third_x slope x1 x2 = field_sub (field_sub (field_mul slope slope) x1) x2

-- rules 4 and 5: y3 = slope (x1 - x3) - y1
abbrev pub third_y : (slope x1 y1 x2 : ℕ) → ℕ
third_y slope x1 y1 x2 = field_sub (field_mul slope (field_sub x1 (third_x slope x1 x2))) y1

-- the third point is the sum of the first and the second, by rules 1 to 5 in their order
pub data IsGroupSum : Affine → Affine → Affine → Type 0 where
  of_infinities : IsGroupSum Infinity Infinity Infinity
  with_infinity : (x y : ℕ) → IsGroupSum (At x y) Infinity (At x y)
  infinity_with : (x y : ℕ) → IsGroupSum Infinity (At x y) (At x y)
  of_opposites : (x y : ℕ) → IsGroupSum (At x y) (At x (negated y)) Infinity
  of_chord : (slope x1 y1 x2 y2 : ℕ) → x1 ≢ x2 → IsChord slope x1 y1 x2 y2
      → IsGroupSum (At x1 y1) (At x2 y2) (At (third_x slope x1 x2) (third_y slope x1 y1 x2))
  of_tangent : (slope x y : ℕ) → y ≢ 0 → IsTangent slope x y
      → IsGroupSum (At x y) (At x y) (At (third_x slope x x) (third_y slope x y x))

-- points that have a sum
pub record HasGroupSum (first second : Affine) : Type 0 where
  pub third : Affine
  pub is : IsGroupSum first second third

-- a point of the curve
pub data IsPoint : Affine → Type 0 where
  infinity_is : IsPoint Infinity
  finite_is : (x y : ℕ) → IsFinite x y → IsPoint (At x y)

-- ---- points as the formula has them

-- (X : Y : Z) with X = x Z and Y = y Z
pub record HasAffine (point : Point) (x y : ℕ) : Type 0 where
  pub x_is : point.x ≡ field_mul x point.z
  pub y_is : point.y ≡ field_mul y point.z

-- (0 : Y : 0)
pub record IsAtInfinity (point : Point) : Type 0 where
  pub x_is : point.x ≡ 0
  pub z_is : point.z ≡ 0

-- a coordinate that isn't 0
pub record IsNonzero (x : ℕ) : Type 0 where
  pub some : 0 < x
  pub below : x < prime

-- which point three coordinates stand for
pub data StandsFor (point : Point) : Affine → Type 0 where
  for_infinity : IsAtInfinity point → IsNonzero point.y → StandsFor point Infinity
  for_finite : (x y : ℕ) → IsFinite x y → HasAffine point x y → IsNonzero point.z
      → StandsFor point (At x y)

-- a point of the curve, but for O, for which the coordinates stand
pub record HasPoint (point : Point) : Type 0 where
  pub x : ℕ
  pub y : ℕ
  pub is : StandsFor point (At x y)
