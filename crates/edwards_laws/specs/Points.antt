-- Points of edwards25519 and their sum: RFC 8032, section 5.1; and what coordinates stand for, section 5.1.4.
use Rattle.std.specs.Prelude.{◌≡◌, ◌<◌, ℕ}
use Rattle.field25519.specs.Field.{prime, field_add, field_mul, field_sub}
use Rattle.curve25519.specs.declared.point.Point.{Point}
use Rattle.curve25519.specs.Points.{IsOnCurve, base_x, base_y, curve_d}

-- a pair (x, y)
pub record Affine : Type 0 where
  pub x : ℕ
  pub y : ℕ

-- a point of the curve
pub record IsPoint (p : Affine) : Type 0 where
  pub x_below : p.x < prime
  pub y_below : p.y < prime
  pub on_curve : IsOnCurve p.x p.y

-- the neutral point (0, 1)
abbrev pub neutral_point : Affine
neutral_point = record { x = 0; y = 1 }

-- the base point B
abbrev pub base_point : Affine
base_point = record { x = base_x; y = base_y }

-- d x1 x2 y1 y2
abbrev pub product_of : Affine → Affine → ℕ
product_of p q = field_mul curve_d (field_mul (field_mul p.x q.x) (field_mul p.y q.y))

-- the third point is the sum: x3 (1 + d x1 x2 y1 y2) = x1 y2 + x2 y1, and y3 (1 - d x1 x2 y1 y2) = y1 y2 + x1 x2
pub record IsPointSum (p q r : Affine) : Type 0 where
  pub x_below : r.x < prime
  pub y_below : r.y < prime
  pub x_is : field_mul r.x (field_add 1 (product_of p q)) ≡ field_add (field_mul p.x q.y) (field_mul q.x p.y)
  pub y_is : field_mul r.y (field_sub 1 (product_of p q)) ≡ field_add (field_mul p.y q.y) (field_mul p.x q.x)

-- (X, Y, Z, T) with X = x Z, Y = y Z and T = x y Z, where Z isn't 0, below p
pub record StandsFor (point : Point) (p : Affine) : Type 0 where
  pub is_point : IsPoint p
  pub x_is : point.x ≡ field_mul p.x point.z
  pub y_is : point.y ≡ field_mul p.y point.z
  pub t_is : point.t ≡ field_mul (field_mul p.x p.y) point.z
  pub z_some : 0 < point.z
  pub z_below : point.z < prime

-- a point for which the coordinates stand
pub record HasPoint (point : Point) : Type 0 where
  pub p : Affine
  pub is : StandsFor point p
