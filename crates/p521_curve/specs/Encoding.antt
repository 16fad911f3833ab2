-- Points as bytes, without compression: SEC 1, sections 2.3.3 and 2.3.4.
use Rattle.std.specs.Prelude.{ℕ, List, ◌∷◌, ◌++◌, take, drop, slice_index, Bool, nat_eq, nat_lt, if◌then◌else◌, Option, Some, None}
use Rattle.wide_words.specs.Numbers.{big_endian, octets}
use Rattle.p521_field.specs.Field.{prime, field_add, field_sub, field_mul, field_inv}
use Rattle.p521_curve.specs.declared.point.Point.{Point}
use Rattle.p521_curve.specs.Points.{curve_b, point_at}

-- x of a point, and 0 of the point at infinity
unfoldable pub affine_x : Point → ℕ
affine_x p = field_mul p.x (field_inv p.z)

-- y of a point, and 0 of the point at infinity
unfoldable pub affine_y : Point → ℕ
affine_y p = field_mul p.y (field_inv p.z)

-- section 2.3.3: 04, x and y
unfoldable pub encoded : Point → List ℕ
encoded p = 4 ∷ (octets 66 (affine_x p) ++ octets 66 (affine_y p))

-- whether x and y meet the curve's equation
unfoldable pub is_on_curve : ℕ → ℕ → Bool
is_on_curve x y =
    nat_eq (field_mul y y) (field_add (field_sub (field_mul (field_mul x x) x) (field_mul 3 x)) curve_b)

-- the point of two numbers, if they are below p and meet the equation
unfoldable pub valid_point : ℕ → ℕ → Option Point
valid_point x y =
    (if nat_lt x prime
    then (if nat_lt y prime then (if is_on_curve x y then Some (point_at x y) else None) else None)
    else None)

-- section 2.3.4, for 133 bytes: the point after the byte 04
unfoldable pub decoded : List ℕ → Option Point
decoded bytes =
    (if nat_eq (slice_index bytes 0) 4
    then valid_point (big_endian (take 66 (drop 1 bytes))) (big_endian (take 66 (drop 67 bytes)))
    else None)
