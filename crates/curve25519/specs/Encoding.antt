-- Points as numbers of 32 bytes: RFC 8032, sections 5.1.2 and 5.1.3.
use Rattle.std.specs.Prelude.{ℕ, ◌+◌, ◌-◌, ◌*◌, ◌/◌, ◌%◌, ◌^◌, nat_eq, nat_lt, if◌then◌else◌, ◌&&◌, Option, Some, None}
use Rattle.field25519.specs.Field.{prime, field_add, field_sub, field_mul, field_pow, field_inv}
use Rattle.curve25519.specs.Points.{curve_d, point_at}
use Rattle.curve25519.specs.declared.point.Point.{Point}

-- section 5.1.2: y, and the lowest bit of x in the highest bit
unfoldable pub encoded : Point → ℕ
encoded p =
    let z : ℕ = field_inv p.z in
    field_mul p.y z + 2 ^ 255 * (field_mul p.x z % 2)

-- section 5.1.3, step 2: the candidate root x = u v^3 (u v^7)^((p-5)/8)
unfoldable pub root_candidate : ℕ → ℕ → ℕ
root_candidate u v =
    let v3 : ℕ = field_mul (field_mul v v) v in
    let v7 : ℕ = field_mul (field_mul v3 v3) v in
    field_mul (field_mul u v3) (field_pow (field_mul u v7) ((prime - 5) / 8))

-- 2^((p-1)/4), a square root of -1
abbrev pub root_of_minus_one : ℕ
root_of_minus_one = 19681161376707505956807079304988542015446066515923890162744021073123829784752

-- step 3: a square root of u/v, if there is one
unfoldable pub square_root : ℕ → ℕ → Option ℕ
square_root u v =
    let x : ℕ = root_candidate u v in
    let w : ℕ = field_mul v (field_mul x x) in
    (if nat_eq w u then Some x
    else (if nat_eq w (field_sub 0 u) then Some (field_mul x root_of_minus_one) else None))

-- step 4: the root whose lowest bit is the sign; 0 has no other root
unfoldable pub with_sign : ℕ → ℕ → Option ℕ
with_sign sign x =
    (if nat_eq x 0 && nat_eq sign 1 then None
    else (if nat_eq (x % 2) sign then Some x else Some (field_sub 0 x)))

-- step 4 of what step 3 found
unfoldable pub signed_root : ℕ → Option ℕ → Option ℕ
signed_root sign (Some x) = with_sign sign x
signed_root sign None = None

-- steps 2 to 4: x of y and the sign, where x^2 = (y^2 - 1) / (d y^2 + 1)
unfoldable pub recovered_x : ℕ → ℕ → Option ℕ
recovered_x sign y =
    signed_root sign
    (square_root (field_sub (field_mul y y) 1) (field_add (field_mul curve_d (field_mul y y)) 1))

-- the point (x, y), if x was found
unfoldable pub point_of : ℕ → Option ℕ → Option Point
point_of y (Some x) = Some (point_at x y)
point_of y None = None

-- section 5.1.3, of the number of 32 bytes: step 1 takes the sign off, and refuses a y from p on
unfoldable pub decoded : ℕ → Option Point
decoded n =
    let y : ℕ = n % 2 ^ 255 in
    (if nat_lt y prime then point_of y (recovered_x (n / 2 ^ 255) y) else None)
