-- Verification of ECDSA signatures over P-521: FIPS 186-5, section 6.4.2.
use Rattle.std.specs.Prelude.{ℕ, ◌%◌, List, take, drop, Bool, false, nat_eq, if◌then◌else◌, Option, Some, None}
use Rattle.sha2.specs.Sha512.{sha512}
use Rattle.wide_words.specs.Numbers.{big_endian, bits_to_int}
use Rattle.p521_order.specs.Scalars.{order, scalar_inv, scalar_mul}
use Rattle.p521_curve.specs.declared.point.Point.{Point}
use Rattle.p521_curve.specs.Points.{base, point_add}
use Rattle.p521_curve.specs.Multiples.{multiply}
use Rattle.p521_curve.specs.Encoding.{affine_x, decoded}
use Rattle.p521_ecdsa.specs.Keys.{in_range}

-- the point R = [u1]G + [u2]Q, with u1 = e / s and u2 = r / s modulo n
unfoldable pub recovered : Point → ℕ → ℕ → ℕ → Point
recovered q e r s =
    let w : ℕ = scalar_inv s in
    point_add (multiply (scalar_mul (e % order) w) base) (multiply (scalar_mul r w) q)

-- the check of a public key that was decoded: x of R modulo n is r. Of the point at infinity x is 0 here, which no r
-- in range is
unfoldable pub meets : Option Point → ℕ → ℕ → ℕ → Bool
meets (Some q) e r s = nat_eq (affine_x (recovered q e r s) % order) r
meets None e r s = false

-- the whole check: r and s are in range, the public key decodes, and the equation holds
unfoldable pub accepts : List ℕ → List ℕ → List ℕ → Bool
accepts public message signature =
    let r : ℕ = big_endian (take 66 signature) in
    let s : ℕ = big_endian (take 66 (drop 66 signature)) in
    (if in_range r
    then (if in_range s then meets (decoded public) (bits_to_int 521 (sha512 message)) r s else false)
    else false)
