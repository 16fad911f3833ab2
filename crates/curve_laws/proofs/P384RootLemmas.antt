-- P-384's p is prime: what isn't 0 has an inverse, its power p - 2, and no point of the curve has y = 0.
use Rattle.std.proofs.Common.{◌≡◌, ◌<◌, ◌-◌, ◌^◌, ℕ, zero, suc, arith, refl, ◌∙◌}
use Rattle.std.proofs.lemmas.Nat.{mul-mod_second}
use Rattle.p384_field.specs.Field.{prime, field_inv, field_mul, field_pow}
use Rattle.p384_curve.specs.declared.point.Point.{Point}
use Rattle.p384_curve.specs.Encoding.{affine_x, affine_y}
use Rattle.p384_curve.specs.Points.{IsOnCurve, curve_b}
use Rattle.prime_laws.proofs.InverseLemmas.{inverse-of}
use Rattle.prime_laws.proofs.FermatLemmas.{power-inverts}
use Rattle.prime_laws.proofs.P384Chain.{prime-of-384-bits}
use Rattle.curve_laws.proofs.CubicLemmas.{Quadratic, cube-at, less-x, no-root, one, power-by-squares, the-x, times}
use Rattle.curve_laws.proofs.UnitLemmas.{quotient-is}
use Rattle.curve_laws.proofs.P384Lemmas.{equation, some}
use Rattle.curve_laws.specs.P384.{At, HasInverse, IsFinite, IsNonzero, StandsFor, for_finite}

pub inverse-at : (x : ℕ) → IsNonzero x → HasInverse x
unfolding field_mul
inverse-at x nonzero =
    let has = inverse-of prime x prime-of-384-bits nonzero.some nonzero.below in record { inverse = has.inverse; is = has.is }

-- x to the p - 2
pub power-is-inverse : (x : ℕ) → IsNonzero x → field_mul x (field_inv x) ≡ 1
unfolding field_mul field_inv field_pow
power-is-inverse x nonzero =
    mul-mod_second x (x ^ (prime - 2)) prime ∙ power-inverts prime x prime-of-384-bits nonzero.some nonzero.below

-- the quotients that are encoded
pub quotient-x : (p : Point) (x y : ℕ) → StandsFor p (At x y) → affine_x p ≡ x
unfolding field_mul affine_x
quotient-x p _ _ (for_finite x y on p_at p_some) =
    quotient-is prime x p.z (field_inv p.z) p.x p_at.x_is (power-is-inverse p.z p_some) on.x_below

pub quotient-y : (p : Point) (x y : ℕ) → StandsFor p (At x y) → affine_y p ≡ y
unfolding field_mul affine_y
quotient-y p _ _ (for_finite x y on p_at p_some) =
    quotient-is prime y p.z (field_inv p.z) p.y p_at.y_is (power-is-inverse p.z p_some) on.y_below

-- the inverse of x ^ p - x modulo x ^ 3 - 3 x + b; the checker computes with it again
inverse-of-difference : Quadratic
inverse-of-difference =
    record {
      c0 = 0x95adec811ebe8d4b9e2b41150d78f91a619189a415583b8f5e01888da3353b61765cde8cd6c12846310c3f0c10aae682;
      c1 = 0x3581b884702fb0931c541a5cacefbe3bea864db86e01e048170560418dca3aa8689f246d9d11ccd2e145532dd48491af;
      c2 = 0x4efcebfdccd7cb25d1b864228f0c32d3a83ec026134ae4753bdff5d3f1fa20b278b31dc3487beb792024fe436f36b43a;
    }

is-inverse : times prime (prime - curve_b) inverse-of-difference (less-x prime (power-by-squares prime (prime - curve_b) 384 the-x prime)) ≡ one
unfolding inverse-of-difference
is-inverse = refl

pub y-some : (x y : ℕ) → x < prime → IsOnCurve x y → 0 < y
y-some x zero below is =
    absurd (no-root prime (prime - curve_b) 384 inverse-of-difference prime-of-384-bits is-inverse x (cube-at prime curve_b (prime - curve_b) x some refl (equation x 0 is)))
y-some x (suc y) below is = omega arith

pub y-nonzero : (x y : ℕ) → IsFinite x y → IsNonzero y
y-nonzero x y finite = record { some = y-some x y finite.x_below finite.on_curve; below = finite.y_below }
