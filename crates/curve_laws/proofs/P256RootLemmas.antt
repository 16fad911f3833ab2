-- P-256's p is prime: what isn't 0 has an inverse, its power p - 2, and no point of the curve has y = 0.
use Rattle.std.proofs.Common.{◌≡◌, ◌<◌, ◌-◌, ◌^◌, ℕ, zero, suc, arith, refl, ◌∙◌}
use Rattle.std.proofs.lemmas.Nat.{mul-mod_second}
use Rattle.p256_field.specs.Field.{prime, field_inv, field_mul, field_pow}
use Rattle.p256_curve.specs.declared.point.Point.{Point}
use Rattle.p256_curve.specs.Encoding.{affine_x, affine_y}
use Rattle.p256_curve.specs.Points.{IsOnCurve, curve_b}
use Rattle.prime_laws.proofs.InverseLemmas.{inverse-of}
use Rattle.prime_laws.proofs.FermatLemmas.{power-inverts}
use Rattle.prime_laws.proofs.P256Chain.{prime-of-256-bits}
use Rattle.curve_laws.proofs.CubicLemmas.{Quadratic, cube-at, less-x, no-root, one, power-by-squares, the-x, times}
use Rattle.curve_laws.proofs.UnitLemmas.{quotient-is}
use Rattle.curve_laws.proofs.P256Lemmas.{equation, some}
use Rattle.curve_laws.specs.P256.{At, HasInverse, IsFinite, IsNonzero, StandsFor, for_finite}

pub inverse-at : (x : ℕ) → IsNonzero x → HasInverse x
unfolding field_mul
inverse-at x nonzero =
    let has = inverse-of prime x prime-of-256-bits nonzero.some nonzero.below in record { inverse = has.inverse; is = has.is }

-- x to the p - 2
pub power-is-inverse : (x : ℕ) → IsNonzero x → field_mul x (field_inv x) ≡ 1
unfolding field_mul field_inv field_pow
power-is-inverse x nonzero =
    mul-mod_second x (x ^ (prime - 2)) prime ∙ power-inverts prime x prime-of-256-bits nonzero.some nonzero.below

-- the quotients that are encoded
pub quotient-x : (p : Point) (x y : ℕ) → StandsFor p (At x y) → affine_x p ≡ x
unfolding field_mul affine_x
quotient-x p _ _ (for_finite x y on p_at p_some) =
    quotient-is prime x p.z (field_inv p.z) p.x p_at.x_is (power-is-inverse p.z p_some) on.x_below

pub quotient-y : (p : Point) (x y : ℕ) → StandsFor p (At x y) → affine_y p ≡ y
unfolding field_mul affine_y
quotient-y p _ _ (for_finite x y on p_at p_some) =
    quotient-is prime y p.z (field_inv p.z) p.y p_at.y_is (power-is-inverse p.z p_some) on.y_below

-- the inverse of x ^ p - x modulo x ^ 3 - 3 x + b; the checker computes with it again
inverse-of-difference : Quadratic
inverse-of-difference =
    record {
      c0 = 0xa969487079f1744798bf0de6fded091b66e9d328eb0645fe5d979d1339b7f47f;
      c1 = 0xa4a08891884100c13323460107a8d28eede4387fa3e6e9bfebec9f6d72d0b5cc;
      c2 = 0x4cde11cf86cb876cd59cf0115813c55af0ecd3cda667d98bb9a347a56aa74a6d;
    }

is-inverse : times prime (prime - curve_b) inverse-of-difference (less-x prime (power-by-squares prime (prime - curve_b) 256 the-x prime)) ≡ one
unfolding inverse-of-difference
is-inverse = refl

pub y-some : (x y : ℕ) → x < prime → IsOnCurve x y → 0 < y
y-some x zero below is =
    absurd (no-root prime (prime - curve_b) 256 inverse-of-difference prime-of-256-bits is-inverse x (cube-at prime curve_b (prime - curve_b) x some refl (equation x 0 is)))
y-some x (suc y) below is = omega arith

pub y-nonzero : (x y : ℕ) → IsFinite x y → IsNonzero y
y-nonzero x y finite = record { some = y-some x y finite.x_below finite.on_curve; below = finite.y_below }
