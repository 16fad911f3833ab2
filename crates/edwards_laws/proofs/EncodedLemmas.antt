-- What is encoded of coordinates is the encoding of the point for which they stand.
use Rattle.std.proofs.Common.{◌≡◌, ◌<◌, ◌-◌, ℕ, ◌+◌, ◌*◌, ◌%◌, ◌^◌, ap, sym, ◌∙◌}
use Rattle.std.proofs.lemmas.Nat.{mul-mod_second}
use Rattle.field25519.specs.Field.{field_inv, field_mul, field_pow, prime}
use Rattle.curve25519.specs.declared.point.Point.{Point}
use Rattle.curve25519.specs.Encoding.{encoded}
use Rattle.prime_laws.proofs.FermatLemmas.{power-inverts}
use Rattle.curve_laws.proofs.UnitLemmas.{quotient-is}
use Rattle.edwards_laws.specs.Points.{Affine, StandsFor}
use Rattle.edwards_laws.proofs.PrimeChain.{prime-of-255-bits}

-- z to the p - 2 is 1 / z
inverse-is : (z : ℕ) → 0 < z → z < prime → field_mul z (field_inv z) ≡ 1
unfolding field_mul field_inv field_pow
inverse-is z some below =
    mul-mod_second z (z ^ (prime - 2)) prime ∙ power-inverts prime z prime-of-255-bits some below

-- X / Z is x
quotient-x : (p : Point) (z : Affine) → StandsFor p z → field_mul p.x (field_inv p.z) ≡ z.x
unfolding field_mul
quotient-x p z is =
    quotient-is prime z.x p.z (field_inv p.z) p.x is.x_is (inverse-is p.z is.z_some is.z_below) is.is_point.x_below

-- and Y / Z is y
quotient-y : (p : Point) (z : Affine) → StandsFor p z → field_mul p.y (field_inv p.z) ≡ z.y
unfolding field_mul
quotient-y p z is =
    quotient-is prime z.y p.z (field_inv p.z) p.y is.y_is (inverse-is p.z is.z_some is.z_below) is.is_point.y_below

pub encoding-is : (p : Point) (z : Affine) → StandsFor p z → encoded p ≡ z.y + 2 ^ 255 * (z.x % 2)
unfolding encoded
encoding-is p z is =
    ap (λ k. k + 2 ^ 255 * (field_mul p.x (field_inv p.z) % 2)) (quotient-y p z is)
    ∙ ap (λ k. z.y + 2 ^ 255 * (k % 2)) (quotient-x p z is)

-- so coordinates of one point have one encoding
pub same-encoding : (p q : Point) (z : Affine) → StandsFor p z → StandsFor q z → encoded p ≡ encoded q
same-encoding p q z p_is q_is = encoding-is p z p_is ∙ sym (encoding-is q z q_is)
