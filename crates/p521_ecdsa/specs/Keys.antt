-- Keys of ECDSA over P-521: FIPS 186-5, section 6.2.
use Rattle.std.specs.Prelude.{ℕ, Bool, false, nat_lt, if◌then◌else◌, List}
use Rattle.p521_order.specs.Scalars.{order}
use Rattle.p521_curve.specs.Points.{base}
use Rattle.p521_curve.specs.Multiples.{multiply}
use Rattle.p521_curve.specs.Encoding.{encoded}

-- whether a number is above 0 and below n, as private keys, nonces, r and s are
unfoldable pub in_range : ℕ → Bool
in_range k = (if nat_lt 0 k then nat_lt k order else false)

-- the encoding of [d]G
unfoldable pub public_key : ℕ → List ℕ
public_key d = encoded (multiply d base)
