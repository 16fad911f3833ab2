-- Verification of Ed25519 signatures: RFC 8032, section 5.1.7, by the equation without a cofactor,
-- where R is compared as it is encoded.
use Rattle.std.specs.Prelude.{ℕ, List, take, drop, Bool, false, nat_eq, nat_lt, if◌then◌else◌, Option, Some, None}
use Rattle.words64.specs.Numbers.{little_endian}
use Rattle.scalar25519.specs.Scalars.{order}
use Rattle.curve25519.specs.declared.point.Point.{Point}
use Rattle.curve25519.specs.Points.{base, negated, point_add}
use Rattle.curve25519.specs.Multiples.{multiply}
use Rattle.curve25519.specs.Encoding.{decoded, encoded}
use Rattle.ed25519.specs.Signatures.{challenge}

-- step 3, for a public key that was decoded: R is the encoding of [S]B - [k]A'
unfoldable pub meets : ℕ → ℕ → ℕ → Option Point → Bool
meets r s k (Some a) = nat_eq (encoded (point_add (multiply s base) (multiply k (negated a)))) r
meets r s k None = false

-- steps 1 to 3: S is below L, A decodes, and the equation holds
unfoldable pub accepts : List ℕ → List ℕ → List ℕ → Bool
accepts public message signature =
    let r : List ℕ = take 32 signature in
    let s : ℕ = little_endian (take 32 (drop 32 signature)) in
    (if nat_lt s order
    then meets (little_endian r) s (challenge r public message) (decoded (little_endian public))
    else false)
