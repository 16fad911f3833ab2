-- Keys of Ed25519: RFC 8032, section 5.1.5. The private key of 32 bytes is called the seed.
use Rattle.std.specs.Prelude.{ℕ, List, take}
use Rattle.sha2.specs.Sha512.{sha512}
use Rattle.words64.specs.Numbers.{little_endian, octets}
use Rattle.scalar25519.specs.Scalars.{clamped}
use Rattle.curve25519.specs.Points.{base}
use Rattle.curve25519.specs.Multiples.{multiply}
use Rattle.curve25519.specs.Encoding.{encoded}

-- steps 1 and 2: s, of the lower half of the seed's hash
unfoldable pub secret_scalar : List ℕ → ℕ
secret_scalar seed = clamped (little_endian (take 32 (sha512 seed)))

-- steps 3 and 4: A, the encoding of [s]B
unfoldable pub public_key : List ℕ → List ℕ
public_key seed = octets (encoded (multiply (secret_scalar seed) base))
