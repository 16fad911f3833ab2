-- Signing with Ed25519: RFC 8032, section 5.1.6.
use Rattle.std.specs.Prelude.{ℕ, ◌%◌, List, ◌++◌, take, drop}
use Rattle.sha2.specs.Sha512.{sha512}
use Rattle.words64.specs.Numbers.{little_endian, octets}
use Rattle.scalar25519.specs.Scalars.{order, scalar_mul_add}
use Rattle.curve25519.specs.Points.{base}
use Rattle.curve25519.specs.Multiples.{multiply}
use Rattle.curve25519.specs.Encoding.{encoded}
use Rattle.ed25519.specs.Keys.{public_key, secret_scalar}

-- steps 1 and 2: r, of the upper half of the seed's hash and the message
unfoldable pub nonce : List ℕ → List ℕ → ℕ
nonce seed message = little_endian (sha512 (take 32 (drop 32 (sha512 seed)) ++ message)) % order

-- step 3: R, the encoding of [r]B
unfoldable pub commitment : List ℕ → List ℕ → List ℕ
commitment seed message = octets (encoded (multiply (nonce seed message) base))

-- step 4: k, of R, A and the message
unfoldable pub challenge : List ℕ → List ℕ → List ℕ → ℕ
challenge r a message = little_endian (sha512 (r ++ a ++ message)) % order

-- step 5: S = (r + k * s) mod L
unfoldable pub response : List ℕ → List ℕ → ℕ
response seed message =
    let k : ℕ = challenge (commitment seed message) (public_key seed) message in
    scalar_mul_add (secret_scalar seed) k (nonce seed message)

-- step 6: R and S, one after the other
unfoldable pub signature : List ℕ → List ℕ → List ℕ
signature seed message = commitment seed message ++ octets (response seed message)
