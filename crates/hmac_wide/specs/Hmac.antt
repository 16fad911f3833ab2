-- HMAC, by RFC 2104, section 2, with a block of B = 128 bytes, which SHA-384 and SHA-512 have (FIPS 180-4, section 1).
use Rattle.std.specs.Prelude.{ℕ, ◌-◌, List, ◌++◌, length, replicate, nat_lt, if◌then◌else◌}
use Rattle.hmac_core.specs.Hmac.{keyed}

-- "append zeros to the end of K to create a B byte string"
abbrev pub filled : List ℕ → List ℕ
filled key = key ++ replicate (128 - length key) 0

-- a key longer than B bytes is hashed first
abbrev pub block_key : (List ℕ → List ℕ) → List ℕ → List ℕ
block_key hash key = if nat_lt 128 (length key) then filled (hash key) else filled key

-- HMAC of the message under the key, by the hash function
abbrev pub hmac : (List ℕ → List ℕ) → List ℕ → List ℕ → List ℕ
hmac hash key message = keyed hash (block_key hash key) message
