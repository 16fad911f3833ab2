-- Nonces: RFC 6979, section 3.2, with HMAC-SHA-512.
use Rattle.std.specs.Prelude.{ℕ, ◌%◌, List, [], ◌∷◌, ◌++◌, replicate}
use Rattle.sha2.specs.Sha512.{sha512}
use Rattle.hmac_wide.specs.Hmac.{hmac}
use Rattle.wide_words.specs.Numbers.{bits_to_int, octets}
use Rattle.p521_order.specs.Scalars.{order}
use Rattle.p521_ecdsa.specs.declared.nonce.State.{State}

-- HMAC of section 3.1.1
unfoldable pub mac : List ℕ → List ℕ → List ℕ
mac key message = hmac sha512 key message

-- section 2.3.4, bits2octets: the hash as a number modulo n, in bytes
unfoldable pub hash_octets : List ℕ → List ℕ
hash_octets hash = octets 66 (bits_to_int 521 hash % order)

-- K and V after the steps b to g, for the private key d and the hash
unfoldable pub seeded : ℕ → List ℕ → State
seeded d hash =
    let v : List ℕ = replicate 64 1 in
    let k : List ℕ = replicate 64 0 in
    let k1 : List ℕ = mac k (v ++ (0 ∷ []) ++ octets 66 d ++ hash_octets hash) in
    let v1 : List ℕ = mac k1 v in
    let k2 : List ℕ = mac k1 (v1 ++ (1 ∷ []) ++ octets 66 d ++ hash_octets hash) in
    record { key = k2; value = mac k2 v1 }
