-- EMSA-PKCS1-v1_5: RFC 8017, section 9.2.
use Rattle.std.specs.Prelude.{ℕ, ◌-◌, List, [], ◌∷◌, ◌++◌, length, replicate}
use Rattle.sha1.specs.Sha1.{sha1}
use Rattle.sha2.specs.Sha256.{sha256}
use Rattle.sha2.specs.Sha512.{sha512}
use Rattle.rsa_verify.specs.declared.hash.Hash.{Hash}
use Rattle.rsa_verify.specs.declared.hash.Hash.TheVariants.{Sha1, Sha256, Sha512}

-- what stands before the digest in a DigestInfo: note 1
abbrev pub sha1_prefix : List ℕ
sha1_prefix = 48 ∷ 33 ∷ 48 ∷ 9 ∷ 6 ∷ 5 ∷ 43 ∷ 14 ∷ 3 ∷ 2 ∷ 26 ∷ 5 ∷ 0 ∷ 4 ∷ 20 ∷ []

-- as above, of SHA-256
abbrev pub sha256_prefix : List ℕ
sha256_prefix = 48 ∷ 49 ∷ 48 ∷ 13 ∷ 6 ∷ 9 ∷ 96 ∷ 134 ∷ 72 ∷ 1 ∷ 101 ∷ 3 ∷ 4 ∷ 2 ∷ 1 ∷ 5 ∷ 0 ∷ 4 ∷ 32 ∷ []

-- as above, of SHA-512
abbrev pub sha512_prefix : List ℕ
sha512_prefix = 48 ∷ 81 ∷ 48 ∷ 13 ∷ 6 ∷ 9 ∷ 96 ∷ 134 ∷ 72 ∷ 1 ∷ 101 ∷ 3 ∷ 4 ∷ 2 ∷ 3 ∷ 5 ∷ 0 ∷ 4 ∷ 64 ∷ []

-- steps 1 and 2: the DigestInfo of a message
abbrev pub info : Hash → List ℕ → List ℕ
info Sha1 message = sha1_prefix ++ sha1 message
info Sha256 message = sha256_prefix ++ sha256 message
info Sha512 message = sha512_prefix ++ sha512 message

-- steps 4 and 5: 0, 1, octets of 255, 0 and the DigestInfo, so many octets in all
unfoldable pub encoded : ℕ → List ℕ → List ℕ
encoded k digest_info = 0 ∷ 1 ∷ replicate (k - length digest_info - 3) 255 ++ 0 ∷ digest_info
