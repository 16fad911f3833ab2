-- Signatures by RSA keys: RFC 8017 in the forms of RFC 4253, section 6.6, and RFC 8332.
use Rattle.std.specs.Prelude.{ℕ, Bool, true, false, ◌/◌, ◌%◌, ◌==◌, if◌then◌else◌, List, length, Result, Ok, Err}
use Rattle.std.specs.Option.{ok_or}
use Rattle.key_wire.specs.declared.fault.KeyFault.{KeyFault}
use Rattle.key_wire.specs.declared.fault.KeyFault.TheVariants.{Unfit}
use Rattle.rsa_sign.specs.Keys.{signed}
use Rattle.rsa_verify.specs.declared.hash.Hash.{Hash}
use Rattle.rsa_verify.specs.declared.hash.Hash.TheVariants as hash
use Rattle.rsa_verify.specs.Encoding.{info}
use Rattle.rsa_verify.specs.Verification.{accepts}
use Rattle.rsa_wire.specs.declared.names.Algorithm.{Algorithm}
use Rattle.rsa_wire.specs.declared.names.Algorithm.TheVariants.{Sha1, Sha256, Sha512}
use Rattle.rsa_wire.specs.Names.{algorithm_name}
use Rattle.rsa_wire.specs.Reading.{KeyPair, PublicKey, SignatureBytes, pair_in, signature_in}
use Rattle.signer_keys.specs.Numbers.{filled, signature_text, small}
use Rattle.wire_core.specs.Readings.{◌>>=◌}

-- ---- algorithms

-- an algorithm's hash
abbrev pub hash_of : Algorithm → Hash
hash_of Sha1 = hash.Sha1
hash_of Sha256 = hash.Sha256
hash_of Sha512 = hash.Sha512

-- the algorithm that the flags of a request ask for: SHA-256 where both are (RFC 8332; draft-miller-ssh-agent, "Signature
-- flags")
unfoldable pub asked_for : ℕ → Algorithm
asked_for flags =
    if flags / 2 % 2 == 1 then Sha256
    else if flags / 4 % 2 == 1 then Sha512
    else Sha1

-- ---- signing

-- the signature by a key's numbers, where it verifies
abbrev pub rsa_signed : KeyPair → ℕ → Algorithm → List ℕ → Result (List ℕ) KeyFault
rsa_signed pair e algorithm message =
    ok_or (signed pair.public.n e pair.private.d pair.private.p pair.private.q pair.private.iqmp
    (info (hash_of algorithm) message)) Unfit

-- the bytes of the signature, where the private string and the blob are one key's
unfoldable pub rsa_signature : List ℕ → List ℕ → Algorithm → List ℕ → Result (List ℕ) KeyFault
rsa_signature private blob algorithm message = do
  pair ← pair_in private blob
  e ← small pair.public.e
  rsa_signed pair e algorithm message

-- the signature as SSH carries it
unfoldable pub rsa_text : Algorithm → List ℕ → List ℕ
rsa_text algorithm bytes = signature_text (algorithm_name algorithm) bytes

-- ---- verifying

-- whether the key accepts these bytes, before which zeros that were left off are put back
abbrev pub rsa_accepts : PublicKey → ℕ → Algorithm → List ℕ → List ℕ → Bool
rsa_accepts key e algorithm message bytes = accepts key.n e (info (hash_of algorithm) message) bytes

-- whether the key accepts the signature, where this is one
unfoldable pub rsa_judged : PublicKey → List ℕ → List ℕ → Result Bool KeyFault
rsa_judged key message text = do
  signature ← signature_in text
  e ← small key.e
  bytes ← filled (length key.n) signature.bytes
  Ok (rsa_accepts key e signature.algorithm message bytes)

-- whether an algorithm is by SHA-1
abbrev pub is_sha1 : Algorithm → Bool
is_sha1 Sha1 = true
is_sha1 Sha256 = false
is_sha1 Sha512 = false

-- whether a signature that was read is by SHA-1
abbrev pub is_sha1_read : Result SignatureBytes KeyFault → Bool
is_sha1_read (Ok signature) = is_sha1 signature.algorithm
is_sha1_read (Err _) = false

-- whether a signature is one of RSA by SHA-1, which no authority may give
unfoldable pub is_by_sha1 : List ℕ → Bool
is_by_sha1 text = is_sha1_read (signature_in text)
