-- Signatures by Ed25519 keys: RFC 8032 in the form of RFC 8709, section 6.
use Rattle.std.specs.Prelude.{ℕ, Bool, if◌then◌else◌, List, Result, Ok, Err}
use Rattle.std.specs.Str.{bytes_eq}
use Rattle.ed25519.specs.Keys.{public_key}
use Rattle.ed25519.specs.Signatures.{signature}
use Rattle.ed25519.specs.Verification.{accepts}
use Rattle.ed25519_wire.specs.Names.{plain_name}
use Rattle.ed25519_wire.specs.Reading.{KeyPair, pair_in, signature_in}
use Rattle.key_wire.specs.declared.fault.KeyFault.{KeyFault}
use Rattle.key_wire.specs.declared.fault.KeyFault.TheVariants.{Unfit}
use Rattle.signer_keys.specs.Numbers.{signature_text}
use Rattle.wire_core.specs.Readings.{◌>>=◌}

-- the signature of the message with the seed, where the seed gives the public key that stands beside it
abbrev pub ed25519_signed : KeyPair → List ℕ → Result (List ℕ) KeyFault
ed25519_signed pair message =
    if bytes_eq pair.public (public_key pair.seed) then Ok (signature pair.seed message) else Err Unfit

-- the 64 bytes of the signature, where the private string and the blob are one key's
unfoldable pub ed25519_signature : List ℕ → List ℕ → List ℕ → Result (List ℕ) KeyFault
ed25519_signature private blob message = do
  pair ← pair_in private blob
  ed25519_signed pair message

-- the signature as SSH carries it
unfoldable pub ed25519_text : List ℕ → List ℕ
ed25519_text bytes = signature_text plain_name bytes

-- whether the key accepts the signature, where this is one
unfoldable pub ed25519_judged : List ℕ → List ℕ → List ℕ → Result Bool KeyFault
ed25519_judged public message text = do
  bytes ← signature_in text
  Ok (accepts public message bytes)
