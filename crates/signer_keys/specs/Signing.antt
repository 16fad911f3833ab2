-- What is answered to a request to sign.
use Rattle.std.specs.Prelude.{ℕ, ◌||◌, if◌then◌else◌, List, Option, Some, None, Result, Ok, Err}
use Rattle.child_msg.specs.Messages.{FromChildMessage, Signed, Refused, Signing}
use Rattle.helper_core.specs.declared.asked.Asked.TheVariants as asked
use Rattle.helper_core.specs.Routes.{Route, Answered, HandedOn}
use Rattle.key_wire.specs.declared.fault.KeyFault.{KeyFault}
use Rattle.key_wire.specs.declared.fault.KeyFault.TheVariants.{Unfit}
use Rattle.signer_keys.specs.declared.request.Request.{Request}
use Rattle.signer_keys.specs.declared.types.Kind.{Kind}
use Rattle.signer_keys.specs.declared.types.Kind.TheVariants.{Ed25519, EcdsaP256, EcdsaP384, EcdsaP521, Rsa}
use Rattle.signer_keys.specs.declared.types.KeyType.{KeyType}
use Rattle.signer_keys.specs.Ecdsa.{p256_signature, p256_text, p384_signature, p384_text, p521_signature, p521_text}
use Rattle.signer_keys.specs.Ed25519.{ed25519_signature, ed25519_text}
use Rattle.signer_keys.specs.Rsa.{asked_for, rsa_signature, rsa_text}
use Rattle.signer_keys.specs.Types.{is_known, kind_of, type_of}
use Rattle.wire_core.specs.Readings.{◌>>=◌}

-- the request that the code's value lends
abbrev pub signing_of : Request → Signing
signing_of request = record {
  ask = request.ask;
  private = request.private.now;
  blob = request.blob.now;
  message = request.message.now;
  flags = request.flags;
}

-- the signature as SSH carries it, by the algorithm of the blob's key
abbrev pub signature_by : Kind → Signing → Result (List ℕ) KeyFault
signature_by Ed25519 request = do
  bytes ← ed25519_signature request.private request.blob request.message
  Ok (ed25519_text bytes)
signature_by EcdsaP256 request = do
  bytes ← p256_signature request.private request.blob request.message
  Ok (p256_text bytes)
signature_by EcdsaP384 request = do
  bytes ← p384_signature request.private request.blob request.message
  Ok (p384_text bytes)
signature_by EcdsaP521 request = do
  bytes ← p521_signature request.private request.blob request.message
  Ok (p521_text bytes)
signature_by Rsa request = do
  bytes ← rsa_signature request.private request.blob (asked_for request.flags) request.message
  Ok (rsa_text (asked_for request.flags) bytes)

-- the signature by a key of this type, if the type is known
abbrev pub signature_typed : Option KeyType → Signing → Result (List ℕ) KeyFault
signature_typed (Some key) request = signature_by (kind_of key) request
signature_typed None request = Err Unfit

-- the signature that is asked for
unfoldable pub signature_for : Signing → Result (List ℕ) KeyFault
signature_for request = signature_typed (type_of request.blob) request

-- signed, or refused where there is no signature
abbrev pub signed_by : ℕ → Result (List ℕ) KeyFault → FromChildMessage
signed_by ask (Ok text) = Signed ask text
signed_by ask (Err _) = Refused ask

-- a request to sign is answered here where the blob or the private string is of a type that is known
abbrev pub signing_route : Signing → Route
signing_route request =
    if is_known request.blob || is_known request.private
    then Answered (signed_by request.ask (signature_for request))
    else HandedOn (asked.Signature request.ask)
