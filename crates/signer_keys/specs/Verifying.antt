-- Whether a host key made a signature, and of a certificate, whether its authority signed that.
use Rattle.std.specs.Prelude.{ℕ, Bool, true, false, ◌&&◌, not, List, Option, Some, None, Result, Ok, Err}
use Rattle.std.specs.Result.{result_unwrap_or}
use Rattle.child_msg.specs.Messages.{True, False}
use Rattle.ecdsa_wire.specs.declared.names.Curve.TheVariants.{P256, P384, P521}
use Rattle.ecdsa_wire.specs.Reading.{certified_point_at, public_in as ecdsa_public_in}
use Rattle.ed25519_wire.specs.Reading.{authority_key, certified_key_at}
use Rattle.helper_core.specs.declared.asked.Asked.TheVariants as asked
use Rattle.helper_core.specs.Routes.{Route, Answered, HandedOn}
use Rattle.key_wire.specs.declared.fault.KeyFault.{KeyFault}
use Rattle.key_wire.specs.Closings.{Seal, seal_at, sealed}
use Rattle.key_wire.specs.Fields.{field}
use Rattle.rsa_wire.specs.Reading.{PublicKey as RsaKey, certified_public_at, public_in as rsa_public_in, public_of as rsa_key_of}
use Rattle.signer_keys.specs.declared.public.Public.{Public}
use Rattle.signer_keys.specs.declared.public.Public.TheVariants as code
use Rattle.signer_keys.specs.declared.types.Kind.{Kind}
use Rattle.signer_keys.specs.declared.types.Kind.TheVariants as kind
use Rattle.signer_keys.specs.declared.types.KeyType.{KeyType}
use Rattle.signer_keys.specs.declared.types.KeyType.TheVariants.{Plain, Certified}
use Rattle.signer_keys.specs.declared.verifying.Verdict.{Verdict}
use Rattle.signer_keys.specs.declared.verifying.Verdict.TheVariants as verdict
use Rattle.signer_keys.specs.Ecdsa.{p256_judged, p256_point, p384_judged, p384_point, p521_judged, p521_point}
use Rattle.signer_keys.specs.Ed25519.{ed25519_judged}
use Rattle.signer_keys.specs.Rsa.{is_by_sha1, rsa_judged}
use Rattle.signer_keys.specs.Types.{type_of}
use Rattle.wire_core.specs.Fields.{string_at}
use Rattle.wire_core.specs.Readings.{◌>>=◌}

-- ---- public keys

-- a public key of an algorithm that is known here
pub data PublicKey : Type 0 where
  Ed25519 : (public : List ℕ) → PublicKey
  EcdsaP256 : (point : List ℕ) → PublicKey
  EcdsaP384 : (point : List ℕ) → PublicKey
  EcdsaP521 : (point : List ℕ) → PublicKey
  Rsa : (key : RsaKey) → PublicKey

-- the public key that the code's value is
abbrev pub public_of : Public → PublicKey
public_of (code.Ed25519 public) = Ed25519 public
public_of (code.EcdsaP256 point) = EcdsaP256 point
public_of (code.EcdsaP384 point) = EcdsaP384 point
public_of (code.EcdsaP521 point) = EcdsaP521 point
public_of (code.Rsa key) = Rsa (rsa_key_of key)

-- the key of a plain blob
unfoldable pub plain_public : Kind → List ℕ → Result PublicKey KeyFault
plain_public kind.Ed25519 blob = do
  public ← authority_key blob
  Ok (Ed25519 public)
plain_public kind.EcdsaP256 blob = do
  public ← ecdsa_public_in blob
  point ← p256_point public.curve public.point
  Ok (EcdsaP256 point)
plain_public kind.EcdsaP384 blob = do
  public ← ecdsa_public_in blob
  point ← p384_point public.curve public.point
  Ok (EcdsaP384 point)
plain_public kind.EcdsaP521 blob = do
  public ← ecdsa_public_in blob
  point ← p521_point public.curve public.point
  Ok (EcdsaP521 point)
plain_public kind.Rsa blob = do
  key ← rsa_public_in blob
  Ok (Rsa key)

-- the key of a certificate behind its type's name, and what follows the key
unfoldable pub certified_public_behind : Kind → List ℕ → Result (PublicKey × List ℕ) KeyFault
certified_public_behind kind.Ed25519 bytes = do
  key ← certified_key_at bytes
  Ok (Ed25519 key.0, key.1)
certified_public_behind kind.EcdsaP256 bytes = do
  key ← certified_point_at P256 bytes
  Ok (EcdsaP256 key.0, key.1)
certified_public_behind kind.EcdsaP384 bytes = do
  key ← certified_point_at P384 bytes
  Ok (EcdsaP384 key.0, key.1)
certified_public_behind kind.EcdsaP521 bytes = do
  key ← certified_point_at P521 bytes
  Ok (EcdsaP521 key.0, key.1)
certified_public_behind kind.Rsa bytes = do
  key ← certified_public_at bytes
  Ok (Rsa key.0, key.1)

-- the key of a certificate, and what follows the key
unfoldable pub certified_public : Kind → List ℕ → Result (PublicKey × List ℕ) KeyFault
certified_public kind certificate = do
  name ← field (string_at certificate)
  certified_public_behind kind name.1

-- ---- signatures

-- whether the key accepts the signature, where this is one
abbrev pub judged : PublicKey → List ℕ → List ℕ → Result Bool KeyFault
judged (Ed25519 public) message text = ed25519_judged public message text
judged (EcdsaP256 point) message text = p256_judged point message text
judged (EcdsaP384 point) message text = p384_judged point message text
judged (EcdsaP521 point) message text = p521_judged point message text
judged (Rsa key) message text = rsa_judged key message text

-- the key signed the message
unfoldable pub signs : PublicKey → List ℕ → List ℕ → Bool
signs key message text = result_unwrap_or (judged key message text) false

-- ---- verdicts

-- a verdict that is given here
abbrev pub here : Bool → Verdict
here true = verdict.Right
here false = verdict.Wrong

-- a plain key: it signed
abbrev pub plain_verdict : Result PublicKey KeyFault → List ℕ → List ℕ → Verdict
plain_verdict (Ok key) message text = here (signs key message text)
plain_verdict (Err _) message text = verdict.Wrong

-- an authority's key signed, and not by SHA-1
abbrev pub seals : Result PublicKey KeyFault → List ℕ → List ℕ → Bool
seals (Ok key) certificate text = not (is_by_sha1 text) && signs key certificate text
seals (Err _) certificate text = false

-- an authority is a plain key, and signed the certificate
abbrev pub is_sealed : KeyType → List ℕ → Seal → Bool
is_sealed (Plain kind) certificate seal = seals (plain_public kind seal.authority) (sealed certificate seal) seal.signature
is_sealed (Certified kind) certificate seal = false

-- a certificate's key signed, and its authority signed the certificate; an authority of another type is for the helper
-- behind
abbrev pub sealed_verdict : Option KeyType → Seal → List ℕ → PublicKey → List ℕ → List ℕ → Verdict
sealed_verdict (Some authority) seal certificate key message text =
    here (is_sealed authority certificate seal && signs key message text)
sealed_verdict None seal certificate key message text = verdict.Elsewhere

-- by what closes a certificate
abbrev pub closed_verdict : Result Seal KeyFault → List ℕ → PublicKey → List ℕ → List ℕ → Verdict
closed_verdict (Ok seal) certificate key message text =
    sealed_verdict (type_of seal.authority) seal certificate key message text
closed_verdict (Err _) certificate key message text = verdict.Wrong

-- by the certificate's own key and what follows it
abbrev pub certificate_verdict : Result (PublicKey × List ℕ) KeyFault → List ℕ → List ℕ → List ℕ → Verdict
certificate_verdict (Ok key) certificate message text = closed_verdict (seal_at key.1) certificate key.0 message text
certificate_verdict (Err _) certificate message text = verdict.Wrong

-- by the type of the host key
abbrev pub verdict_typed : Option KeyType → List ℕ → List ℕ → List ℕ → Verdict
verdict_typed (Some (Plain kind)) host_key message text = plain_verdict (plain_public kind host_key) message text
verdict_typed (Some (Certified kind)) host_key message text =
    certificate_verdict (certified_public kind host_key) host_key message text
verdict_typed None host_key message text = verdict.Elsewhere

-- whether a host key signed the message: right, wrong, or for the helper behind to say
unfoldable pub verdict_of : List ℕ → List ℕ → List ℕ → Verdict
verdict_of host_key message text = verdict_typed (type_of host_key) host_key message text

-- a request to verify is answered here unless the host key, or the authority of a certificate, is of another type
abbrev pub verifying_route : Verdict → ℕ → Route
verifying_route verdict.Right ask = Answered (True ask)
verifying_route verdict.Wrong ask = Answered (False ask)
verifying_route verdict.Elsewhere ask = HandedOn (asked.Verdict ask)
