-- Signatures by ECDSA keys over P-256, P-384 and P-521: FIPS 186-5 and RFC 6979 in the form of RFC 5656, section 3.1.2. What
-- they have in common is said of the bytes of a number, and of what a curve's crate says of signatures.
use Rattle.std.specs.Prelude.{ℕ, Bool, ◌&&◌, if◌then◌else◌, List, ◌++◌, take, drop, Option, None, Result, Ok, Err}
use Rattle.std.specs.Option.{ok_or}
use Rattle.std.specs.Str.{bytes_eq}
use Rattle.ecdsa_wire.specs.declared.names.Curve.{Curve}
use Rattle.ecdsa_wire.specs.declared.names.Curve.TheVariants.{P256, P384, P521}
use Rattle.ecdsa_wire.specs.Names.{plain_name}
use Rattle.ecdsa_wire.specs.Reading.{pair_in, signature_in}
use Rattle.key_wire.specs.declared.fault.KeyFault.{KeyFault}
use Rattle.key_wire.specs.declared.fault.KeyFault.TheVariants.{Unfit}
use Rattle.p256_ecdsa.specs.Keys.{in_range as p256_in_range, public_key as p256_public_key}
use Rattle.p256_ecdsa.specs.Signatures.{signature as p256_bytes}
use Rattle.p256_ecdsa.specs.Verification.{accepts as p256_accepts}
use Rattle.p384_ecdsa.specs.Keys.{in_range as p384_in_range, public_key as p384_public_key}
use Rattle.p384_ecdsa.specs.Signatures.{signature as p384_bytes}
use Rattle.p384_ecdsa.specs.Verification.{accepts as p384_accepts}
use Rattle.p521_ecdsa.specs.Keys.{in_range as p521_in_range, public_key as p521_public_key}
use Rattle.p521_ecdsa.specs.Signatures.{signature as p521_bytes}
use Rattle.p521_ecdsa.specs.Verification.{accepts as p521_accepts}
use Rattle.sha2.specs.Sha256.{sha256}
use Rattle.sha2.specs.Sha512.{sha384, sha512}
use Rattle.signer_keys.specs.Numbers.{filled, mpint, signature_text}
use Rattle.wide_words.specs.Numbers.{big_endian}
use Rattle.wire_core.specs.Readings.{◌>>=◌}
use Rattle.wire_text.specs.Wire.{string}

-- ---- each curve

-- r and s in so many bytes each, where the private string and the blob are one key's, by what takes a curve's points and
-- what signs over it
unfoldable pub ecdsa_signature : (Curve → List ℕ → Result (List ℕ) KeyFault) → ℕ → (ℕ → List ℕ → List ℕ → Option (List ℕ))
    → List ℕ → List ℕ → List ℕ → Result (List ℕ) KeyFault
ecdsa_signature point_of len signed private blob message = do
  pair ← pair_in private blob
  point ← point_of pair.curve pair.point
  number ← filled len pair.secret
  ok_or (signed (big_endian number) point message) Unfit

-- r and s, which have so many bytes each, as two mpints in a string
unfoldable pub ecdsa_text : Curve → ℕ → List ℕ → List ℕ
ecdsa_text curve len bytes =
    signature_text (plain_name curve) (string (mpint (take len bytes)) ++ string (mpint (take len (drop len bytes))))

-- whether the signature, where this is one over the curve, is accepted, by what accepts r and s in so many bytes each
unfoldable pub ecdsa_judged : Curve → ℕ → (List ℕ → List ℕ → List ℕ → Bool) → List ℕ → List ℕ → List ℕ → Result Bool KeyFault
ecdsa_judged curve len accepts point message text = do
  numbers ← signature_in curve text
  r ← filled len numbers.r
  s ← filled len numbers.s
  Ok (accepts point message (r ++ s))

-- ---- P-256

-- a point of P-256
abbrev pub p256_point : Curve → List ℕ → Result (List ℕ) KeyFault
p256_point P256 point = Ok point
p256_point P384 point = Err Unfit
p256_point P521 point = Err Unfit

-- r and s by the private number, where it is in range and gives the point that stands beside it
abbrev pub p256_signed : ℕ → List ℕ → List ℕ → Option (List ℕ)
p256_signed d point message =
    if p256_in_range d && bytes_eq point (p256_public_key d) then p256_bytes d (sha256 message) else None

-- r and s in 32 bytes each, where the private string and the blob are one key's over P-256
abbrev pub p256_signature : List ℕ → List ℕ → List ℕ → Result (List ℕ) KeyFault
p256_signature private blob message = ecdsa_signature p256_point 32 p256_signed private blob message

-- r and s of P-256 as SSH carries them
abbrev pub p256_text : List ℕ → List ℕ
p256_text bytes = ecdsa_text P256 32 bytes

-- whether a point of P-256 accepts the signature, where this is one
abbrev pub p256_judged : List ℕ → List ℕ → List ℕ → Result Bool KeyFault
p256_judged point message text = ecdsa_judged P256 32 p256_accepts point message text

-- ---- P-384

-- a point of P-384
abbrev pub p384_point : Curve → List ℕ → Result (List ℕ) KeyFault
p384_point P256 point = Err Unfit
p384_point P384 point = Ok point
p384_point P521 point = Err Unfit

-- r and s by the private number, where it is in range and gives the point that stands beside it
abbrev pub p384_signed : ℕ → List ℕ → List ℕ → Option (List ℕ)
p384_signed d point message =
    if p384_in_range d && bytes_eq point (p384_public_key d) then p384_bytes d (sha384 message) else None

-- r and s in 48 bytes each, where the private string and the blob are one key's over P-384
abbrev pub p384_signature : List ℕ → List ℕ → List ℕ → Result (List ℕ) KeyFault
p384_signature private blob message = ecdsa_signature p384_point 48 p384_signed private blob message

-- r and s of P-384 as SSH carries them
abbrev pub p384_text : List ℕ → List ℕ
p384_text bytes = ecdsa_text P384 48 bytes

-- whether a point of P-384 accepts the signature, where this is one
abbrev pub p384_judged : List ℕ → List ℕ → List ℕ → Result Bool KeyFault
p384_judged point message text = ecdsa_judged P384 48 p384_accepts point message text

-- ---- P-521

-- a point of P-521
abbrev pub p521_point : Curve → List ℕ → Result (List ℕ) KeyFault
p521_point P256 point = Err Unfit
p521_point P384 point = Err Unfit
p521_point P521 point = Ok point

-- r and s by the private number, where it is in range and gives the point that stands beside it
abbrev pub p521_signed : ℕ → List ℕ → List ℕ → Option (List ℕ)
p521_signed d point message =
    if p521_in_range d && bytes_eq point (p521_public_key d) then p521_bytes d (sha512 message) else None

-- r and s in 66 bytes each, where the private string and the blob are one key's over P-521
abbrev pub p521_signature : List ℕ → List ℕ → List ℕ → Result (List ℕ) KeyFault
p521_signature private blob message = ecdsa_signature p521_point 66 p521_signed private blob message

-- r and s of P-521 as SSH carries them
abbrev pub p521_text : List ℕ → List ℕ
p521_text bytes = ecdsa_text P521 66 bytes

-- whether a point of P-521 accepts the signature, where this is one
abbrev pub p521_judged : List ℕ → List ℕ → List ℕ → Result Bool KeyFault
p521_judged point message text = ecdsa_judged P521 66 p521_accepts point message text
