-- ECDSA keys and signatures as a grammar: RFC 5656, sections 3.1 and 3.1.2; draft-miller-ssh-agent, "Adding keys to the
-- agent"; OpenSSH's PROTOCOL.certkeys.
use Rattle.std.specs.Prelude.{◌≡◌, ◌⊎◌, ◌<◌, ◌^◌, ℕ, List, ◌++◌, length}
use Rattle.ecdsa_wire.specs.declared.names.Curve.{Curve}
use Rattle.ecdsa_wire.specs.Names.{certified_name, curve_name, plain_name, point_len}
use Rattle.ecdsa_wire.specs.Reading.{KeyPair, SignatureNumbers}
use Rattle.key_wire.specs.Numbers.{IsMagnitude, IsSecretMpint, signed}
use Rattle.wire_text.specs.Wire.{string}

-- the curve's name and the point
abbrev pub point_fields : KeyPair → List ℕ
point_fields pair = string (curve_name pair.curve) ++ string pair.point

-- a point of the curve's length, and the mpint of the private number
pub record IsWhole (pair : KeyPair) (mpint : List ℕ) : Type 0 where
  pub point : length pair.point ≡ point_len pair.curve
  pub secret : IsSecretMpint mpint pair.secret
  pub fits : length mpint < 2 ^ 32

-- blob and private string of a key by itself
pub record IsPlain (private blob : List ℕ) (pair : KeyPair) : Type 0 where
  pub mpint : List ℕ
  pub blob_is : blob ≡ string (plain_name pair.curve) ++ point_fields pair
  pub private_is : private ≡ string (plain_name pair.curve)
      ++ (string (curve_name pair.curve) ++ (string pair.point ++ string mpint))
  pub whole : IsWhole pair mpint

-- blob and private string of a key in a certificate, of which nothing behind the key is read
pub record IsCertified (private blob : List ℕ) (pair : KeyPair) : Type 0 where
  pub mpint : List ℕ
  pub nonce : List ℕ
  pub rest : List ℕ
  pub blob_is : blob ≡ string (certified_name pair.curve)
      ++ (string nonce ++ (string (curve_name pair.curve) ++ (string pair.point ++ rest)))
  pub private_is : private ≡ string (certified_name pair.curve) ++ (string blob ++ string mpint)
  pub whole : IsWhole pair mpint
  pub fits : (length nonce < 2 ^ 32) × (length blob < 2 ^ 32)

-- blob and private string of one key
abbrev pub IsPair : List ℕ → List ℕ → KeyPair → Type 0
IsPair private blob pair = IsPlain private blob pair ⊎ IsCertified private blob pair

-- a signature by a key on this curve
pub record IsSignature (curve : Curve) (text : List ℕ) (numbers : SignatureNumbers) : Type 0 where
  pub text_is : text ≡ string (plain_name curve) ++ string (string (signed numbers.r) ++ string (signed numbers.s))
  pub r : IsMagnitude numbers.r
  pub s : IsMagnitude numbers.s
  pub fits_r : length (signed numbers.r) < 2 ^ 32
  pub fits_s : length (signed numbers.s) < 2 ^ 32
  pub fits : length (string (signed numbers.r) ++ string (signed numbers.s)) < 2 ^ 32
