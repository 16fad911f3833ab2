-- ECDSA keys and signatures as SSH carries them, read field by field: what is read, or that something doesn't fit.
-- RFC 5656, section 3.1; draft-miller-ssh-agent, "Adding keys to the agent"; OpenSSH's PROTOCOL.certkeys.
use Rattle.std.specs.Prelude.{ℕ, List, Option, Some, None, Result, Ok, Err}
use Rattle.ecdsa_wire.specs.declared.names.Curve.{Curve}
use Rattle.ecdsa_wire.specs.declared.names.KeyType.{KeyType}
use Rattle.ecdsa_wire.specs.declared.names.KeyType.TheVariants.{Plain, Certified}
use Rattle.ecdsa_wire.specs.declared.public.Public.{Public}
use Rattle.ecdsa_wire.specs.declared.pair.Pair.{Pair}
use Rattle.ecdsa_wire.specs.declared.signature.Numbers.{Numbers}
use Rattle.ecdsa_wire.specs.Names.{certified_name, curve_name, plain_name, point_len, type_named}
use Rattle.key_wire.specs.declared.fault.KeyFault.{KeyFault}
use Rattle.key_wire.specs.declared.fault.KeyFault.TheVariants.{Unfit}
use Rattle.key_wire.specs.Fields.{ended, field, known_at, sized_at}
use Rattle.key_wire.specs.Numbers.{magnitude, secret_magnitude}
use Rattle.wire_core.specs.Fields.{string_at}
use Rattle.wire_core.specs.Readings.{◌>>=◌}

-- ---- blobs

-- a curve and the bytes of a point
pub record PublicKey : Type 0 where
  pub curve : Curve
  pub point : List ℕ

-- the public key that the code's value lends
abbrev pub public_of : Public → PublicKey
public_of key = record { curve = key.curve; point = key.point.now }

-- the curve's name and the point, and what follows
unfoldable pub point_at : Curve → List ℕ → Result (List ℕ × List ℕ) KeyFault
point_at curve bytes = do
  rest ← known_at (curve_name curve) bytes
  sized_at (point_len curve) rest

-- the public key of a certificate behind its type's name and the nonce, and what follows the key
unfoldable pub certified_point_at : Curve → List ℕ → Result (List ℕ × List ℕ) KeyFault
certified_point_at curve bytes = do
  nonce ← field (string_at bytes)
  point_at curve nonce.1

-- the public key of a plain key behind its type's name
unfoldable pub plain_point_at : Curve → List ℕ → Result (List ℕ) KeyFault
plain_point_at curve bytes = do
  point ← point_at curve bytes
  ended point.0 point.1

-- ---- private strings

-- the bytes of the private number, to which nothing follows
unfoldable pub secret_at : List ℕ → Result (List ℕ) KeyFault
secret_at bytes = do
  text ← field (string_at bytes)
  secret ← secret_magnitude text.0
  ended secret text.1

-- a public key and the bytes of its private number
pub record KeyPair : Type 0 where
  pub curve : Curve
  pub point : List ℕ
  pub secret : List ℕ

-- the pair that the code's value lends
abbrev pub pair_of : Pair → KeyPair
pair_of pair = record { curve = pair.curve; point = pair.point.now; secret = pair.secret.now }

-- the private number behind a plain type's name: the public key stands there again
unfoldable pub plain_secret_at : Curve → List ℕ → List ℕ → Result (List ℕ) KeyFault
plain_secret_at curve point bytes = do
  behind_name ← known_at (curve_name curve) bytes
  behind_point ← known_at point behind_name
  secret_at behind_point

-- the pair of a private string of a plain type, which has this blob behind the type's name
unfoldable pub plain_pair : Curve → List ℕ → List ℕ → Result KeyPair KeyFault
plain_pair curve private blob = do
  point ← plain_point_at curve blob
  fields ← known_at (plain_name curve) private
  secret ← plain_secret_at curve point fields
  Ok record { curve = curve; point = point; secret = secret }

-- the pair of a private string of a certified type, whose certificate is this blob, given whole and behind its type's
-- name
unfoldable pub certified_pair : Curve → List ℕ → List ℕ → List ℕ → Result KeyPair KeyFault
certified_pair curve private whole blob = do
  point ← certified_point_at curve blob
  fields ← known_at (certified_name curve) private
  behind ← known_at whole fields
  secret ← secret_at behind
  Ok record { curve = curve; point = point.0; secret = secret }

-- the pair by the type of the blob
abbrev pub pair_typed : Option KeyType → List ℕ → List ℕ → List ℕ → Result KeyPair KeyFault
pair_typed (Some (Plain curve)) private whole blob = plain_pair curve private blob
pair_typed (Some (Certified curve)) private whole blob = certified_pair curve private whole blob
pair_typed None private whole blob = Err Unfit

-- the pair of a private string that has this blob
unfoldable pub pair_in : List ℕ → List ℕ → Result KeyPair KeyFault
pair_in private blob = do
  name ← field (string_at blob)
  pair_typed (type_named name.0) private blob name.1

-- ---- public keys by themselves

-- the public key of a pair
abbrev pub pair_public : KeyPair → PublicKey
pair_public pair = record { curve = pair.curve; point = pair.point }

-- the public key by the type of the blob, which has to be a plain one
abbrev pub public_typed : Option KeyType → List ℕ → Result PublicKey KeyFault
public_typed (Some (Plain curve)) blob = plain_point_at curve blob >>= λ point. Ok record { curve = curve; point = point }
public_typed (Some (Certified curve)) blob = Err Unfit
public_typed None blob = Err Unfit

-- the public key of a plain key's blob
unfoldable pub public_in : List ℕ → Result PublicKey KeyFault
public_in blob = do
  name ← field (string_at blob)
  public_typed (type_named name.0) name.1

-- ---- signatures

-- the bytes of the two numbers of a signature
pub record SignatureNumbers : Type 0 where
  pub r : List ℕ
  pub s : List ℕ

-- the numbers that the code's value lends
abbrev pub numbers_of : Numbers → SignatureNumbers
numbers_of numbers = record { r = numbers.r.now; s = numbers.s.now }

-- r and then s, to which nothing follows
unfoldable pub numbers_at : List ℕ → Result SignatureNumbers KeyFault
numbers_at bytes = do
  first ← field (string_at bytes)
  r ← magnitude first.0
  second ← field (string_at first.1)
  s ← magnitude second.0
  ended record { r = r; s = s } second.1

-- the numbers of a signature by a key on this curve
unfoldable pub signature_in : Curve → List ℕ → Result SignatureNumbers KeyFault
signature_in curve text = do
  fields ← known_at (plain_name curve) text
  blob ← field (string_at fields)
  whole ← ended blob.0 blob.1
  numbers_at whole
