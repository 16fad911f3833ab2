-- RSA keys and signatures as SSH carries them, read field by field: what is read, or that something doesn't fit.
-- RFC 4253, section 6.6; RFC 8332, section 3; draft-miller-ssh-agent, "Adding keys to the agent"; OpenSSH's
-- PROTOCOL.certkeys.
use Rattle.std.specs.Prelude.{ℕ, List, Option, Some, None, Result, Ok, Err}
use Rattle.std.specs.Option.{ok_or}
use Rattle.rsa_wire.specs.declared.names.KeyType.{KeyType}
use Rattle.rsa_wire.specs.declared.names.KeyType.TheVariants.{Plain, Certified}
use Rattle.rsa_wire.specs.declared.names.Algorithm.{Algorithm}
use Rattle.rsa_wire.specs.declared.public.Public.{Public}
use Rattle.rsa_wire.specs.declared.pair.Pair.{Pair}
use Rattle.rsa_wire.specs.declared.pair.Factors.{Factors}
use Rattle.rsa_wire.specs.declared.signature.Signature.{Signature}
use Rattle.rsa_wire.specs.Names.{algorithm_named, type_name, type_named}
use Rattle.key_wire.specs.declared.fault.KeyFault.{KeyFault}
use Rattle.key_wire.specs.declared.fault.KeyFault.TheVariants.{Unfit}
use Rattle.key_wire.specs.Fields.{ended, field, known_at}
use Rattle.key_wire.specs.Numbers.{magnitude, secret_magnitude, signed}
use Rattle.wire_core.specs.Fields.{string_at}
use Rattle.wire_core.specs.Readings.{◌>>=◌}

-- ---- numbers

-- the bytes of a public number, and what follows
unfoldable pub number_at : List ℕ → Result (List ℕ × List ℕ) KeyFault
number_at bytes = do
  text ← field (string_at bytes)
  number ← magnitude text.0
  Ok (number, text.1)

-- the bytes of a private number, and what follows
unfoldable pub secret_at : List ℕ → Result (List ℕ × List ℕ) KeyFault
secret_at bytes = do
  text ← field (string_at bytes)
  number ← secret_magnitude text.0
  Ok (number, text.1)

-- ---- blobs

-- the bytes of a public exponent and of a modulus
pub record PublicKey : Type 0 where
  pub e : List ℕ
  pub n : List ℕ

-- the public key that the code's value lends
abbrev pub public_of : Public → PublicKey
public_of key = record { e = key.e.now; n = key.n.now }

-- the exponent and then the modulus, and what follows
unfoldable pub public_at : List ℕ → Result (PublicKey × List ℕ) KeyFault
public_at bytes = do
  e ← number_at bytes
  n ← number_at e.1
  Ok (record { e = e.0; n = n.0 }, n.1)

-- the public key of a certificate behind its type's name and the nonce, and what follows the key
unfoldable pub certified_public_at : List ℕ → Result (PublicKey × List ℕ) KeyFault
certified_public_at bytes = do
  nonce ← field (string_at bytes)
  public_at nonce.1

-- the public key of a plain key behind its type's name
unfoldable pub plain_public_at : List ℕ → Result PublicKey KeyFault
plain_public_at bytes = do
  key ← public_at bytes
  ended key.0 key.1

-- the public key of a plain key's blob
unfoldable pub public_in : List ℕ → Result PublicKey KeyFault
public_in blob = do
  key ← known_at (type_name Plain) blob
  plain_public_at key

-- ---- private strings

-- the bytes of the private numbers
pub record PrivateKey : Type 0 where
  pub d : List ℕ
  pub iqmp : List ℕ
  pub p : List ℕ
  pub q : List ℕ

-- the private numbers that the code's value lends
abbrev pub private_of : Factors → PrivateKey
private_of key = record { d = key.d.now; iqmp = key.iqmp.now; p = key.p.now; q = key.q.now }

-- d, iqmp, p and q, to which nothing follows
unfoldable pub private_at : List ℕ → Result PrivateKey KeyFault
private_at bytes = do
  d ← secret_at bytes
  iqmp ← secret_at d.1
  p ← secret_at iqmp.1
  q ← secret_at p.1
  ended record { d = d.0; iqmp = iqmp.0; p = p.0; q = q.0 } q.1

-- a public key and its private numbers
pub record KeyPair : Type 0 where
  pub public : PublicKey
  pub private : PrivateKey

-- the pair that the code's value lends
abbrev pub pair_of : Pair → KeyPair
pair_of pair = record { public = public_of pair.public; private = private_of pair.private }

-- the private numbers behind a plain type's name: the modulus and the exponent stand there again
unfoldable pub plain_private_at : PublicKey → List ℕ → Result PrivateKey KeyFault
plain_private_at key bytes = do
  behind_n ← known_at (signed key.n) bytes
  behind_e ← known_at (signed key.e) behind_n
  private_at behind_e

-- the pair of a private string of the plain type, which has this blob behind the type's name
unfoldable pub plain_pair : List ℕ → List ℕ → Result KeyPair KeyFault
plain_pair private blob = do
  public ← plain_public_at blob
  fields ← known_at (type_name Plain) private
  numbers ← plain_private_at public fields
  Ok record { public = public; private = numbers }

-- the pair of a private string of the certified type, whose certificate is this blob, given whole and behind its type's
-- name
unfoldable pub certified_pair : List ℕ → List ℕ → List ℕ → Result KeyPair KeyFault
certified_pair private whole blob = do
  public ← certified_public_at blob
  fields ← known_at (type_name Certified) private
  behind ← known_at whole fields
  numbers ← private_at behind
  Ok record { public = public.0; private = numbers }

-- the pair by the type of the blob
abbrev pub pair_typed : Option KeyType → List ℕ → List ℕ → List ℕ → Result KeyPair KeyFault
pair_typed (Some Plain) private whole blob = plain_pair private blob
pair_typed (Some Certified) private whole blob = certified_pair private whole blob
pair_typed None private whole blob = Err Unfit

-- the pair of a private string that has this blob
unfoldable pub pair_in : List ℕ → List ℕ → Result KeyPair KeyFault
pair_in private blob = do
  name ← field (string_at blob)
  pair_typed (type_named name.0) private blob name.1

-- ---- signatures

-- the algorithm and the bytes of a signature
pub record SignatureBytes : Type 0 where
  pub algorithm : Algorithm
  pub bytes : List ℕ

-- the signature that the code's value lends
abbrev pub signature_of : Signature → SignatureBytes
signature_of signature = record { algorithm = signature.algorithm; bytes = signature.bytes.now }

-- the signature, to which nothing follows
unfoldable pub signature_in : List ℕ → Result SignatureBytes KeyFault
signature_in text = do
  name ← field (string_at text)
  algorithm ← ok_or (algorithm_named name.0) Unfit
  bytes ← field (string_at name.1)
  ended record { algorithm = algorithm; bytes = bytes.0 } bytes.1
