-- RSA keys and signatures as a grammar: RFC 4253, section 6.6; RFC 8332, section 3; draft-miller-ssh-agent, "Adding keys
-- to the agent"; OpenSSH's PROTOCOL.certkeys.
use Rattle.std.specs.Prelude.{◌≡◌, ◌⊎◌, ◌<◌, ◌^◌, ℕ, List, [], ◌++◌, length}
use Rattle.rsa_wire.specs.declared.names.KeyType.TheVariants.{Plain, Certified}
use Rattle.rsa_wire.specs.Names.{algorithm_name, type_name}
use Rattle.rsa_wire.specs.Reading.{KeyPair, PrivateKey, PublicKey, SignatureBytes}
use Rattle.key_wire.specs.Numbers.{IsMagnitude, IsSecretMpint, signed}
use Rattle.wire_text.specs.Wire.{string}

-- the exponent and the modulus, and what follows
abbrev pub public_text : PublicKey → List ℕ → List ℕ
public_text key rest = string (signed key.e) ++ (string (signed key.n) ++ rest)

-- both are positive numbers that fit a string
pub record IsPublic (key : PublicKey) : Type 0 where
  pub e : IsMagnitude key.e
  pub n : IsMagnitude key.n
  pub fits_e : length (signed key.e) < 2 ^ 32
  pub fits_n : length (signed key.n) < 2 ^ 32

-- a string with the mpint of a private number
pub record IsSecretField (text number : List ℕ) : Type 0 where
  pub mpint : List ℕ
  pub text_is : text ≡ string mpint
  pub is : IsSecretMpint mpint number
  pub fits : length mpint < 2 ^ 32

-- the four private numbers, each in a string
pub record IsPrivate (text : List ℕ) (key : PrivateKey) : Type 0 where
  pub d : List ℕ
  pub iqmp : List ℕ
  pub p : List ℕ
  pub q : List ℕ
  pub text_is : text ≡ d ++ (iqmp ++ (p ++ q))
  pub d_is : IsSecretField d key.d
  pub iqmp_is : IsSecretField iqmp key.iqmp
  pub p_is : IsSecretField p key.p
  pub q_is : IsSecretField q key.q

-- blob and private string of a key by itself
pub record IsPlain (private blob : List ℕ) (pair : KeyPair) : Type 0 where
  pub numbers : List ℕ
  pub blob_is : blob ≡ string (type_name Plain) ++ public_text pair.public []
  pub private_is : private ≡ string (type_name Plain)
      ++ (string (signed pair.public.n) ++ (string (signed pair.public.e) ++ numbers))
  pub key : IsPublic pair.public
  pub secrets : IsPrivate numbers pair.private

-- blob and private string of a key in a certificate, of which nothing behind the key is read
pub record IsCertified (private blob : List ℕ) (pair : KeyPair) : Type 0 where
  pub numbers : List ℕ
  pub nonce : List ℕ
  pub rest : List ℕ
  pub blob_is : blob ≡ string (type_name Certified) ++ (string nonce ++ public_text pair.public rest)
  pub private_is : private ≡ string (type_name Certified) ++ (string blob ++ numbers)
  pub key : IsPublic pair.public
  pub secrets : IsPrivate numbers pair.private
  pub fits : (length nonce < 2 ^ 32) × (length blob < 2 ^ 32)

-- blob and private string of one key
abbrev pub IsPair : List ℕ → List ℕ → KeyPair → Type 0
IsPair private blob pair = IsPlain private blob pair ⊎ IsCertified private blob pair

-- a signature
pub record IsSignature (text : List ℕ) (signature : SignatureBytes) : Type 0 where
  pub text_is : text ≡ string (algorithm_name signature.algorithm) ++ string signature.bytes
  pub fits : length signature.bytes < 2 ^ 32
