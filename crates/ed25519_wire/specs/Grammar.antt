-- Ed25519 keys and signatures as a grammar: RFC 8709, sections 4 and 6; draft-miller-ssh-agent, "Adding keys to the
-- agent"; OpenSSH's PROTOCOL.certkeys.
use Rattle.std.specs.Prelude.{◌≡◌, ◌⊎◌, ◌<◌, ◌^◌, ℕ, List, ◌++◌, length}
use Rattle.ed25519_wire.specs.Names.{certified_name, plain_name}
use Rattle.ed25519_wire.specs.Reading.{KeyPair}
use Rattle.wire_text.specs.Wire.{string}

-- the public key, and then the seed with the public key behind it
abbrev pub private_fields : KeyPair → List ℕ
private_fields pair = string pair.public ++ string (pair.seed ++ pair.public)

-- a seed and a public key have 32 bytes each
pub record IsSized (pair : KeyPair) : Type 0 where
  pub seed : length pair.seed ≡ 32
  pub public : length pair.public ≡ 32

-- blob and private string of a key by itself
pub record IsPlain (private blob : List ℕ) (pair : KeyPair) : Type 0 where
  pub blob_is : blob ≡ string plain_name ++ string pair.public
  pub private_is : private ≡ string plain_name ++ private_fields pair
  pub sized : IsSized pair

-- blob and private string of a key in a certificate, of which nothing behind the key is read
pub record IsCertified (private blob : List ℕ) (pair : KeyPair) : Type 0 where
  pub nonce : List ℕ
  pub rest : List ℕ
  pub blob_is : blob ≡ string certified_name ++ (string nonce ++ (string pair.public ++ rest))
  pub private_is : private ≡ string certified_name ++ (string blob ++ private_fields pair)
  pub sized : IsSized pair
  pub fits : (length nonce < 2 ^ 32) × (length blob < 2 ^ 32)

-- blob and private string of one key
abbrev pub IsPair : List ℕ → List ℕ → KeyPair → Type 0
IsPair private blob pair = IsPlain private blob pair ⊎ IsCertified private blob pair

-- a signature of 64 bytes
pub record IsSignature (text bytes : List ℕ) : Type 0 where
  pub text_is : text ≡ string plain_name ++ string bytes
  pub sized : length bytes ≡ 64
