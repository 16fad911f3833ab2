-- What a key signs for a file: OpenSSH's PROTOCOL.sshsig, "Signed Data". That the digest has the
-- length of the hash algorithm's is ours; the rest is that text's.
use Rattle.std.specs.Prelude.{◌≡◌, ◌≢◌, ◌⊎◌, ℕ, ◌^◌, ◌<◌, List, [], ◌++◌, length, codes}
use Rattle.wire_text.specs.Wire.{string}
use Rattle.sshsig_blob.specs.declared.sshsig.SignedData.{SignedData}

-- the fields of a file's signature that are signed, without where they lie in memory
pub record Signing : Type 0 where
  -- what the signature is for
  pub namespace : List ℕ
  -- what is kept for later versions
  pub reserved : List ℕ
  -- the name of the hash algorithm
  pub hash_algorithm : List ℕ
  -- the file's digest by it
  pub digest : List ℕ

-- the fields that the code's value lends
abbrev pub signing : SignedData → Signing
signing lent = record {
  namespace = lent.namespace.now;
  reserved = lent.reserved.now;
  hash_algorithm = lent.hash_algorithm.now;
  digest = lent.digest.now;
}

-- the six letters that each such message begins with
abbrev pub preamble : List ℕ
preamble = codes "SSHSIG"

-- the bytes that are signed
abbrev pub signed_text : Signing → List ℕ
signed_text signed =
    preamble ++ (string signed.namespace ++ (string signed.reserved
    ++ (string signed.hash_algorithm ++ string signed.digest)))

-- the digest is one of the hash algorithm, SHA-256 or SHA-512
abbrev pub IsHashed : List ℕ → List ℕ → Type 0
IsHashed algorithm digest =
    ((algorithm ≡ codes "sha256") × (length digest ≡ 32))
    ⊎ ((algorithm ≡ codes "sha512") × (length digest ≡ 64))

-- the message is what a key signs for a file
pub record IsSshsig (message : List ℕ) (signed : Signing) : Type 0 where
  pub text : message ≡ signed_text signed
  pub some_namespace : signed.namespace ≢ []
  pub hashed : IsHashed signed.hash_algorithm signed.digest
  -- each is short enough for a string
  pub short_namespace : length signed.namespace < 2 ^ 32
  pub short_reserved : length signed.reserved < 2 ^ 32
