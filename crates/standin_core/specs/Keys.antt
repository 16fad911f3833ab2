-- Stand-in keys, for tests (ours): docs/PROTOCOL.md, "Keys". Signatures are HMAC-SHA-256 under the secret.
use Rattle.std.specs.Prelude.{◌≡◌, ◌≢◌, ℕ, ◌==◌, ◌&&◌, if◌then◌else◌, List, ◌++◌, length, drop, Option, Some, None, is_some, codes}
use Rattle.std.specs.Str.{bytes_eq}
use Rattle.hmac_core.specs.Hmac.{hmac}
use Rattle.sha2.specs.Sha256.{sha256}
use Rattle.wire_text.specs.Wire.{string}

-- the type's name
abbrev pub type_name : List ℕ
type_name = codes "keyed-sha256@example.com"

-- the blob of the key with this tag
abbrev pub blob_of : List ℕ → List ℕ
blob_of tag = string type_name ++ string tag

-- the private string of the key with this tag and this secret
abbrev pub private_of : List ℕ → List ℕ → List ℕ
private_of tag secret = blob_of tag ++ string secret

-- the signature of a message under a secret
abbrev pub signature_of : List ℕ → List ℕ → List ℕ
signature_of secret message = string type_name ++ string (hmac sha256 secret message)

-- the tag of 32 bytes whose blob this is
unfoldable pub tag_of : List ℕ → Option (List ℕ)
tag_of blob =
    if (length blob == 64) && bytes_eq blob (blob_of (drop 32 blob)) then Some (drop 32 blob) else None

-- the secret of 32 bytes of a private string that has this blob
unfoldable pub secret_of : List ℕ → List ℕ → Option (List ℕ)
secret_of private blob =
    if is_some (tag_of blob) && (length private == 100) && bytes_eq private (blob ++ string (drop 68 private))
    then Some (drop 68 private) else None

-- ---- the same as relations

-- no text has this front
abbrev pub HasNoFront : List ℕ → List ℕ → Type 0
HasNoFront front bytes = (rest : List ℕ) → bytes ≢ front ++ rest

-- the blob is that of the key with this tag
pub record IsBlob (blob tag : List ℕ) : Type 0 where
  pub whole : blob ≡ blob_of tag
  pub sized : length tag ≡ 32

-- the private string is that of the key with this blob and this secret
pub record IsPrivate (private blob secret : List ℕ) : Type 0 where
  pub tag : List ℕ
  pub blob_is : IsBlob blob tag
  pub whole : private ≡ private_of tag secret
  pub sized : length secret ≡ 32
