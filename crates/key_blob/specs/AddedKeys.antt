-- Keys that are added to an agent: the type's name, its public and its private fields, or a
-- certificate in the place of the public fields (draft-miller-ssh-agent, "Adding keys to the
-- agent"; certificates as OpenSSH's ssh-add sends them).
use Rattle.std.specs.Prelude.{◌≡◌, ℕ, ◌-◌, ◌^◌, ◌<◌, List, ◌++◌, length, Result, Ok, Err, if◌then◌else◌}
use Rattle.std.specs.Str.{bytes_eq}
use Rattle.wire_text.specs.Wire.{string}
use Rattle.key_blob.specs.declared.added.AddedKey.{AddedKey}
use Rattle.key_blob.specs.declared.fault.KeyFault.{KeyFault}
use Rattle.key_blob.specs.declared.fault.KeyFault.TheVariants.{Mismatch}
use Rattle.key_blob.specs.declared.form.Form.{Form}
use Rattle.key_blob.specs.declared.form.Form.TheVariants.{Plain, Certified}
use Rattle.key_blob.specs.declared.kind.KeyKind.{KeyKind}
use Rattle.key_blob.specs.Certificates.{text_at}
use Rattle.key_blob.specs.KeyTypes.{KeyType, IsListed, key_type, certified_type, type_of, blob_order}
use Rattle.key_blob.specs.PublicKeys.{KeyParts, IsPublicKey, public_key_of}
use Rattle.wire_core.specs.Readings.{◌>>=◌}
use Rattle.key_blob.specs.Reading.{AreContents, strings, fields_at, after_fields, form_at, taken}

-- the public fields of a blob, whose contents are these in an addition
abbrev pub blob_fields : KeyType → List (List ℕ) → List ℕ
blob_fields type public = strings (blob_order type public)

-- the text is the public fields of a plain type's addition, which has this blob
pub record IsPlainText (kind : KeyKind) (text blob : List ℕ) : Type 0 where
  pub public : List (List ℕ)
  pub fit : AreContents (key_type kind).added public
  pub fields : text ≡ strings public
  pub named : blob ≡ string (key_type kind).name ++ blob_fields (key_type kind) public

-- the text is the certificate of an addition as a string, and the certificate is the blob
pub record IsCertificateText (kind : KeyKind) (text blob : List ℕ) : Type 0 where
  pub key : KeyParts
  pub readable : IsPublicKey blob key
  pub of_type : key.type_name ≡ (certified_type kind).name
  pub small : length blob < 2 ^ 32
  pub whole : text ≡ string blob

-- the text stands behind the type's name in an addition that has this blob
abbrev pub IsBlobText : Form → List ℕ → List ℕ → Type 0
IsBlobText (Plain kind) text blob = IsPlainText kind text blob
IsBlobText (Certified kind) text blob = IsCertificateText kind text blob

-- the key's private bytes are an addition, and its blob comes from the public fields or the
-- certificate of it
pub record IsAddedKey (key : AddedKey) : Type 0 where
  pub form : Form
  pub listed : IsListed form
  pub blob_text : List ℕ
  pub again : List (List ℕ)
  pub private : List (List ℕ)
  pub blob_fit : IsBlobText form blob_text key.blob
  pub again_fit : AreContents (type_of form).again again
  pub private_fit : AreContents (type_of form).private private
  pub text : key.private ≡ string (type_of form).name
      ++ (blob_text ++ (strings again ++ strings private))

-- the bytes are an addition, of some key
abbrev pub IsAddition : List ℕ → Type 0
IsAddition bytes = (key : AddedKey) × IsAddedKey key × (key.private ≡ bytes)

-- ---- reading from left to right

-- the public fields of a blob, from those of an addition, and the bytes that follow these
unfoldable pub blob_fields_at : KeyType → List ℕ → Result (List ℕ × List ℕ) KeyFault
blob_fields_at type bytes =
    fields_at type.added bytes >>= λ read. Ok (blob_fields type read.0, read.1)

-- a certificate of this type, whose own fault comes first, and the bytes that follow
unfoldable pub certificate_blob_at : KeyType → List ℕ → Result (List ℕ × List ℕ) KeyFault
certificate_blob_at type bytes = do
  blob ← text_at bytes
  key ← public_key_of blob.0
  if bytes_eq key.type_name type.name then Ok blob else Err Mismatch

-- the blob of an addition, of what follows the type's name, and the bytes that follow
unfoldable pub blob_at : Form → List ℕ → Result (List ℕ × List ℕ) KeyFault
blob_at (Plain kind) bytes =
    blob_fields_at (key_type kind) bytes
    >>= λ public. Ok (string (key_type kind).name ++ public.0, public.1)
blob_at (Certified kind) bytes = certificate_blob_at (certified_type kind) bytes

-- the key whose addition is at the front and what follows, or the first fault from left to right
unfoldable pub added_key_at : List ℕ → Result (AddedKey × List ℕ) KeyFault
added_key_at bytes = do
  form ← form_at bytes
  blob ← blob_at form.0 form.1
  private ← after_fields (type_of form.0).again blob.1
  rest ← after_fields (type_of form.0).private private
  Ok (record { blob = blob.0; private = taken bytes rest }, rest)

-- ---- where private fields stand

-- the bytes from an addition's first private field on
unfoldable pub private_at : List ℕ → Result (List ℕ) KeyFault
private_at bytes = do
  form ← form_at bytes
  blob ← blob_at form.0 form.1
  after_fields (type_of form.0).again blob.1

-- how many bytes stand in front of these, or 0 where they are not reached
abbrev pub bytes_before : List ℕ → Result (List ℕ) KeyFault → ℕ
bytes_before bytes (Ok private) = length bytes - length private
bytes_before bytes (Err fault) = 0

-- how many bytes stand in front of the first private field: the type, the public fields or the
-- certificate, and the public fields that are repeated behind it
abbrev pub private_from : List ℕ → ℕ
private_from bytes = bytes_before bytes (private_at bytes)
