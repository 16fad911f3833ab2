-- Public keys, and their blobs: the type's name and its public fields, and nothing more
-- (RFC 4253, section 6.6), or a certificate (OpenSSH's PROTOCOL.certkeys).
use Rattle.std.specs.Prelude.{◌≡◌, ℕ, ◌^◌, ◌<◌, ◌⊎◌, List, [], ◌∷◌, ◌++◌, length, Option, Some, None, Result, Ok}
use Rattle.std.specs.Option.{option_map}
use Rattle.wire_text.specs.Wire.{string}
use Rattle.key_blob.specs.declared.fault.KeyFault.{KeyFault}
use Rattle.key_blob.specs.declared.fault.KeyFault.TheVariants.{Trailing}
use Rattle.key_blob.specs.declared.form.Form.{Form}
use Rattle.key_blob.specs.declared.form.Form.TheVariants.{Plain, Certified}
use Rattle.key_blob.specs.declared.kind.KeyKind.{KeyKind}
use Rattle.key_blob.specs.declared.public_key.PublicKey.{PublicKey}
use Rattle.key_blob.specs.Certificates.{CertificateParts, IsCertificateFront, certificate_of, certificate_at, text_at}
use Rattle.key_blob.specs.KeyTypes.{IsListed, key_type, type_of, kind_of}
use Rattle.wire_core.specs.Readings.{◌>>=◌, ended_or}
use Rattle.key_blob.specs.Reading.{AreContents, strings, after_fields, form_at, taken}

-- a public key without where it lies in memory: its public fields are each a string
pub record KeyParts : Type 0 where
  pub kind : KeyKind
  pub type_name : List ℕ
  pub fields : List ℕ
  pub certificate : Option CertificateParts

-- the type of a key of this kind: of a certificate where one carries the key, else the plain type
abbrev pub form_with : KeyKind → Option CertificateParts → Form
form_with kind None = Plain kind
form_with kind (Some certificate) = Certified kind

-- the type of the key
abbrev pub form_of : KeyParts → Form
form_of key = form_with key.kind key.certificate

-- the signature algorithms that the key can be used with (RFC 8332, section 3, of RSA keys)
abbrev pub algorithms_of : KeyParts → List (List ℕ)
algorithms_of key = (type_of (form_of key)).name ∷ (type_of (form_of key)).other_algorithms

-- a key as its parts
abbrev pub parts_of : PublicKey → KeyParts
parts_of key = record {
  kind = key.kind;
  type_name = key.type_name.now;
  fields = key.fields.now;
  certificate = option_map certificate_of key.certificate;
}

-- the key of this kind and with these fields, which this certificate carries, or none
abbrev pub key_with : KeyKind → List ℕ → Option CertificateParts → KeyParts
key_with kind fields certificate = record {
  kind = kind;
  type_name = (type_of (form_with kind certificate)).name;
  fields = fields;
  certificate = certificate;
}

-- a key that is no certificate, of this kind and with these fields
abbrev pub plain_key : KeyKind → List ℕ → KeyParts
plain_key kind fields = key_with kind fields None

-- the bytes are the blob of a key that is no certificate
pub record IsPlainKey (bytes : List ℕ) (key : KeyParts) : Type 0 where
  pub contents : List (List ℕ)
  pub fit : AreContents (key_type key.kind).public contents
  pub plain : key ≡ plain_key key.kind (strings contents)
  pub text : bytes ≡ string key.type_name ++ key.fields

-- the bytes are a certificate: the key's fields stand between a nonce and the certificate's own
pub record IsCertifiedKey (bytes : List ℕ) (key : KeyParts) : Type 0 where
  pub certificate : CertificateParts
  pub has_certificates : IsListed (Certified key.kind)
  pub nonce : List ℕ
  pub nonce_fit : length nonce < 2 ^ 32
  pub contents : List (List ℕ)
  pub fit : AreContents (key_type key.kind).public contents
  pub after_key : List ℕ
  pub front : IsCertificateFront after_key certificate []
  pub certified : key ≡ key_with key.kind (strings contents) (Some certificate)
  pub text : bytes ≡ string key.type_name ++ (string nonce ++ (key.fields ++ after_key))

-- the bytes are a blob of the key
abbrev pub IsPublicKey : List ℕ → KeyParts → Type 0
IsPublicKey bytes key = IsPlainKey bytes key ⊎ IsCertifiedKey bytes key

-- ---- reading from left to right

-- the bytes behind a certificate's nonce
abbrev pub after_nonce : Form → List ℕ → Result (List ℕ) KeyFault
after_nonce (Plain kind) bytes = Ok bytes
after_nonce (Certified kind) bytes = text_at bytes >>= λ nonce. Ok nonce.1

-- the certificate's own fields, where the type is that of certificates, and the bytes that follow
abbrev pub certificate_for : Form → List ℕ → Result (Option CertificateParts × List ℕ) KeyFault
certificate_for (Plain kind) bytes = Ok (None, bytes)
certificate_for (Certified kind) bytes =
    certificate_at bytes >>= λ certificate. Ok (Some certificate.0, certificate.1)

-- the key whose blob the bytes are, or the first fault from left to right
unfoldable pub public_key_of : List ℕ → Result KeyParts KeyFault
public_key_of bytes = do
  form ← form_at bytes
  fields ← after_nonce form.0 form.1
  after_key ← after_fields (key_type (kind_of form.0)).public fields
  certificate ← certificate_for form.0 after_key
  ended_or Trailing (key_with (kind_of form.0) (taken fields after_key) certificate.0) certificate.1
