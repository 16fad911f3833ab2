-- Certificates, behind the fields of the key that they carry (OpenSSH's PROTOCOL.certkeys), and
-- what makes one good for a host (ours).
use Rattle.std.specs.Prelude.{◌≡◌, ℕ, ◌^◌, ◌<◌, ◌≤◌, ◌⊎◌, List, [], ◌++◌, length, Result, Ok, Err, if◌then◌else◌}
use Rattle.std.specs.Option.{ok_or}
use Rattle.wire_core.specs.Fields.{uint32_at, uint64_at, string_at}
use Rattle.wire_text.specs.Wire.{uint32, uint64, string}
use Rattle.key_blob.specs.declared.fault.KeyFault.{KeyFault}
use Rattle.key_blob.specs.declared.fault.KeyFault.TheVariants.{Short}
use Rattle.key_blob.specs.declared.public_key.Certificate.{Certificate}
use Rattle.key_blob.specs.Principals.{AreStrings, NamesHost, are_strings}
use Rattle.wire_core.specs.Readings.{◌>>=◌}

-- the fields of a certificate that are read, without where they lie in memory
pub record CertificateParts : Type 0 where
  pub cert_type : ℕ
  pub principals : List ℕ
  pub after : ℕ
  pub before : ℕ
  pub critical : List ℕ
  pub signer : List ℕ

-- a certificate as its parts
abbrev pub certificate_of : Certificate → CertificateParts
certificate_of certificate = record {
  cert_type = certificate.cert_type;
  principals = certificate.principals.now;
  after = certificate.after;
  before = certificate.before;
  critical = certificate.critical.now;
  signer = certificate.signer.now;
}

-- ---- the grammar

-- the text of a certificate behind the key's fields: what is read, and what is passed over
abbrev pub certificate_text : CertificateParts → ℕ → (key_id extensions reserved signature : List ℕ)
    → List ℕ → List ℕ
certificate_text parts serial key_id extensions reserved signature rest =
    uint64 serial ++ (uint32 parts.cert_type ++ (string key_id ++ (string parts.principals
    ++ (uint64 parts.after ++ (uint64 parts.before ++ (string parts.critical
    ++ (string extensions ++ (string reserved ++ (string parts.signer
    ++ (string signature ++ rest))))))))))

-- the certificate stands at the front of the bytes, and the rest follows it
pub record IsCertificateFront (bytes : List ℕ) (parts : CertificateParts) (rest : List ℕ)
    : Type 0 where
  pub serial : ℕ
  pub key_id : List ℕ
  pub extensions : List ℕ
  pub reserved : List ℕ
  pub signature : List ℕ
  pub text : bytes ≡ certificate_text parts serial key_id extensions reserved signature rest
  pub names : AreStrings parts.principals
  pub numbers : (serial < 2 ^ 64) × (parts.cert_type < 2 ^ 32)
      × (parts.after < 2 ^ 64) × (parts.before < 2 ^ 64)
  pub read_fit : (length parts.principals < 2 ^ 32)
      × (length parts.critical < 2 ^ 32) × (length parts.signer < 2 ^ 32)
  pub passed_fit : (length key_id < 2 ^ 32) × (length extensions < 2 ^ 32)
      × (length reserved < 2 ^ 32) × (length signature < 2 ^ 32)

-- ---- reading from left to right

-- the string at the front, and the bytes that follow
abbrev pub text_at : List ℕ → Result (List ℕ × List ℕ) KeyFault
text_at bytes = ok_or (string_at bytes) Short

-- the uint32 at the front, and the bytes that follow
abbrev pub u32_at : List ℕ → Result (ℕ × List ℕ) KeyFault
u32_at bytes = ok_or (uint32_at bytes) Short

-- the uint64 at the front, and the bytes that follow
abbrev pub u64_at : List ℕ → Result (ℕ × List ℕ) KeyFault
u64_at bytes = ok_or (uint64_at bytes) Short

-- a string that holds strings to its end
unfoldable pub names_at : List ℕ → Result (List ℕ × List ℕ) KeyFault
names_at bytes = text_at bytes >>= λ names. if are_strings names.0 then Ok names else Err Short

-- the type and the principals, behind the serial number, and the bytes that follow
unfoldable pub holder_at : List ℕ → Result ((ℕ × List ℕ) × List ℕ) KeyFault
holder_at bytes = do
  serial ← u64_at bytes
  cert_type ← u32_at serial.1
  key_id ← text_at cert_type.1
  principals ← names_at key_id.1
  Ok ((cert_type.0, principals.0), principals.1)

-- the times between which it is valid, and the bytes that follow
unfoldable pub times_at : List ℕ → Result ((ℕ × ℕ) × List ℕ) KeyFault
times_at bytes = do
  after ← u64_at bytes
  before ← u64_at after.1
  Ok ((after.0, before.0), before.1)

-- the critical options and the signer, in front of the signature, and the bytes that follow
unfoldable pub signer_at : List ℕ → Result ((List ℕ × List ℕ) × List ℕ) KeyFault
signer_at bytes = do
  critical ← text_at bytes
  extensions ← text_at critical.1
  reserved ← text_at extensions.1
  signer ← text_at reserved.1
  signature ← text_at signer.1
  Ok ((critical.0, signer.0), signature.1)

-- the parts of the certificate at the front, behind the key's fields, and the bytes that follow
unfoldable pub certificate_at : List ℕ → Result (CertificateParts × List ℕ) KeyFault
certificate_at bytes = do
  holder ← holder_at bytes
  times ← times_at holder.1
  signed ← signer_at times.1
  Ok (
    record {
      cert_type = holder.0.0;
      principals = holder.0.1;
      after = times.0.0;
      before = times.0.1;
      critical = signed.0.0;
      signer = signed.0.1;
    },
    signed.1,
  )

-- ---- validity

-- the certificate is good for the host at this time, in seconds since 1970
pub record IsValid (parts : CertificateParts) (host : List ℕ) (wall : ℕ) : Type 0 where
  pub of_host : parts.cert_type ≡ 2
  pub begun : parts.after ≤ wall
  pub not_over : wall < parts.before
  pub no_options : parts.critical ≡ []
  pub named : (parts.principals ≡ []) ⊎ NamesHost host parts.principals
