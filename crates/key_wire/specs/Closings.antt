-- What closes a certificate, behind the key that is certified: OpenSSH's PROTOCOL.certkeys.
use Rattle.std.specs.Prelude.{ℕ, ◌-◌, List, length, take, Result}
use Rattle.key_wire.specs.declared.closing.Closing.{Closing}
use Rattle.key_wire.specs.declared.fault.KeyFault.{KeyFault}
use Rattle.key_wire.specs.Fields.{ended, field}
use Rattle.wire_core.specs.Fields.{string_at, uint32_at, uint64_at}
use Rattle.wire_core.specs.Readings.{◌>>=◌}

-- what closes a certificate: the authority's key and its signature over all that stands before the signature
pub record Seal : Type 0 where
  pub authority : List ℕ
  pub signature : List ℕ
  -- how many bytes the signature takes, with its length
  pub signature_field : ℕ

-- the seal that the code's value lends
abbrev pub seal_of : Closing → Seal
seal_of closing = record {
  authority = closing.authority.now;
  signature = closing.signature.now;
  signature_field = closing.signature_field;
}

-- the authority and the signature, at the end
unfoldable pub seal_end_at : List ℕ → Result Seal KeyFault
seal_end_at bytes = do
  authority ← field (string_at bytes)
  signature ← field (string_at authority.1)
  ended record {
    authority = authority.0;
    signature = signature.0;
    signature_field = length authority.1;
  } signature.1

-- when the certificate is valid, critical options, extensions and a reserved string, and then the seal
unfoldable pub times_at : List ℕ → Result Seal KeyFault
times_at bytes = do
  after ← field (uint64_at bytes)
  before ← field (uint64_at after.1)
  options ← field (string_at before.1)
  extensions ← field (string_at options.1)
  reserved ← field (string_at extensions.1)
  seal_end_at reserved.1

-- the seal, behind serial number, type, key id and principals
unfoldable pub seal_at : List ℕ → Result Seal KeyFault
seal_at bytes = do
  serial ← field (uint64_at bytes)
  kind ← field (uint32_at serial.1)
  key_id ← field (string_at kind.1)
  principals ← field (string_at key_id.1)
  times_at principals.1

-- what an authority signs: all of the certificate before the signature
abbrev pub sealed : List ℕ → Seal → List ℕ
sealed certificate seal = take (length certificate - seal.signature_field) certificate
