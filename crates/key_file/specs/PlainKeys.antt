-- Additions of plain keys, as the private part of a key file holds one: no certificate.
use Rattle.std.specs.Prelude.{◌≡◌, ℕ, Bool, true, false, List, Option, Some, None, Result, Err, codes, if◌then◌else◌}
use Rattle.std.specs.List.{ends_with}
use Rattle.std.specs.Prelude.{nat_eq}
use Rattle.wire_core.specs.Fields.{string_at}
use Rattle.key_blob.specs.declared.added.AddedKey.{AddedKey}
use Rattle.key_blob.specs.declared.fault.KeyFault.{KeyFault}
use Rattle.key_blob.specs.declared.fault.KeyFault.TheVariants.{UnknownType}
use Rattle.key_blob.specs.declared.form.Form.{Form}
use Rattle.key_blob.specs.declared.form.Form.TheVariants.{Plain, Certified}
use Rattle.key_blob.specs.AddedKeys.{IsAddedKey, added_key_at}

-- the type is one of plain keys
abbrev pub is_plain : Form → Bool
is_plain (Plain kind) = true
is_plain (Certified kind) = false

-- the key's private bytes are an addition of a plain key
pub record IsPlainAddition (key : AddedKey) : Type 0 where
  pub added : IsAddedKey key
  pub plain : is_plain added.form ≡ true

-- the ending of the names of certificates' types
abbrev pub certificate_ending : List ℕ
certificate_ending = codes "-cert-v01@openssh.com"

-- a type's name was read, and it ends as the names of certificates' types do
abbrev pub has_ending : Option (List ℕ × List ℕ) → Bool
has_ending None = false
has_ending (Some name) = ends_with nat_eq name.0 certificate_ending

-- the addition at the front and what follows it, or the first fault; a certificate's is unknown
unfoldable pub plain_key_at : List ℕ → Result (AddedKey × List ℕ) KeyFault
plain_key_at bytes = if has_ending (string_at bytes) then Err UnknownType else added_key_at bytes
