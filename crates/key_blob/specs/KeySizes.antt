-- The size of a key in bits: its type's, or the number of binary digits of an RSA key's modulus.
use Rattle.std.specs.Prelude.{ℕ, List, [], Option, Some, None, unwrap_or}
use Rattle.wire_core.specs.Fields.{string_at}
use Rattle.key_blob.specs.Digits.{digits_of}
use Rattle.key_blob.specs.KeyTypes.{key_type}
use Rattle.key_blob.specs.PublicKeys.{KeyParts}

-- a content that was read, or no bytes
abbrev pub content_or_none : Option (List ℕ × List ℕ) → List ℕ
content_or_none None = []
content_or_none (Some found) = found.0

-- the second of two strings, or no bytes where it is not there
abbrev pub second_after : Option (List ℕ × List ℕ) → List ℕ
second_after None = []
second_after (Some found) = content_or_none (string_at found.1)

-- the modulus in an RSA key's fields, which are e and n
abbrev pub modulus_of : List ℕ → List ℕ
modulus_of fields = second_after (string_at fields)

-- the size in bits
abbrev pub bits_of : KeyParts → ℕ
bits_of key = unwrap_or (key_type key.kind).bits (digits_of (modulus_of key.fields))
