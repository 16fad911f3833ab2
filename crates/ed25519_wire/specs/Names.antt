-- The names of the types of Ed25519 keys: RFC 8709, section 4, and OpenSSH's PROTOCOL.certkeys.
use Rattle.std.specs.Prelude.{ℕ, Bool, false, ◌||◌, List, Option, Some, None, codes}
use Rattle.std.specs.Str.{bytes_eq}
use Rattle.wire_core.specs.Fields.{string_at}

-- the type of a key by itself, and of its signatures
abbrev pub plain_name : List ℕ
plain_name = codes "ssh-ed25519"

-- the type of a key in a certificate
abbrev pub certified_name : List ℕ
certified_name = codes "ssh-ed25519-cert-v01@openssh.com"

-- the same as tests
abbrev pub is_plain_name : List ℕ → Bool
is_plain_name name = bytes_eq name plain_name

-- the name is that of the type in a certificate
abbrev pub is_certified_name : List ℕ → Bool
is_certified_name name = bytes_eq name certified_name

-- the string that was read is one of the two
abbrev pub is_name_read : Option (List ℕ × List ℕ) → Bool
is_name_read (Some field) = is_plain_name field.0 || is_certified_name field.0
is_name_read None = false

-- a blob or a private string begins with one of the two
unfoldable pub is_ed25519 : List ℕ → Bool
is_ed25519 bytes = is_name_read (string_at bytes)
