-- What a message may be beside what is read in it, by its bytes alone, and wide on purpose: servers take logins that no
-- reader here reads, and another reader takes a certificate whose type isn't known here (ours: docs/PROTOCOL.md,
-- "Purposes").
use Rattle.std.specs.Prelude.{◌≡◌, ◌⊎◌, ℕ, ◌-◌, ◌^◌, ◌<◌, Bool, false, List, [], ◌∷◌, ◌++◌, ◌||◌, length, take, drop, Option, Some, None, codes}
use Rattle.std.specs.Str.{bytes_eq}
use Rattle.wire_text.specs.Wire.{string}
use Rattle.wire_core.specs.Fields.{string_at}

-- ---- in the standards' words

-- the bytes begin with this text
abbrev pub Begins : List ℕ → List ℕ → Type 0
Begins text bytes = (more : List ℕ) × (bytes ≡ text ++ more)

-- a service: the one that follows a login, or that of logins itself, which old servers have signed for an old client in
-- the place of the other, and then without a method (OpenSSH's SSH_BUG_PKSERVICE and SSH_BUG_PKAUTH, up to 7.6)
abbrev pub IsService : List ℕ → Type 0
IsService name = (name ≡ codes "ssh-connection") ⊎ (name ≡ codes "ssh-userauth")

-- a method by which a key logs in: RFC 4252, sections 7 (`publickey`) and 9 (`hostbased`), and those that OpenSSH and
-- others named behind them
abbrev pub IsMethod : List ℕ → Type 0
IsMethod name = Begins (codes "publickey") name ⊎ Begins (codes "hostbased") name

-- the name of a service or of a method of logins
abbrev pub IsNameOfLogin : List ℕ → Type 0
IsNameOfLogin name = IsService name ⊎ IsMethod name

-- such a name stands in the message as a string, wherever
pub record HoldsNameOfLogin (message : List ℕ) : Type 0 where
  pub front : List ℕ
  pub name : List ℕ
  pub rest : List ℕ
  pub text : message ≡ front ++ (string name ++ rest)
  pub short : length name < 2 ^ 32
  pub names : IsNameOfLogin name

-- the ending of the names of certificates' types (OpenSSH's PROTOCOL.certkeys), and of those that OpenSSH had before, up
-- to 6.9
abbrev pub IsCertificateEnding : List ℕ → Type 0
IsCertificateEnding ending = (ending ≡ codes "-cert-v01@openssh.com") ⊎ (ending ≡ codes "-cert-v00@openssh.com")

-- the message begins as a certificate does, with the name of its type
pub record BeginsCertificate (message : List ℕ) : Type 0 where
  pub type : List ℕ
  pub ending : List ℕ
  pub rest : List ℕ
  pub text : message ≡ string (type ++ ending) ++ rest
  pub short : length (type ++ ending) < 2 ^ 32
  pub ends : IsCertificateEnding ending

-- ---- as they are looked for

-- the bytes begin with this text
abbrev pub begins : List ℕ → List ℕ → Bool
begins text bytes = bytes_eq (take (length text) bytes) text

-- the name is one of those
unfoldable pub is_name_of_login : List ℕ → Bool
is_name_of_login name =
    (bytes_eq name (codes "ssh-connection") || bytes_eq name (codes "ssh-userauth"))
    || (begins (codes "publickey") name || begins (codes "hostbased") name)

-- a text that was read is such a name
abbrev pub if_named : Option (List ℕ × List ℕ) → Bool
if_named None = false
if_named (Some text) = is_name_of_login text.0

-- a string at the front of the bytes is such a name
unfoldable pub names_login : List ℕ → Bool
names_login bytes = if_named (string_at bytes)

-- a string somewhere in the message is such a name
unfoldable pub may_log_in : List ℕ → Bool
may_log_in [] = false
may_log_in (byte ∷ bytes) = names_login (byte ∷ bytes) || may_log_in bytes

-- it is the ending of a certificate's type
abbrev pub is_certificate_ending : List ℕ → Bool
is_certificate_ending ending =
    bytes_eq ending (codes "-cert-v01@openssh.com") || bytes_eq ending (codes "-cert-v00@openssh.com")

-- the name ends as those of certificates' types
unfoldable pub is_certificate_type : List ℕ → Bool
is_certificate_type name = is_certificate_ending (drop (length name - 21) name)

-- a text that was read is such a name
abbrev pub if_certificate : Option (List ℕ × List ℕ) → Bool
if_certificate None = false
if_certificate (Some text) = is_certificate_type text.0

-- the message begins with the name of a certificate's type
unfoldable pub begins_certificate : List ℕ → Bool
begins_certificate message = if_certificate (string_at message)
