-- Lines with a host key that counts: of hosts or, after a marker, of an authority (sshd(8),
-- "SSH_KNOWN_HOSTS FILE FORMAT"). Lines with another marker, `@revoked` too, have none (ours).
use Rattle.std.specs.Prelude.{◌≡◌, ◌≢◌, ℕ, nat_eq, Bool, true, false, List, [], ◌∷◌, ◌++◌, Option, None, Some, codes, if◌then◌else◌}
use Rattle.std.specs.List.{starts_with}
use Rattle.std.specs.Str.{bytes_eq}
use Rattle.known_hosts.specs.declared.entry.Entry.{Entry as CodeEntry}
use Rattle.known_hosts.specs.Parts.{fields_of}

-- the fields of a line, without where they lie in memory
pub record Entry : Type 0 where
  -- patterns, or one host hashed
  pub hosts : List ℕ
  -- the name of the key's type
  pub type_name : List ℕ
  -- the base64 of the key's blob
  pub encoded : List ℕ
  -- the key is an authority
  pub authority : Bool

-- the code's entry as its fields
abbrev pub entry : CodeEntry → Entry
entry made = record {
  hosts = made.hosts.now;
  type_name = made.type_name.now;
  encoded = made.encoded.now;
  authority = made.authority;
}

-- the marker of authorities
abbrev pub authority_marker : List ℕ
authority_marker = codes "@cert-authority"

-- the fields in front of the host field
abbrev pub markers : Bool → List (List ℕ)
markers true = authority_marker ∷ []
markers false = []

-- the field may stand where a marker may: one that begins with `@` is a marker
abbrev pub IsUnmarked : Bool → List ℕ → Type 0
IsUnmarked true hosts = Unit {0}
IsUnmarked false hosts = (rest : List ℕ) → hosts ≢ 64 ∷ rest

-- the line is this entry: its fields are, and it is no comment
pub record IsEntry (line : List ℕ) (entry : Entry) : Type 0 where
  pub no_comment : (rest : List ℕ) → line ≢ 35 ∷ rest
  pub more : List (List ℕ)
  pub fields : fields_of line
      ≡ markers entry.authority ++ (entry.hosts ∷ entry.type_name ∷ entry.encoded ∷ more)
  pub unmarked : IsUnmarked entry.authority entry.hosts

-- ---- reading

-- the entry of a host field and the fields behind it; what follows the key isn't read
unfoldable pub entry_with : Bool → List ℕ → List (List ℕ) → Option Entry
entry_with authority hosts (type_name ∷ encoded ∷ more) = Some record {
  hosts = hosts;
  type_name = type_name;
  encoded = encoded;
  authority = authority;
}
entry_with authority hosts (type_name ∷ []) = None
entry_with authority hosts [] = None

-- the entry of an authority, behind its marker
abbrev pub authority_entry : List (List ℕ) → Option Entry
authority_entry [] = None
authority_entry (hosts ∷ rest) = entry_with true hosts rest

-- the entry of these fields, of which the first may be a marker
unfoldable pub marked_entry : List (List ℕ) → Option Entry
marked_entry [] = None
marked_entry (first ∷ rest) =
    if starts_with nat_eq first (codes "@")
    then (if bytes_eq first authority_marker then authority_entry rest else None)
    else entry_with false first rest

-- the entry that the line is, where it is one
unfoldable pub entry_in : List ℕ → Option Entry
entry_in line = if starts_with nat_eq line (codes "#") then None else marked_entry (fields_of line)
