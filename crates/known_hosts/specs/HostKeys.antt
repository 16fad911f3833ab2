-- The keys that a file of known hosts has for a host.
use Rattle.std.specs.Prelude.{◌≡◌, ℕ, ◌-◌, ◌==◌, List, length, take, slice_index, Option, None, Some, if◌then◌else◌}
use Rattle.std.specs.List.{filter_map}
use Rattle.std.specs.Option.{option_map}
use Rattle.std.specs.Result.{result_ok}
use Rattle.constraint_rec.specs.declared.key_spec.KeySpec.{KeySpec}
use Rattle.key_file.specs.PublicLines.{IsTyped, typed_key}
use Rattle.known_hosts.specs.declared.parts.Mark.TheVariants.{Line}
use Rattle.known_hosts.specs.Entries.{Entry, IsEntry, entry_in}
use Rattle.known_hosts.specs.Hosts.{TakesIn, takes_in}
use Rattle.known_hosts.specs.Parts.{parts}

-- the line has this key for the host
pub record IsLineKey (host line : List ℕ) (key : KeySpec) : Type 0 where
  pub entry : Entry
  pub is_entry : IsEntry line entry
  pub takes_in : TakesIn entry.hosts host
  pub typed : IsTyped entry.type_name entry.encoded key.blob
  pub authority : key.authority ≡ entry.authority

-- ---- reading

-- the line without a CR at its end
abbrev pub without_return : List ℕ → List ℕ
without_return line =
    if slice_index line (length line - 1) == 13 then take (length line - 1) line else line

-- the key of an entry, where its blob is read and is of the type that the line names
abbrev pub entry_key : Entry → Option KeySpec
entry_key entry =
    option_map (λ blob. record { blob = blob; authority = entry.authority })
    (result_ok (typed_key entry.type_name entry.encoded))

-- the key of an entry that takes in the host
abbrev pub key_for : List ℕ → Option Entry → Option KeySpec
key_for host None = None
key_for host (Some entry) = if takes_in entry.hosts host then entry_key entry else None

-- the key that the line has for the host, where it has one
unfoldable pub line_key : List ℕ → List ℕ → Option KeySpec
line_key host line = key_for host (entry_in line)

-- the keys of lines that end with LF or CR LF
abbrev pub keys_in : List ℕ → List (List ℕ) → List KeySpec
keys_in host lines = filter_map (λ line. line_key host (without_return line)) lines

-- the keys of a file, in the order of its lines
unfoldable pub host_keys_of : List ℕ → List ℕ → List KeySpec
host_keys_of text host = keys_in host (parts Line text)
