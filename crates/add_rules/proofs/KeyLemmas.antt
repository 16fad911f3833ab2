-- The keys that files of known hosts have can be read.
use Rattle.std.proofs.Common.{◌≡◌, ℕ, Bool, true, false, cond, List, [], ◌∷◌, Option, Some, None, Result, Ok, Err, refl, ap, subst}
use Rattle.std.specs.Prelude.{All, IsOk, is_ok}
use Rattle.std.specs.List.{cons_option}
use Rattle.std.specs.Option.{ok_or, option_map}
use Rattle.std.specs.Result.{result_ok}
use Rattle.std.specs.Str.{bytes_eq}
use Rattle.std.proofs.lemmas.List.Elements.{All-nil, All-cons, All-append}
use Rattle.key_blob.specs.declared.fault.KeyFault.{KeyFault}
use Rattle.key_blob.specs.PublicKeys.{KeyParts, public_key_of}
use Rattle.key_file.specs.declared.fault.PubFault.{PubFault}
use Rattle.key_file.specs.declared.fault.PubFault.TheVariants.{Base64, OtherType}
use Rattle.key_file.specs.Base64.{bytes_of}
use Rattle.key_file.specs.PublicLines.{of_type, typed_key}
use Rattle.key_file.proofs.StepLemmas.{line_bind_ok, guard_ok}
use Rattle.constraint_rec.specs.declared.key_spec.KeySpec.{KeySpec}
use Rattle.constraint_rec.specs.Hops.{IsReadable}
use Rattle.known_hosts.specs.declared.parts.Mark.TheVariants.{Line}
use Rattle.known_hosts.specs.Parts.{parts}
use Rattle.known_hosts.specs.Entries.{Entry, entry_in}
use Rattle.known_hosts.specs.Hosts.{takes_in}
use Rattle.known_hosts.specs.HostKeys.{without_return, entry_key, key_for, line_key, keys_in, host_keys_of}
use Rattle.add_rules.specs.Rules.{keys_of}

-- ---- a key

-- a blob that was read as a key of the type
of_type_readable : (type made blob : List ℕ) (read : Result KeyParts KeyFault)
    → public_key_of made ≡ read → of_type type made read ≡ Ok blob → IsOk (public_key_of blob)
of_type_readable type made blob (Ok key) is e =
    let same : made ≡ blob = (guard_ok (bytes_eq key.type_name type) OtherType made blob e).1 in
    subst (λ (b : List ℕ). IsOk (public_key_of b)) same (ap is_ok is)
of_type_readable type made blob (Err fault) is e = absurd cc

typed_readable : (type text blob : List ℕ) → typed_key type text ≡ Ok blob
    → IsOk (public_key_of blob)
unfolding typed_key
typed_readable type text blob e =
    let a = line_bind_ok (ok_or (bytes_of text) Base64) (λ made. of_type type made (public_key_of made)) blob e in
    of_type_readable type a.0 blob (public_key_of a.0) refl a.2

-- ---- a line

entry_readable : (entry : Entry) (key : KeySpec) (read : Result (List ℕ) PubFault)
    → typed_key entry.type_name entry.encoded ≡ read
    → option_map (λ (blob : List ℕ). record { blob = blob; authority = entry.authority }) (result_ok read) ≡ Some key → IsReadable key
entry_readable entry key (Ok blob) is e =
    let made : KeySpec = record { blob = blob; authority = entry.authority } in
    let same : made ≡ key = cc in
    subst IsReadable same (typed_readable entry.type_name entry.encoded blob is)
entry_readable entry key (Err fault) is e = absurd cc

some_guard : (b : Bool) (made : Option KeySpec) (key : KeySpec) → cond b made None ≡ Some key
    → made ≡ Some key
some_guard true made key e = e
some_guard false made key e = absurd cc

key_readable : (host : List ℕ) (found : Option Entry) (key : KeySpec)
    → key_for host found ≡ Some key → IsReadable key
key_readable host None key e = absurd cc
key_readable host (Some entry) key e =
    let g = some_guard (takes_in entry.hosts host) (entry_key entry) key e in
    entry_readable entry key (typed_key entry.type_name entry.encoded) refl g

line_readable : (host line : List ℕ) (key : KeySpec) → line_key host line ≡ Some key
    → IsReadable key
unfolding line_key
line_readable host line key e = key_readable host (entry_in line) key e

-- ---- files

onto_readable : (found : Option KeySpec) (keys : List KeySpec)
    → ((key : KeySpec) → found ≡ Some key → IsReadable key) → All IsReadable keys
    → All IsReadable (cons_option found keys)
onto_readable None keys one others = others
onto_readable (Some key) keys one others = All-cons IsReadable key keys (one key refl) others

lines_readable : (host : List ℕ) (lines : List (List ℕ)) → All IsReadable (keys_in host lines)
lines_readable host [] = All-nil IsReadable
lines_readable host (line ∷ lines) =
    onto_readable (line_key host (without_return line)) (keys_in host lines) (line_readable host (without_return line)) (lines_readable host lines)

file_readable : (file host : List ℕ) → All IsReadable (host_keys_of file host)
unfolding host_keys_of
file_readable file host = lines_readable host (parts Line file)

-- the keys of all files
pub keys_readable : (files : List (List ℕ)) (host : List ℕ) → All IsReadable (keys_of files host)
keys_readable [] host = All-nil IsReadable
keys_readable (file ∷ files) host =
    All-append IsReadable (host_keys_of file host) (keys_of files host) (file_readable file host) (keys_readable files host)
