-- The keys of lines and of files.
use Rattle.std.proofs.Common.{◌≡◌, ◌≢◌, ℕ, ◌+◌, ◌-◌, Bool, true, false, cond, List, [], ◌∷◌, ◌++◌, length, get_or, Option, Some, None, Result, Ok, Err, refl, sym, ap, subst, ◌∙◌, arith}
use Rattle.std.specs.Prelude.{All, codes}
use Rattle.std.specs.List.{cons_option}
use Rattle.std.specs.Option.{option_map, option_to_list}
use Rattle.std.specs.Result.{result_ok}
use Rattle.std.proofs.lemmas.List.{length-append, take_at, append_assoc}
use Rattle.std.proofs.Math.Seq.{get_or-append_right}
use Rattle.std.proofs.lemmas.List.Elements.{All-append, All-cons, All-tail}
use Rattle.wire_text.specs.Wire.{IsBytes}
use Rattle.constraint_rec.specs.declared.key_spec.KeySpec.{KeySpec}
use Rattle.key_file.specs.declared.fault.PubFault.{PubFault}
use Rattle.key_file.specs.PublicLines.{typed_key}
use Rattle.key_file.proofs.LineLemmas.{typed_is_found, typed_is_read}
use Rattle.key_file.proofs.PartLemmas.{parts-at}
use Rattle.known_hosts.specs.declared.parts.Mark.TheVariants.{Line}
use Rattle.known_hosts.specs.Parts.{IsLine, parts, fields_of}
use Rattle.known_hosts.specs.Entries.{Entry, IsEntry, markers, entry_in, marked_entry}
use Rattle.known_hosts.specs.Hosts.{TakesIn, takes_in}
use Rattle.known_hosts.specs.HostKeys.{IsLineKey, without_return, entry_key, key_for, line_key, keys_in, host_keys_of}
use Rattle.known_hosts.proofs.EntryLemmas.{field_bytes, entry_is, entry_again}
use Rattle.known_hosts.proofs.HostLemmas.{takes_in_is, takes_in_again}

-- ---- a line

-- the three fields of an entry are bytes
record AreBytes (entry : Entry) : Type 0 where
  hosts : IsBytes entry.hosts
  encoded : IsBytes entry.encoded

three_bytes : (markers : List (List ℕ)) (hosts type encoded : List ℕ) (more : List (List ℕ))
    → All IsBytes (markers ++ (hosts ∷ type ∷ encoded ∷ more)) →
    IsBytes hosts × IsBytes encoded
three_bytes [] hosts type encoded more each = (each 0 [] (omega arith), each 2 [] (omega arith))
three_bytes (marker ∷ others) hosts type encoded more each = three_bytes others hosts type encoded more (All-tail IsBytes marker (others ++ (hosts ∷ type ∷ encoded ∷ more)) each)

record IsEntryKey (entry : Entry) (key : KeySpec) : Type 0 where
  typed : typed_key entry.type_name entry.encoded ≡ Ok key.blob
  authority : key.authority ≡ entry.authority

key_by : (entry : Entry) (key : KeySpec) (read : Result (List ℕ) PubFault)
    → typed_key entry.type_name entry.encoded ≡ read →
    option_map (λ (blob : List ℕ). record { blob = blob; authority = entry.authority }) (result_ok read) ≡ Some key → IsEntryKey entry key
key_by entry key (Ok blob) is e =
    let made : KeySpec = record { blob = blob; authority = entry.authority } in
    let same : made ≡ key = cc in
    subst (IsEntryKey entry) same (record { typed = is; authority = refl })
key_by entry key (Err fault) is e = absurd cc

record IsTaken (host : List ℕ) (entry : Entry) (key : KeySpec) : Type 0 where
  taken : takes_in entry.hosts host ≡ true
  key_is : entry_key entry ≡ Some key

taken_by : (host : List ℕ) (entry : Entry) (key : KeySpec) (test : Bool)
    → takes_in entry.hosts host ≡ test → cond test (entry_key entry) None ≡ Some key
    → IsTaken host entry key
taken_by host entry key true is e = record { taken = is; key_is = e }
taken_by host entry key false is e = absurd cc

line_by : (host line : List ℕ) (key : KeySpec) (found : Option Entry) → IsBytes line
    → entry_in line ≡ found → key_for host found ≡ Some key → IsLineKey host line key
line_by host line key None small is e = absurd cc
line_by host line key (Some entry) small is e =
    let t = taken_by host entry key (takes_in entry.hosts host) refl e in
    let k = key_by entry key (typed_key entry.type_name entry.encoded) refl t.key_is in
    let found = entry_is line entry is in
    let bytes = three_bytes (markers entry.authority) entry.hosts entry.type_name entry.encoded found.more (subst (All IsBytes) found.fields (field_bytes line small)) in
    record {
      entry = entry;
      is_entry = found;
      takes_in = takes_in_is entry.hosts host bytes.0 t.taken;
      typed = typed_is_found entry.type_name entry.encoded key.blob bytes.1 k.typed;
      authority = k.authority;
    }

pub line_is_found : (host line : List ℕ) (key : KeySpec) → IsBytes line
    → line_key host line ≡ Some key → IsLineKey host line key
unfolding line_key
line_is_found host line key small e = line_by host line key (entry_in line) small refl e

key_with : (key : KeySpec) (authority : Bool) → key.authority ≡ authority → Some (record { blob = key.blob; authority = authority }) ≡ Some key
key_with key authority same = ap (λ (a : Bool). Some (record { blob = key.blob; authority = a })) (sym same)

pub line_is_read : (host line : List ℕ) (key : KeySpec) → IsLineKey host line key
    → line_key host line ≡ Some key
unfolding line_key
line_is_read host line key is =
    rw (
      entry_again line is.entry is.is_entry,
      takes_in_again is.entry.hosts host is.takes_in,
      typed_is_read is.entry.type_name is.entry.encoded key.blob is.typed,
    ) (key_with key is.entry.authority is.authority)

other_host : (field host : List ℕ) (test : Bool) → IsBytes field → takes_in field host ≡ test
    → (TakesIn field host → ⊥) → test ≡ false
other_host field host true small is other = absurd (other (takes_in_is field host small is))
other_host field host false small is other = refl

pub others_add_nothing : (host line : List ℕ) (entry : Entry) → IsBytes line → IsEntry line entry
    → (TakesIn entry.hosts host → ⊥) → line_key host line ≡ None
unfolding line_key
others_add_nothing host line entry small is other =
    let bytes = three_bytes (markers entry.authority) entry.hosts entry.type_name entry.encoded is.more (subst (All IsBytes) is.fields (field_bytes line small)) in
    rw (entry_again line entry is, other_host entry.hosts host (takes_in entry.hosts host) bytes.0 refl other) refl

revoked_by : (host : List ℕ) (comment : Bool) → key_for host (cond comment None None) ≡ None
revoked_by host true = refl
revoked_by host false = refl

pub revoked_adds_nothing : (host line : List ℕ) (rest : List (List ℕ))
    → fields_of line ≡ codes "@revoked" ∷ rest → line_key host line ≡ None
unfolding line_key entry_in marked_entry
revoked_adds_nothing host line rest fields = rw fields (revoked_by host _)

-- ---- a file

onto_keys : (key : Option KeySpec) (keys : List KeySpec)
    → cons_option key keys ≡ option_to_list key ++ keys
onto_keys (Some key) keys = refl
onto_keys None keys = refl

pub keys_behind : (host line rest : List ℕ) → IsLine line
    → host_keys_of (line ++ 10 ∷ rest) host ≡ option_to_list (line_key host (without_return line)) ++ host_keys_of rest host
unfolding host_keys_of
keys_behind host line rest is =
    ap (keys_in host) (parts-at 10 line rest is) ∙ onto_keys (line_key host (without_return line)) (keys_in host (parts Line rest))

-- the byte behind a line
last_of : (line : List ℕ) → get_or (line ++ 13 ∷ []) (length line) 0 ≡ 13
last_of line =
    let none_left : length line - length line ≡ 0 = omega arith in
    get_or-append_right line (13 ∷ []) (length line) 0 (omega arith) ∙ ap (λ (i : ℕ). get_or (13 ∷ []) i 0) none_left

-- a CR ends no line
return_goes_on : IsLine (13 ∷ [])
return_goes_on = All-cons (λ byte. byte ≢ 10) 13 [] (λ same. absurd (omega (arith, same))) (λ i d within. absurd (omega arith))

-- a CR behind a line is dropped
without_last : (line : List ℕ) → without_return (line ++ 13 ∷ []) ≡ line
without_last line =
    let len : length (line ++ 13 ∷ []) ≡ length line + 1 = length-append line (13 ∷ []) in
    let before : length (line ++ 13 ∷ []) - 1 ≡ length line = omega (arith, len) in
    rw (before, last_of line) (take_at line (13 ∷ []) (length line) refl)

pub return_dropped : (host line rest : List ℕ) → IsLine line → without_return line ≡ line →
    host_keys_of (line ++ 13 ∷ 10 ∷ rest) host ≡ host_keys_of (line ++ 10 ∷ rest) host
return_dropped host line rest is plain =
    let whole : IsLine (line ++ 13 ∷ []) = All-append (λ byte. byte ≢ 10) line (13 ∷ []) is return_goes_on in
    ap (λ (text : List ℕ). host_keys_of text host) (sym (append_assoc line (13 ∷ []) (10 ∷ rest)))
    ∙ keys_behind host (line ++ 13 ∷ []) rest whole
    ∙ ap (λ (l : List ℕ). option_to_list (line_key host l) ++ host_keys_of rest host) (without_last line ∙ sym plain)
    ∙ sym (keys_behind host line rest is)
