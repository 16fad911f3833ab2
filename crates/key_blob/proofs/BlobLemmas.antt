-- The public fields of a blob, as they are joined while an addition is read.
use Rattle.std.proofs.Common.{◌≡◌, ℕ, ◌+◌, ◌-◌, ◌<◌, ◌≤◌, Bool, true, false, List, [], ◌∷◌, ◌++◌, length, get_or, take, drop, Result, Ok, Err, refl, sym, ap, ◌∙◌, append_assoc, arith}
use Rattle.std.specs.Prelude.{reverse, if◌then◌else◌}
use Rattle.std.proofs.lemmas.List.{append-nil, length-append, take_at, drop_at}
use Rattle.std.proofs.lemmas.List.Concat.{flat_map-append}
use Rattle.std.proofs.lemmas.Grind.{reverse_onto}
use Rattle.wire_text.specs.Wire.{string}
use Rattle.key_blob.specs.declared.fault.KeyFault.{KeyFault}
use Rattle.key_blob.specs.declared.key_type.Field.{Field as RowField}
use Rattle.key_blob.specs.declared.key_type.Field.TheVariants.{Any}
use Rattle.key_blob.specs.Rows.{field_of, fields_of}
use Rattle.key_blob.specs.KeyTypes.{Field, KeyType}
use Rattle.wire_core.specs.Readings.{◌>>=◌}
use Rattle.key_blob.specs.Reading.{strings, field_at, fields_at}
use Rattle.key_blob.proofs.ReadingLemmas.{with_content, fields_from, none_left}
use Rattle.key_blob.specs.AddedKeys.{blob_fields, blob_fields_at}

-- what comes later in an addition, joined to what is there
abbrev pub joined : Bool → List ℕ → List ℕ → List ℕ
joined is_reversed there later = if is_reversed then later ++ there else there ++ later

-- the public fields of a blob, of which some are there and the fields are still to be read
abbrev pub completed : KeyType → List ℕ → List Field → List ℕ → Result (List ℕ × List ℕ) KeyFault
completed type there fields bytes = fields_at fields bytes >>= λ read. Ok (joined type.is_reversed there (blob_fields type read.0), read.1)

-- the strings of contents in the order that is asked for
abbrev ordered : Bool → List (List ℕ) → List ℕ
ordered is_reversed contents = strings (if is_reversed then reverse contents else contents)

ordered-cons : (is_reversed : Bool) (there content : List ℕ) (contents : List (List ℕ)) →
    joined is_reversed there (ordered is_reversed (content ∷ contents)) ≡ joined is_reversed (joined is_reversed there (string content)) (ordered is_reversed contents)
ordered-cons true there content contents =
    ap (λ (all : List (List ℕ)). strings all ++ there) (reverse_onto contents content [])
    ∙ ap (λ (all : List ℕ). all ++ there) (flat_map-append string (reverse contents) (content ∷ []))
    ∙ ap (λ (last : List ℕ). (strings (reverse contents) ++ last) ++ there) (append-nil (string content))
    ∙ append_assoc (strings (reverse contents)) (string content) there
ordered-cons false there content contents = sym (append_assoc there (string content) (strings contents))

-- the fields that were read, joined to what is there
abbrev join_read : Bool → List ℕ → List (List ℕ) × List ℕ → Result (List ℕ × List ℕ) KeyFault
join_read is_reversed there read = Ok (joined is_reversed there (ordered is_reversed read.0), read.1)

completed_by : (is_reversed : Bool) (there content : List ℕ) (read : Result (List (List ℕ) × List ℕ) KeyFault) →
    (read >>= with_content content >>= join_read is_reversed there) ≡ (read >>= join_read is_reversed (joined is_reversed there (string content)))
completed_by is_reversed there content (Ok others) =
    let same = ordered-cons is_reversed there content others.0 in
    let answer : List ℕ → Result (List ℕ × List ℕ) KeyFault = λ all. Ok (all, others.1) in
    ap answer same
completed_by is_reversed there content (Err fault) = refl

-- a field that was read is joined to what is there
pub completed-read : (type : KeyType) (there : List ℕ) (field : Field) (fields : List Field) (bytes content rest : List ℕ) →
    field_at field bytes ≡ Ok (content, rest) →
    completed type there (field ∷ fields) bytes ≡ completed type (joined type.is_reversed there (string content)) fields rest
unfolding fields_at
completed-read type there field fields bytes content rest read =
    rw read (completed_by type.is_reversed there content (fields_at fields rest))

-- the first field's fault is the fault
pub completed-fault : (type : KeyType) (there : List ℕ) (field : Field) (fields : List Field) (bytes : List ℕ) (fault : KeyFault) →
    field_at field bytes ≡ Err fault → completed type there (field ∷ fields) bytes ≡ Err fault
unfolding fields_at
completed-fault type there field fields bytes fault read = rw read refl

none_later : (is_reversed : Bool) (there : List ℕ) → joined is_reversed there (ordered is_reversed []) ≡ there
none_later true there = refl
none_later false there = append-nil there

-- where no field is left, what is there is all
pub completed-none : (type : KeyType) (there bytes : List ℕ) → completed type there [] bytes ≡ Ok (there, bytes)
unfolding fields_at
completed-none type there bytes = ap (λ (all : List ℕ). Ok (all, bytes)) (none_later type.is_reversed there)

joined-none : (is_reversed : Bool) (later : List ℕ) → joined is_reversed [] later ≡ later
joined-none true later = append-nil later
joined-none false later = refl

-- the public fields of a blob, of the contents that were read
abbrev only_read : Bool → List (List ℕ) × List ℕ → Result (List ℕ × List ℕ) KeyFault
only_read is_reversed read = Ok (ordered is_reversed read.0, read.1)

all_by : (is_reversed : Bool) (read : Result (List (List ℕ) × List ℕ) KeyFault) → (read >>= join_read is_reversed []) ≡ (read >>= only_read is_reversed)
all_by is_reversed (Ok all) =
    let answer : List ℕ → Result (List ℕ × List ℕ) KeyFault = λ fields. Ok (fields, all.1) in
    ap answer (joined-none is_reversed (ordered is_reversed all.0))
all_by is_reversed (Err fault) = refl

-- where nothing is there, all is still to be read
pub completed-all : (type : KeyType) (bytes : List ℕ) → completed type [] type.added bytes ≡ blob_fields_at type bytes
unfolding blob_fields_at
completed-all type bytes = all_by type.is_reversed (fields_at type.added bytes)

-- ---- a reading that goes over the fields by their places, and comes to one total

module _ (type : KeyType) (fields : List RowField) (i : ℕ) (there bytes : List ℕ) (total : Result (List ℕ × List ℕ) KeyFault)
    (so_far : completed type there (fields_of (drop i fields)) bytes ≡ total) where
  -- a field that was read is joined to what is there
  pub blob_goes_on : (content rest now_there : List ℕ) → i < length fields → field_at (field_of (get_or fields i Any)) bytes ≡ Ok (content, rest) →
      now_there ≡ joined type.is_reversed there (string content) →
      completed type now_there (fields_of (drop (i + 1) fields)) rest ≡ total
  blob_goes_on content rest now_there inside read now_is =
      ap (λ (all : List ℕ). completed type all (fields_of (drop (i + 1) fields)) rest) now_is
      ∙ sym (completed-read type there (field_of (get_or fields i Any)) (fields_of (drop (i + 1) fields)) bytes content rest read)
      ∙ ap (λ (left : List Field). completed type there left bytes) (sym (fields_from fields i inside)) ∙ so_far

  -- its fault is the total's
  pub blob_stops : (fault : KeyFault) → i < length fields → field_at (field_of (get_or fields i Any)) bytes ≡ Err fault → total ≡ Err fault
  blob_stops fault inside read =
      sym so_far ∙ ap (λ (left : List Field). completed type there left bytes) (fields_from fields i inside)
      ∙ completed-fault type there (field_of (get_or fields i Any)) (fields_of (drop (i + 1) fields)) bytes fault read

  -- behind the last field, what is there is all
  pub blob_ends : length fields ≤ i → total ≡ Ok (there, bytes)
  blob_ends past = sym so_far ∙ ap (λ (left : List Field). completed type there left bytes) (none_left fields i past) ∙ completed-none type there bytes

-- a rotation by the length of the last part puts it in front
pub rotated : (s t : List ℕ) (n k : ℕ) → n ≡ length (s ++ t) → k ≡ length t → drop (n - k) (s ++ t) ++ take (n - k) (s ++ t) ≡ t ++ s
rotated s t n k size part =
    let cut : length s ≡ n - k = omega (arith, length-append s t) in
    rw (drop_at s t (n - k) cut, take_at s t (n - k) cut) refl
