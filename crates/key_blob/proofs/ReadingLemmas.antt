-- Steps of reading fields from left to right.
use Rattle.std.proofs.Common.{◌≡◌, ℕ, ◌+◌, ◌≤◌, ◌<◌, List, [], ◌∷◌, length, get_or, drop, Result, Ok, Err, refl, sym, ap, ◌∙◌}
use Rattle.std.proofs.lemmas.List.{drop_more, drop_all}
use Rattle.key_blob.specs.declared.fault.KeyFault.{KeyFault}
use Rattle.key_blob.specs.declared.key_type.Field.{Field as RowField}
use Rattle.key_blob.specs.declared.key_type.Field.TheVariants.{Any}
use Rattle.key_blob.specs.Rows.{field_of, fields_of}
use Rattle.key_blob.specs.KeyTypes.{Field}
use Rattle.wire_core.specs.Readings.{◌>>=◌}
use Rattle.key_blob.specs.Reading.{field_at, fields_at, after_fields}

-- a content in front of others that were read
abbrev pub with_content : List ℕ → List (List ℕ) × List ℕ → Result (List (List ℕ) × List ℕ) KeyFault
with_content content others = Ok (content ∷ others.0, others.1)

-- the bytes that follow the contents
abbrev pub rest_of : List (List ℕ) × List ℕ → Result (List ℕ) KeyFault
rest_of read = Ok read.1

-- what follows is the same, whether the first content is kept or not
same_rest : (content : List ℕ) (read : Result (List (List ℕ) × List ℕ) KeyFault) → (read >>= with_content content >>= rest_of) ≡ (read >>= rest_of)
same_rest content (Ok others) = refl
same_rest content (Err fault) = refl

-- a field that was read is passed over
pub after_fields-read : (field : Field) (fields : List Field) (bytes content rest : List ℕ) → field_at field bytes ≡ Ok (content, rest) →
    after_fields (field ∷ fields) bytes ≡ after_fields fields rest
unfolding after_fields fields_at
after_fields-read field fields bytes content rest read = rw read (same_rest content (fields_at fields rest))

-- the first field's fault is the fault
pub after_fields-fault : (field : Field) (fields : List Field) (bytes : List ℕ) (fault : KeyFault) → field_at field bytes ≡ Err fault →
    after_fields (field ∷ fields) bytes ≡ Err fault
unfolding after_fields fields_at
after_fields-fault field fields bytes fault read = rw read refl

-- no field is read at once
pub after_fields-none : (bytes : List ℕ) → after_fields [] bytes ≡ Ok bytes
unfolding after_fields fields_at
after_fields-none bytes = refl

-- the fields from place i on are the one there and those behind it
pub fields_from : (fields : List RowField) (i : ℕ) → i < length fields →
    fields_of (drop i fields) ≡ field_of (get_or fields i Any) ∷ fields_of (drop (i + 1) fields)
fields_from fields i inside = ap fields_of (drop_more fields i Any inside)

-- behind the last field is none
pub none_left : (fields : List RowField) (i : ℕ) → length fields ≤ i → fields_of (drop i fields) ≡ []
none_left fields i past = ap fields_of (drop_all i fields past)

-- ---- a reading that goes over the fields by their places, and comes to one total

module _ (fields : List RowField) (i : ℕ) (bytes : List ℕ) (total : Result (List ℕ) KeyFault)
    (so_far : after_fields (fields_of (drop i fields)) bytes ≡ total) where
  -- a field that was read is passed over
  pub rest_goes_on : (content rest : List ℕ) → i < length fields → field_at (field_of (get_or fields i Any)) bytes ≡ Ok (content, rest) →
      after_fields (fields_of (drop (i + 1) fields)) rest ≡ total
  rest_goes_on content rest inside read =
      sym (after_fields-read (field_of (get_or fields i Any)) (fields_of (drop (i + 1) fields)) bytes content rest read)
      ∙ ap (λ (left : List Field). after_fields left bytes) (sym (fields_from fields i inside)) ∙ so_far

  -- its fault is the total's
  pub rest_stops : (fault : KeyFault) → i < length fields → field_at (field_of (get_or fields i Any)) bytes ≡ Err fault → total ≡ Err fault
  rest_stops fault inside read =
      sym so_far ∙ ap (λ (left : List Field). after_fields left bytes) (fields_from fields i inside)
      ∙ after_fields-fault (field_of (get_or fields i Any)) (fields_of (drop (i + 1) fields)) bytes fault read

  -- behind the last field, what is left is the total
  pub rest_ends : length fields ≤ i → total ≡ Ok bytes
  rest_ends past = sym so_far ∙ ap (λ (left : List Field). after_fields left bytes) (none_left fields i past) ∙ after_fields-none bytes
