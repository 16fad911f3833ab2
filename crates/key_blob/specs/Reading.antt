-- Fields, as the table has them, and what reading them from left to right gives: their contents and
-- the bytes that follow, or the first fault.
use Rattle.std.specs.Prelude.{◌≡◌, ℕ, ◌^◌, ◌<◌, ◌≤◌, ◌-◌, nat_lt, List, [], ◌∷◌, length, take, Result, Ok, Err, ◌==◌, if◌then◌else◌}
use Rattle.std.specs.List.{flat_map}
use Rattle.std.specs.Option.{ok_or}
use Rattle.std.specs.Str.{bytes_eq}
use Rattle.wire_text.specs.Wire.{string}
use Rattle.wire_core.specs.Fields.{string_at}
use Rattle.wire_core.specs.Readings.{◌>>=◌}
use Rattle.key_blob.specs.declared.fault.KeyFault.{KeyFault}
use Rattle.key_blob.specs.declared.fault.KeyFault.TheVariants.{Short, UnknownType, BadLength, Mismatch}
use Rattle.key_blob.specs.declared.form.Form.{Form}
use Rattle.key_blob.specs.Digits.{digits_of}
use Rattle.key_blob.specs.KeyTypes.{Field, any, number, sized, text, form_named}

-- ---- what fields are

-- a content that the field may hold
abbrev pub IsContent : Field → List ℕ → Type 0
IsContent any content = Unit {0}
IsContent number content = digits_of content ≤ 16384
IsContent (sized len) content = length content ≡ len
IsContent (text bytes) content = content ≡ bytes

-- contents that the fields may hold, each short enough for a string
abbrev pub AreContents : List Field → List (List ℕ) → Type 0
AreContents [] [] = Unit {0}
AreContents [] (content ∷ contents) = ⊥
AreContents (field ∷ fields) [] = ⊥
AreContents (field ∷ fields) (content ∷ contents) =
    (length content < 2 ^ 32) × IsContent field content × AreContents fields contents

-- the contents, each as a string
abbrev pub strings : List (List ℕ) → List ℕ
strings contents = flat_map string contents

-- ---- reading from left to right

-- a content that was read, where the field may hold it
abbrev pub checked : Field → List ℕ × List ℕ → Result (List ℕ × List ℕ) KeyFault
checked any found = Ok found
checked number found = if nat_lt 16384 (digits_of found.0) then Err BadLength else Ok found
checked (sized len) found = if length found.0 == len then Ok found else Err BadLength
checked (text bytes) found = if bytes_eq found.0 bytes then Ok found else Err Mismatch

-- the content of a field, and the bytes that follow
unfoldable pub field_at : Field → List ℕ → Result (List ℕ × List ℕ) KeyFault
field_at field bytes = ok_or (string_at bytes) Short >>= checked field

-- the contents of the fields, and the bytes that follow
unfoldable pub fields_at : List Field → List ℕ → Result (List (List ℕ) × List ℕ) KeyFault
fields_at [] bytes = Ok ([], bytes)
fields_at (field ∷ fields) bytes = do
  first ← field_at field bytes
  others ← fields_at fields first.1
  Ok (first.0 ∷ others.0, others.1)

-- the bytes that follow the fields
unfoldable pub after_fields : List Field → List ℕ → Result (List ℕ) KeyFault
after_fields fields bytes = fields_at fields bytes >>= λ read. Ok read.1

-- the type whose name is at the front, and the bytes that follow
unfoldable pub form_at : List ℕ → Result (Form × List ℕ) KeyFault
form_at bytes = do
  name ← ok_or (string_at bytes) Short
  form ← ok_or (form_named name.0) UnknownType
  Ok (form, name.1)

-- the bytes in front of those that are left
abbrev pub taken : List ℕ → List ℕ → List ℕ
taken bytes rest = take (length bytes - length rest) bytes
