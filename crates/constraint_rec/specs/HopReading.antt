-- What reading destination constraints from left to right gives: the constraints, or the first fault.
-- A hop is judged when its keys were read, and a key before the byte behind it is read.
use Rattle.std.specs.Prelude.{ℕ, zero, suc, Bool, not, List, [], ◌∷◌, length, Result, Ok, Err, is_ok, ◌==◌, if◌then◌else◌}
use Rattle.std.specs.Option.{ok_or}
use Rattle.wire_core.specs.Fields.{string_at, boolean_at}
use Rattle.wire_core.specs.Readings.{◌>>=◌, IsAnswerUnless}
use Rattle.key_blob.specs.PublicKeys.{public_key_of}
use Rattle.constraint_rec.specs.declared.fault.TermFault.{TermFault}
use Rattle.constraint_rec.specs.declared.fault.TermFault.TheVariants.{Short, Reserved, FromUser, FromHalf, ToHalf, NoRules, Key, Memory}
use Rattle.constraint_rec.specs.declared.key_spec.KeySpec.{KeySpec}
use Rattle.constraint_rec.specs.declared.constraint.Hop.{Hop}
use Rattle.constraint_rec.specs.declared.constraint.Constraint.{Constraint}

-- the code's answer is that of the definition, unless memory ran out
abbrev pub IsReadingOf : {A : Type 0} → Result A TermFault → Result A TermFault → Type 0
IsReadingOf defined result = IsAnswerUnless Memory (λ value. value) result defined

-- the list has no element
abbrev pub is_empty : {A : Type 0} → List A → Bool
is_empty list = length list == 0

-- the field at the front, and the bytes that follow
abbrev pub field_at : List ℕ → Result (List ℕ × List ℕ) TermFault
field_at bytes = ok_or (string_at bytes) Short

-- ---- one after another

-- the elements that `one` reads to the end of the bytes, at most so many of them
unfoldable pub all_up_to : {A : Type 0} → (List ℕ → Result (A × List ℕ) TermFault) → ℕ → List ℕ → Result (List A) TermFault
all_up_to one zero bytes = Ok []
all_up_to one (suc count) [] = Ok []
all_up_to one (suc count) (byte ∷ rest) = do
  first ← one (byte ∷ rest)
  others ← all_up_to one count first.1
  Ok (first.0 ∷ others)

-- the elements that `one` reads to the end of the bytes: each takes a byte at least
unfoldable pub all_of : {A : Type 0} → (List ℕ → Result (A × List ℕ) TermFault) → List ℕ → Result (List A) TermFault
all_of one bytes = all_up_to one (length bytes) bytes

-- ---- hops

-- a blob that was read, where it is a key's
abbrev pub readable : List ℕ × List ℕ → Result (List ℕ × List ℕ) TermFault
readable found = if is_ok (public_key_of found.0) then Ok found else Err Key

-- a key: blob, is_ca
unfoldable pub key_at : List ℕ → Result (KeySpec × List ℕ) TermFault
key_at bytes = do
  field ← field_at bytes
  blob ← readable field
  is_ca ← ok_or (boolean_at blob.1) Short
  Ok (record { blob = blob.0; authority = is_ca.0 }, is_ca.1)

-- the bytes that follow a reserved string, where it is empty
unfoldable pub after_reserved : List ℕ → Result (List ℕ) TermFault
after_reserved bytes = do
  field ← field_at bytes
  if is_empty field.0 then Ok field.1 else Err Reserved

-- a hop that is all of the bytes: user, hostname, reserved, keys
unfoldable pub hop_in : List ℕ → Result Hop TermFault
hop_in bytes = do
  user ← field_at bytes
  host ← field_at user.1
  rest ← after_reserved host.1
  keys ← all_of key_at rest
  Ok (record { user = user.0; host = host.0; keys = keys })

-- the hop, where it may be one that is left: a user is a fault before a hostname without keys or keys
-- without a hostname is
unfoldable pub as_from : Hop → Result Hop TermFault
as_from hop =
    if not (is_empty hop.user) then Err FromUser
    else if is_empty hop.host then (if is_empty hop.keys then Ok hop else Err FromHalf)
    else if is_empty hop.keys then Err FromHalf
    else Ok hop

-- the hop, where it may be one that is entered: it has a hostname and keys
unfoldable pub as_to : Hop → Result Hop TermFault
as_to hop =
    if is_empty hop.host then Err ToHalf
    else if is_empty hop.keys then Err ToHalf
    else Ok hop

-- ---- constraints

-- the bytes that follow a hop, behind it
abbrev pub hop_at : (Hop → Result Hop TermFault) → List ℕ → Result (Hop × List ℕ) TermFault
hop_at judged bytes = do
  field ← field_at bytes
  hop ← hop_in field.0
  good ← judged hop
  Ok (good, field.1)

-- a constraint that is all of the bytes: from-hop, to-hop, reserved
unfoldable pub constraint_in : List ℕ → Result Constraint TermFault
constraint_in bytes = do
  from ← hop_at as_from bytes
  to ← hop_at as_to from.1
  rest ← after_reserved to.1
  if is_empty rest then Ok (record { from = from.0; to = to.0 }) else Err Short

-- a constraint as a string, and the bytes that follow
unfoldable pub constraint_at : List ℕ → Result (Constraint × List ℕ) TermFault
constraint_at bytes = do
  field ← field_at bytes
  constraint ← constraint_in field.0
  Ok (constraint, field.1)

-- constraints, of which there have to be some
abbrev pub some_rules : List Constraint → Result (List Constraint) TermFault
some_rules [] = Err NoRules
some_rules (rule ∷ rules) = Ok (rule ∷ rules)

-- constraints that are all of the bytes
unfoldable pub rules_in : List ℕ → Result (List Constraint) TermFault
rules_in bytes = all_of constraint_at bytes >>= some_rules
