-- Lines of a schedule (ours): docs/PROTOCOL.md, "Schedules".
use Rattle.std.specs.Prelude.{◌≡◌, ◌⊎◌, ℕ, ◌==◌, nat_lt, if◌then◌else◌, bytes_eq, codes, length, List, [], ◌∷◌, Result, Ok, Err, ok_or}
use Rattle.world_ports.specs.declared.Door.TheVariants.{Clients, Children}
use Rattle.schedule_text.specs.declared.fault.LineFault.{LineFault}
use Rattle.schedule_text.specs.declared.fault.LineFault.TheVariants.{Hex, Memory, Number, TooLong, Word}
use Rattle.schedule_text.specs.declared.step.Step.{Step}
use Rattle.schedule_text.specs.declared.step.Step.TheVariants.{Skip, Format2, At, Join, Hear, End, Hold, Free, Take, Started, Failed}
use Rattle.schedule_text.specs.Fields.{fields_of}
use Rattle.schedule_text.specs.Numbers.{bytes_of, number_of}

-- the fault is that of a reading, or want of memory
abbrev pub IsFaultOf : {A : Type 0} → Result A LineFault → LineFault → Type 0
IsFaultOf reading fault = (fault ≡ Memory) ⊎ (reading ≡ Err fault)

-- the second reading, where the first found no fault
infixl 10 ◌>>=◌
abbrev pub ◌>>=◌ : {A B : Type 0} → Result A LineFault → (A → Result B LineFault) → Result B LineFault
Ok x >>= f = f x
Err fault >>= f = Err fault

-- the number that a field writes
abbrev pub number_field : List ℕ → Result ℕ LineFault
number_field field = ok_or (number_of field) Number

-- the number that a field writes, which is no 0
abbrev pub count_field : List ℕ → Result ℕ LineFault
count_field field = do
  number ← number_field field
  if number == 0 then Err Number else Ok number

-- the bytes that a field writes
abbrev pub bytes_field : List ℕ → Result (List ℕ) LineFault
bytes_field field = ok_or (bytes_of field) Hex

-- the one-time token that a field writes: there are 16 bytes of it
abbrev pub ticket_field : List ℕ → Result (List ℕ) LineFault
ticket_field field = do
  bytes ← bytes_field field
  if length bytes == 16 then Ok bytes else Err Hex

-- the number that the only field writes
abbrev pub only_number : List (List ℕ) → Result ℕ LineFault
only_number (field ∷ []) = number_field field
only_number _ = Err Word

-- `schedule 2`; no other format has a line
abbrev pub format_step : List (List ℕ) → Result Step LineFault
format_step (format ∷ []) = if bytes_eq format (codes "2") then Ok Format2 else Err Word
format_step _ = Err Word

-- `at MONO WALL`
abbrev pub at_step : List (List ℕ) → Result Step LineFault
at_step (mono ∷ wall ∷ []) = do
  mono ← number_field mono
  wall ← number_field wall
  Ok (At (record { mono = mono; wall = wall }))
at_step _ = Err Word

-- `join client` or `join child`
abbrev pub join_step : List (List ℕ) → Result Step LineFault
join_step (name ∷ []) =
    if bytes_eq name (codes "client") then Ok (Join Clients)
    else if bytes_eq name (codes "child") then Ok (Join Children)
    else Err Word
join_step _ = Err Word

-- `hear PORT HEX`
abbrev pub hear_step : List (List ℕ) → Result Step LineFault
hear_step (port ∷ bytes ∷ []) = do
  port ← number_field port
  bytes ← bytes_field bytes
  Ok (Hear port bytes)
hear_step _ = Err Word

-- a word and the number of a port or a job: `end PORT`, `hold PORT`, `free PORT` and `failed JOB`
abbrev pub number_step : (ℕ → Step) → List (List ℕ) → Result Step LineFault
number_step step fields = do
  number ← only_number fields
  Ok (step number)

-- `take PORT N`
abbrev pub take_step : List (List ℕ) → Result Step LineFault
take_step (port ∷ count ∷ []) = do
  port ← number_field port
  count ← count_field count
  Ok (Take port count)
take_step _ = Err Word

-- `started JOB HEX`
abbrev pub started_step : List (List ℕ) → Result Step LineFault
started_step (job ∷ ticket ∷ []) = do
  job ← number_field job
  ticket ← ticket_field ticket
  Ok (Started job ticket)
started_step _ = Err Word

-- what the fields ask for by the first of them, or their first fault
abbrev pub step_of_fields : List (List ℕ) → Result Step LineFault
step_of_fields [] = Err Word
step_of_fields (word ∷ fields) =
    if bytes_eq word (codes "at") then at_step fields
    else if bytes_eq word (codes "join") then join_step fields
    else if bytes_eq word (codes "hear") then hear_step fields
    else if bytes_eq word (codes "end") then number_step End fields
    else if bytes_eq word (codes "hold") then number_step Hold fields
    else if bytes_eq word (codes "free") then number_step Free fields
    else if bytes_eq word (codes "take") then take_step fields
    else if bytes_eq word (codes "started") then started_step fields
    else if bytes_eq word (codes "failed") then number_step Failed fields
    else if bytes_eq word (codes "schedule") then format_step fields
    else Err Word

-- what a line that isn't too long asks for, or its first fault; an empty one, and one that begins with
-- `#`, is skipped
abbrev pub step_of_short : List ℕ → Result Step LineFault
step_of_short [] = Ok Skip
step_of_short (first ∷ more) = if first == 35 then Ok Skip else step_of_fields (fields_of (first ∷ more))

-- what a line asks for, or its first fault; it may have 65536 bytes
unfoldable pub step_of : List ℕ → Result Step LineFault
step_of line = if nat_lt 65536 (length line) then Err TooLong else step_of_short line
