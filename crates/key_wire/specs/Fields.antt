-- Fields of keys and signatures, read from the left: what is read with what follows, or that it doesn't fit.
use Rattle.std.specs.Prelude.{ℕ, ◌==◌, if◌then◌else◌, List, length, Option, Result, Ok, Err}
use Rattle.std.specs.Option.{ok_or}
use Rattle.std.specs.Str.{bytes_eq}
use Rattle.key_wire.specs.declared.fault.KeyFault.{KeyFault}
use Rattle.key_wire.specs.declared.fault.KeyFault.TheVariants.{Unfit}
use Rattle.wire_core.specs.Fields.{string_at}
use Rattle.wire_core.specs.Readings.{ended_or, ◌>>=◌}

-- the field at the front, and the bytes behind it
abbrev pub field : {A : Type 0} → Option (A × List ℕ) → Result (A × List ℕ) KeyFault
field at = ok_or at Unfit

-- the value, where no byte follows
abbrev pub ended : {R : Type 0} → R → List ℕ → Result R KeyFault
ended value rest = ended_or Unfit value rest

-- a string that was read has this length
abbrev pub if_sized : ℕ → List ℕ × List ℕ → Result (List ℕ × List ℕ) KeyFault
if_sized len text = if length text.0 == len then Ok text else Err Unfit

-- a string of so many bytes, and what follows
unfoldable pub sized_at : ℕ → List ℕ → Result (List ℕ × List ℕ) KeyFault
sized_at len bytes = field (string_at bytes) >>= if_sized len

-- a string that was read is the known one, behind which these bytes stand
abbrev pub if_known : List ℕ → List ℕ × List ℕ → Result (List ℕ) KeyFault
if_known known text = if bytes_eq text.0 known then Ok text.1 else Err Unfit

-- what follows a known string
unfoldable pub known_at : List ℕ → List ℕ → Result (List ℕ) KeyFault
known_at known bytes = field (string_at bytes) >>= if_known known
