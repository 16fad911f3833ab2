-- The letters A to Z, as they stand or lowered.
use Rattle.std.specs.Prelude.{ℕ, List, map}
use Rattle.std.specs.Char.{to_ascii_lowercase}
use Rattle.pattern_core.specs.declared.case.Case.{Case}
use Rattle.pattern_core.specs.declared.case.Case.TheVariants.{Kept, Lowered}

-- the byte as it is read: A to Z as a to z where they are lowered
abbrev pub read_byte : Case → ℕ → ℕ
read_byte Kept byte = byte
read_byte Lowered byte = to_ascii_lowercase byte

-- each byte as it is read
abbrev pub read_text : Case → List ℕ → List ℕ
read_text case text = map (read_byte case) text
