-- Purposes as words, one behind each `-p` (ours: docs/PROTOCOL.md, "Purposes").
use Rattle.std.specs.Prelude.{ℕ, List, [], Result}
use Rattle.key_purposes.specs.Purposes.{with_words}
use Rattle.key_purposes.specs.declared.fault.PurposeFault.{PurposeFault}
use Rattle.key_purposes.specs.declared.purpose.Purpose.{Purpose}

-- the purposes that words name, of which there may be none, or the first fault from left to right
abbrev pub purposes_named : List (List ℕ) → Result (List Purpose) PurposeFault
purposes_named words = with_words [] words
