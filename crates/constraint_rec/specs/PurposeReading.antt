-- What reading purposes from left to right gives: the purposes, or the first fault.
use Rattle.std.specs.Prelude.{ℕ, zero, suc, List, [], ◌∷◌, length, Result, Ok, Err}
use Rattle.wire_core.specs.Readings.{◌>>=◌}
use Rattle.key_purposes.specs.Purposes.{some_purposes, with_word}
use Rattle.key_purposes.specs.declared.fault.PurposeFault.{PurposeFault}
use Rattle.key_purposes.specs.declared.fault.PurposeFault.TheVariants as of_words
use Rattle.key_purposes.specs.declared.purpose.Purpose.{Purpose}
use Rattle.constraint_rec.specs.declared.fault.TermFault.{TermFault}
use Rattle.constraint_rec.specs.declared.fault.TermFault.TheVariants.{Memory, NoPurposes, BadPurpose}
use Rattle.constraint_rec.specs.HopReading.{field_at}

-- the fault of a word of purposes, as a fault of constraints
abbrev pub term_fault : PurposeFault → TermFault
term_fault of_words.Missing = NoPurposes
term_fault of_words.Memory = Memory
term_fault other = BadPurpose

-- the same of what was read
abbrev pub as_terms : {A : Type 0} → Result A PurposeFault → Result A TermFault
as_terms (Ok value) = Ok value
as_terms (Err fault) = Err (term_fault fault)

-- the purposes with that of the word at the front, and the bytes that follow
unfoldable pub purpose_at : List Purpose → List ℕ → Result (List Purpose × List ℕ) TermFault
purpose_at held bytes = do
  word ← field_at bytes
  more ← as_terms (with_word held word.0)
  Ok (more, word.1)

-- the purposes with those of the bytes, which are at most so many
unfoldable pub purposes_up_to : ℕ → List Purpose → List ℕ → Result (List Purpose) TermFault
purposes_up_to zero held bytes = Ok held
purposes_up_to (suc count) held [] = Ok held
purposes_up_to (suc count) held (byte ∷ rest) =
    purpose_at held (byte ∷ rest) >>= λ next. purposes_up_to count next.0 next.1

-- the purposes of the bytes, each a string: each takes a byte at least
abbrev pub all_purposes_in : List ℕ → Result (List Purpose) TermFault
all_purposes_in bytes = purposes_up_to (length bytes) [] bytes

-- purposes that are all of the bytes, of which there have to be some
unfoldable pub purposes_in : List ℕ → Result (List Purpose) TermFault
purposes_in bytes = all_purposes_in bytes >>= λ purposes. as_terms (some_purposes purposes)
