-- Lemmas on the words of the program.
use Rattle.std.proofs.Common.{ℕ, Option, None, Some}
use Rattle.std.specs.Prelude.{IfSome}
use Rattle.add_words.specs.Counts.{IsCount}
use Rattle.constraint_rec.specs.Constraints.{IsUseCount}

-- a count of the words is a number of uses that a constraint may have
pub is_use_count : (uses : Option ℕ) → IsCount uses → IfSome uses IsUseCount
is_use_count None count = tt
is_use_count (Some uses) count = record { some = count.0; short = count.1 }
