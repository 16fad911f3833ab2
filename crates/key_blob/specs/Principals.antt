-- Strings one after another, as a certificate holds its principals (OpenSSH's PROTOCOL.certkeys).
use Rattle.std.specs.Prelude.{ℕ, zero, suc, ◌==◌, ◌^◌, ◌<◌, Bool, List, [], ◌++◌, length, Option, Some, None}
use Rattle.pattern_core.specs.Patterns.{Matches}
use Rattle.wire_core.specs.Fields.{string_at}
use Rattle.wire_text.specs.Wire.{string}

-- the bytes are strings to their end
pub data AreStrings : List ℕ → Type 0 where
  no_more : AreStrings []
  one_more : (text rest : List ℕ) → length text < 2 ^ 32 → AreStrings rest
      → AreStrings (string text ++ rest)

-- one of the strings that the bytes begin with is a pattern that matches the host
pub data NamesHost : List ℕ → List ℕ → Type 0 where
  this : (host pattern rest : List ℕ) → length pattern < 2 ^ 32 → Matches host pattern
      → NamesHost host (string pattern ++ rest)
  later : (host text rest : List ℕ) → length text < 2 ^ 32 → NamesHost host rest
      → NamesHost host (string text ++ rest)

-- what follows a string that stands at the front passes the test, or nothing is left
abbrev pub passed_over : Option (List ℕ × List ℕ) → (List ℕ → Bool) → List ℕ → Bool
passed_over None test bytes = length bytes == 0
passed_over (Some found) test bytes = test found.1

-- nothing is left behind the strings at the front, of which so many are passed over at most
unfoldable pub are_strings_up_to : ℕ → List ℕ → Bool
are_strings_up_to zero bytes = length bytes == 0
are_strings_up_to (suc count) bytes = passed_over (string_at bytes) (are_strings_up_to count) bytes

-- `AreStrings` as a test: a string takes a byte at least
unfoldable pub are_strings : List ℕ → Bool
are_strings bytes = are_strings_up_to (length bytes) bytes
