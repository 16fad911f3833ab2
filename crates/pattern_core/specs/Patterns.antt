-- Patterns of ssh_config(5), "PATTERNS": `*` is any run of bytes, `?` is one byte, and any other byte is itself.
use Rattle.std.specs.Prelude.{◌≢◌, ℕ, Bool, true, false, if◌then◌else◌, ◌==◌, ◌&&◌, ◌||◌, List, [], ◌∷◌, ◌++◌}

-- `*`
abbrev pub star : ℕ
star = 42

-- `?`
abbrev pub question : ℕ
question = 63

-- the pattern takes in the whole text
pub data Matches : List ℕ → List ℕ → Type 0 where
  both_end : Matches [] []
  run : (skipped text pattern : List ℕ) → Matches text pattern → Matches (skipped ++ text) (star ∷ pattern)
  any_byte : (byte : ℕ) (text pattern : List ℕ) → Matches text pattern → Matches (byte ∷ text) (question ∷ pattern)
  same_byte : (byte : ℕ) (text pattern : List ℕ) → byte ≢ star → byte ≢ question → Matches text pattern
      → Matches (byte ∷ text) (byte ∷ pattern)

-- some end of the text, which may be all of it or nothing, passes the test
abbrev pub some_end : (List ℕ → Bool) → List ℕ → Bool
some_end test [] = test []
some_end test (byte ∷ text) = test (byte ∷ text) || some_end test text

-- the text begins with a byte that the wanted one takes in, and what follows passes the test
abbrev pub byte_and_then : ℕ → (List ℕ → Bool) → List ℕ → Bool
byte_and_then wanted test [] = false
byte_and_then wanted test (byte ∷ text) = (wanted == question || wanted == byte) && test text

-- the text is empty
abbrev pub is_nothing : List ℕ → Bool
is_nothing [] = true
is_nothing (_ ∷ _) = false

-- `Matches` as a test, case by case: it tries each run of each `*` in turn
unfoldable pub is_match : List ℕ → List ℕ → Bool
is_match text [] = is_nothing text
is_match text (wanted ∷ pattern) = if wanted == star
    then some_end (λ rest. is_match rest pattern) text
    else byte_and_then wanted (λ rest. is_match rest pattern) text

-- the pattern takes in some end of the text
abbrev pub some_end_is_match : List ℕ → List ℕ → Bool
some_end_is_match text pattern = some_end (λ rest. is_match rest pattern) text
