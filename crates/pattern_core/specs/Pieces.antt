-- Pieces of a pattern, which have no `*`, and the places of a text at which one fits (ours).
use Rattle.std.specs.Prelude.{◌≡◌, ℕ, ◌+◌, ◌<◌, ◌≤◌, Bool, true, false, ◌==◌, List, [], ◌∷◌, length, drop}
use Rattle.std.specs.Int.{bit_at}
use Rattle.pattern_core.specs.Patterns.{byte_and_then}

-- the text begins with bytes that those of the piece take in, one by one
unfoldable pub fits : List ℕ → List ℕ → Bool
fits text [] = true
fits text (wanted ∷ piece) = byte_and_then wanted (λ rest. fits rest piece) text

-- the piece fits at this place of the text, and at none before it
pub record IsFirst (text piece : List ℕ) (place : ℕ) : Type 0 where
  pub within : place + length piece ≤ length text
  pub here : fits (drop place text) piece ≡ true
  pub before : (k : ℕ) → k < place → fits (drop k text) piece ≡ false

-- the piece fits at no place of the text
pub record IsNowhere (text piece : List ℕ) : Type 0 where
  pub nowhere : (k : ℕ) → k + length piece ≤ length text → fits (drop k text) piece ≡ false

-- the word has this place, its lowest bit being place 0
abbrev pub has_place : ℕ → ℕ → Bool
has_place word place = bit_at word place == 1
