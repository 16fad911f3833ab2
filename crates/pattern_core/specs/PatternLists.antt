-- Lists of patterns, as in ssh_config(5), "PATTERNS": patterns between commas, negated by a leading `!`.
use Rattle.std.specs.Prelude.{◌≡◌, ◌≢◌, ◌==◌, ◌&&◌, not, Bool, false, ℕ, List, [], ◌∷◌, Any, drop}
use Rattle.std.specs.List.{slice_split, list_any}
use Rattle.std.specs.Str.{str_to_ascii_lowercase}
use Rattle.pattern_core.specs.Patterns.{Matches, is_match}

-- each letter A to Z as a to z
abbrev pub lowered : List ℕ → List ℕ
lowered text = str_to_ascii_lowercase text

-- `!`
abbrev pub bang : ℕ
bang = 33

-- `,`
abbrev pub comma : ℕ
comma = 44

-- the parts between the commas: one more than there are commas
abbrev pub elements : List ℕ → List (List ℕ)
elements patterns = slice_split (λ byte. byte == comma) patterns

-- an element that isn't negated takes in the host
abbrev pub Accepts : List ℕ → List ℕ → Type 0
Accepts host element = ((pattern : List ℕ) → element ≢ bang ∷ pattern) × Matches host element

-- a negated element takes in the host
abbrev pub Rejects : List ℕ → List ℕ → Type 0
Rejects host element = (pattern : List ℕ) × (element ≡ bang ∷ pattern) × Matches host pattern

-- some element takes in the host and no negated one does, with A to Z read as a to z on both sides
pub record MatchesList (host patterns : List ℕ) : Type 0 where
  pub accepted : Any (Accepts (lowered host)) (elements (lowered patterns))
  pub not_rejected : ¬ Any (Rejects (lowered host)) (elements (lowered patterns))

-- the element begins with `!`
abbrev pub is_negated : List ℕ → Bool
is_negated [] = false
is_negated (byte ∷ _) = byte == bang

-- `Accepts` as a test
abbrev pub accepts_host : List ℕ → List ℕ → Bool
accepts_host host element = not (is_negated element) && is_match host element

-- `Rejects` as a test
abbrev pub rejects_host : List ℕ → List ℕ → Bool
rejects_host host element = is_negated element && is_match host (drop 1 element)

-- some element, in lower case, passes the test
abbrev pub some_element : (List ℕ → Bool) → List ℕ → Bool
some_element test patterns = list_any (λ element. test (lowered element)) (elements patterns)
