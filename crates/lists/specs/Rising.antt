-- Rising lists of numbers (ours).
use Rattle.std.specs.List.{insert, remove}
use Rattle.std.specs.Prelude.{◌≡◌, ℕ, ◌<◌, ◌≤◌, length, List, [], ◌∷◌, Bool, true, false, nat_lt, ◌==◌, ◌||◌, if◌then◌else◌}

-- the numbers rise, each above low
abbrev pub IsRisingNumbers : ℕ → List ℕ → Type 0
IsRisingNumbers low [] = Unit {0}
IsRisingNumbers low (number ∷ others) = (low < number) × IsRisingNumbers number others

-- the numbers rise, from any first one
abbrev pub IsRisingList : List ℕ → Type 0
IsRisingList [] = Unit {0}
IsRisingList (number ∷ others) = IsRisingNumbers number others

-- whether the number is among them
abbrev pub is_among : ℕ → List ℕ → Bool
is_among number [] = false
is_among number (other ∷ others) = number == other || is_among number others

-- one number more, in its place
abbrev pub inserted : ℕ → List ℕ → List ℕ
inserted number [] = number ∷ []
inserted number (other ∷ others) =
    if number == other then other ∷ others else (if nat_lt number other then number ∷ other ∷ others else other ∷ inserted number others)

-- one number less
abbrev pub removed : ℕ → List ℕ → List ℕ
removed number [] = []
removed number (other ∷ others) = if number == other then others else other ∷ removed number others

-- the number stands at this place
pub record IsFound (number : ℕ) (numbers : List ℕ) (place : ℕ) : Type 0 where
  pub within : place < length numbers
  pub there : is_among number numbers ≡ true
  pub put_in : inserted number numbers ≡ numbers
  pub taken_out : removed number numbers ≡ remove numbers place

-- the number isn't there, and would go to this place
pub record IsAbsent (number : ℕ) (numbers : List ℕ) (place : ℕ) : Type 0 where
  pub within : place ≤ length numbers
  pub absent : is_among number numbers ≡ false
  pub put_in : inserted number numbers ≡ insert numbers place number
  pub taken_out : removed number numbers ≡ numbers
