-- A count as a word (ours): decimal digits without leading zeros, from 1 to 2 ^ 32 - 1.
use Rattle.std.specs.Prelude.{ℕ, ◌+◌, ◌-◌, ◌*◌, ◌^◌, ◌<◌, ◌≤◌, ◌==◌, ◌&&◌, not, nat_lt, Bool, true, false, List, [], ◌∷◌, Option, None, Some, IfSome, if◌then◌else◌}
use Rattle.std.specs.Str.{all_ascii_digits}

-- the number that decimal digits write, where they follow those of n
abbrev pub number_after : ℕ → List ℕ → ℕ
number_after n [] = n
number_after n (digit ∷ digits) = number_after (n * 10 + (digit - 48)) digits

-- one digit, or several of which the first isn't 0
abbrev pub is_shortest : List ℕ → Bool
is_shortest [] = false
is_shortest (digit ∷ []) = true
is_shortest (digit ∷ next ∷ digits) = not (digit == 48)

-- a number that may be given
abbrev pub some_count : ℕ → Option ℕ
some_count number = if nat_lt 0 number && nat_lt number (2 ^ 32) then Some number else None

-- the count that the word writes, where it is one that may be given
abbrev pub count_of : List ℕ → Option ℕ
count_of word = if is_shortest word && all_ascii_digits word then some_count (number_after 0 word) else None

-- the number, where it is there, is one that may be given
abbrev pub IsCount : Option ℕ → Type 0
IsCount count = IfSome count (λ number. (1 ≤ number) × (number < 2 ^ 32))
