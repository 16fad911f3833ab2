-- When a place of a chain is good, said of one place: beside `bad_place`, which goes through all.
use Rattle.std.specs.Prelude.{◌≡◌, ◌<◌, ℕ, zero, suc, Bool, true, false, ◌==◌, List, length, Option, Some, None}
use Rattle.std.specs.List.{slice_get}
use Rattle.std.specs.Option.{option_map}
use Rattle.dest_rule.specs.Chains.{Binding}
use Rattle.dest_rule.specs.Rules.{Grounds, is_good}

-- the host key before a place of the chain, where `origin` is before the first
abbrev pub key_before : Option (List ℕ) → List Binding → ℕ → Option (List ℕ)
key_before origin chain zero = origin
key_before origin chain (suc place) =
    option_map (λ binding. binding.host_key) (slice_get chain place)

-- a binding at a place is good, where there is one
abbrev pub is_good_there : Option Binding → Bool → Grounds → Option (List ℕ) → Bool
is_good_there None is_newest grounds previous = false
is_good_there (Some binding) is_newest grounds previous = is_good is_newest grounds previous binding

-- the place is good: its binding is, by whether it is the last place, behind the host before it
unfoldable pub is_good_at : Grounds → Option (List ℕ) → List Binding → ℕ → Bool
is_good_at grounds origin chain place =
    is_good_there (slice_get chain place) (suc place == length chain) grounds
    (key_before origin chain place)

-- the place isn't good, and each before it is
pub record IsFirstBad (grounds : Grounds) (chain : List Binding) (place : ℕ) : Type 0 where
  pub within : place < length chain
  pub bad : is_good_at grounds None chain place ≡ false
  pub good_before : (earlier : ℕ) → earlier < place → is_good_at grounds None chain earlier ≡ true

-- every place is good
abbrev pub AllGood : Grounds → List Binding → Type 0
AllGood grounds chain =
    (place : ℕ) → place < length chain → is_good_at grounds None chain place ≡ true

-- where the first bad place is said to be, it is there
abbrev pub IsPlaceIn : Grounds → List Binding → Option ℕ → Type 0
IsPlaceIn grounds chain None = AllGood grounds chain
IsPlaceIn grounds chain (Some place) = IsFirstBad grounds chain place
