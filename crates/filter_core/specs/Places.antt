-- Where a pair stands in a list of pairs.
use Rattle.std.specs.Prelude.{◌≡◌, ℕ, ◌<◌, List, length, Some, slice_get, slice_set}
use Rattle.std.specs.List.{remove}
use Rattle.filter_model.specs.Pairs.{Pair}
use Rattle.filter_model.specs.Filters.{Numbered, find_pair, put_pair, remove_pair}

-- at this place stands a pair of this number
pub record StandsAt (number : ℕ) (pairs : List Numbered) (place : ℕ) : Type 0 where
  pub within : place < length pairs
  pub same : (one : Numbered) → slice_get pairs place ≡ Some one → one.number ≡ number

-- the pair of this number is the one at this place, to find, to put and to remove
pub record IsPlace (number : ℕ) (pairs : List Numbered) (place : ℕ) : Type 0 where
  pub within : place < length pairs
  pub found : (one : Numbered) → slice_get pairs place ≡ Some one → find_pair number pairs ≡ Some one.pair
  pub numbered : (one : Numbered) → slice_get pairs place ≡ Some one → one.number ≡ number
  pub put : (pair : Pair)
      → put_pair number pair pairs ≡ slice_set pairs place (record { number = number; pair = pair })
  pub removed : remove_pair number pairs ≡ remove pairs place
