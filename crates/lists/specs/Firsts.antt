-- The first element of a list that passes a test (ours): removed, changed, its place, and whether it is the only one. To
-- find it is std's `find`.
use Rattle.std.specs.Prelude.{◌≡◌, ℕ, ◌<◌, Bool, true, false, List, [], ◌∷◌, None, length, slice_index_or, if◌then◌else◌}
use Rattle.std.specs.List.{find}

-- the elements but for the first that passes
abbrev pub remove_first : {A : Type 0} → (A → Bool) → List A → List A
remove_first test [] = []
remove_first test (one ∷ others) = if test one then others else one ∷ remove_first test others

-- the elements, the first that passes changed by f
abbrev pub change_first : {A : Type 0} → (A → Bool) → (A → A) → List A → List A
change_first test f [] = []
change_first test f (one ∷ others) =
    if test one then f one ∷ others else one ∷ change_first test f others

-- the first that passes stands there
pub record IsFirst {A : Type 0} (test : A → Bool) (all : List A) (place : ℕ) : Type 0 where
  pub within : place < length all
  pub there : (other : A) → test (slice_index_or all place other) ≡ true
  pub before : (k : ℕ) (other : A) → k < place → test (slice_index_or all k other) ≡ false

-- behind one that passes none does
abbrev pub IsOnly : {A : Type 0} → (A → Bool) → List A → Type 0
IsOnly test [] = Unit {0}
IsOnly test (one ∷ others) = (test one ≡ true → find test others ≡ None) × IsOnly test others
