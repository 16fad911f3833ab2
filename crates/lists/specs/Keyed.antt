-- Lists whose elements have a number each, their key (ours): the element of a number, and numbers that rise.
use Rattle.std.specs.Prelude.{ℕ, ◌<◌, ◌≤◌, Bool, ◌==◌, List, [], ◌∷◌, Option}
use Rattle.std.specs.List.{find}
use Rattle.lists.specs.Firsts.{change_first, remove_first}

-- the element has this number
abbrev pub has_key : {A : Type 0} → (A → ℕ) → ℕ → A → Bool
has_key key number one = key one == number

-- the first element of this number
abbrev pub find_by : {A : Type 0} → (A → ℕ) → ℕ → List A → Option A
find_by key number all = find (has_key key number) all

-- the elements, the first of this number changed by f
abbrev pub change_by : {A : Type 0} → (A → ℕ) → ℕ → (A → A) → List A → List A
change_by key number f all = change_first (has_key key number) f all

-- the elements but for the first of this number
abbrev pub remove_by : {A : Type 0} → (A → ℕ) → ℕ → List A → List A
remove_by key number all = remove_first (has_key key number) all

-- the numbers rise, each above `low` and none above `high`
abbrev pub RiseBy : {A : Type 0} → (A → ℕ) → ℕ → List A → ℕ → Type 0
RiseBy key low [] high = low ≤ high
RiseBy key low (one ∷ others) high = (low < key one) × RiseBy key (key one) others high

-- the numbers never fall: the first is `low` at least, and each as great as the one before it or greater
abbrev pub NeverFallBy : {A : Type 0} → (A → ℕ) → ℕ → List A → Type 0
NeverFallBy key low [] = Unit {0}
NeverFallBy key low (one ∷ others) = (low ≤ key one) × NeverFallBy key (key one) others

-- each of the numbers is `high` at most
abbrev pub AreUpToBy : {A : Type 0} → (A → ℕ) → ℕ → List A → Type 0
AreUpToBy key high [] = Unit {0}
AreUpToBy key high (one ∷ others) = (key one ≤ high) × AreUpToBy key high others
