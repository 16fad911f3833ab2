-- Lemmas on rising lists of numbers.
use Rattle.std.proofs.Common.{◌≡◌, ℕ, ◌+◌, ◌<◌, ◌≤◌, List, [], ◌∷◌, length, refl, arith, Bool, true, false, not, ◌==◌, ◌||◌, ◌&&◌, nat_lt, if◌then◌else◌, filter, inl, inr}
use Rattle.std.proofs.lemmas.Bool.{cases_eq}
use Rattle.std.proofs.lemmas.Bool.Decides.{nat_tests}
use Rattle.lists.specs.Rising.{IsRisingList, IsRisingNumbers, inserted, is_among, removed}

-- ---- which lists rise

-- what rises above a number rises above a lesser one
pub rising_lower : (lower low : ℕ) (xs : List ℕ) → lower ≤ low → IsRisingNumbers low xs → IsRisingNumbers lower xs
rising_lower lower low [] below rising = tt
rising_lower lower low (x ∷ xs) below rising = (omega (arith, rising.0), rising.1)

-- what rises above a number rises
pub rising_list : (low : ℕ) (xs : List ℕ) → IsRisingNumbers low xs → IsRisingList xs
rising_list low [] rising = tt
rising_list low (x ∷ xs) rising = rising.1

-- with one number more it still rises
pub rising-inserted : (low number : ℕ) (xs : List ℕ) → low < number → IsRisingNumbers low xs
    → IsRisingNumbers low (inserted number xs)
rising-inserted low number [] above rising = (above, tt)
rising-inserted low number (x ∷ xs) above rising = by_order (number == x) (nat_lt number x) refl refl (λ below. rising-inserted x number xs below rising.1)
  where
    by_order : (same less : Bool) → (number == x) ≡ same → nat_lt number x ≡ less → (x < number → IsRisingNumbers x (inserted number xs))
        → IsRisingNumbers low (if same then x ∷ xs else (if less then number ∷ x ∷ xs else x ∷ inserted number xs))
    by_order true less is order later = rising
    by_order false true is order later = (above, (grind (arith, nat_tests), rising.1))
    by_order false false is order later = (rising.0, later (grind (arith, nat_tests)))

pub rising_list-inserted : (number : ℕ) (xs : List ℕ) → IsRisingList xs → IsRisingList (inserted number xs)
rising_list-inserted number [] rising = tt
rising_list-inserted number (x ∷ xs) rising = by_order (number == x) (nat_lt number x) refl refl (λ below. rising-inserted x number xs below rising)
  where
    by_order : (same less : Bool) → (number == x) ≡ same → nat_lt number x ≡ less → (x < number → IsRisingNumbers x (inserted number xs))
        → IsRisingList (if same then x ∷ xs else (if less then number ∷ x ∷ xs else x ∷ inserted number xs))
    by_order true less is order later = rising
    by_order false true is order later = (grind (arith, nat_tests), rising)
    by_order false false is order later = later (grind (arith, nat_tests))

-- and with one number less
pub rising-removed : (low number : ℕ) (xs : List ℕ) → IsRisingNumbers low xs → IsRisingNumbers low (removed number xs)
rising-removed low number [] rising = tt
rising-removed low number (x ∷ xs) rising = by_test (number == x) (rising-removed x number xs rising.1)
  where
    by_test : (same : Bool) → IsRisingNumbers x (removed number xs)
        → IsRisingNumbers low (if same then xs else x ∷ removed number xs)
    by_test true later = rising_lower low x xs (omega (arith, rising.0)) rising.1
    by_test false later = (rising.0, later)

pub rising_list-removed : (number : ℕ) (xs : List ℕ) → IsRisingList xs → IsRisingList (removed number xs)
rising_list-removed number [] rising = tt
rising_list-removed number (x ∷ xs) rising = by_test (number == x)
  where
    by_test : (same : Bool) → IsRisingList (if same then xs else x ∷ removed number xs)
    by_test true = rising_list x xs rising
    by_test false = rising-removed x number xs rising

-- ---- which numbers are among them

-- a number of a list that rises above a bound is above it
pub is_among-above : (low number : ℕ) (xs : List ℕ) → IsRisingNumbers low xs → is_among number xs ≡ true → low < number
is_among-above low number [] rising is = absurd (cc)
is_among-above low number (x ∷ xs) rising is = elim (cases_eq number x) [
  | inl here ↦ (let first : low < x = rising.0 in omega arith)
  | inr apart ↦
      (let later : is_among number xs ≡ true = grind (arith, nat_tests) in
      let rest : x < number = is_among-above x number xs rising.1 later in
      let first : low < x = rising.0 in
      omega arith)
]

-- one at the bound or below isn't among them
pub is_among-below : (low number : ℕ) (xs : List ℕ) → number ≤ low → IsRisingNumbers low xs → is_among number xs ≡ false
is_among-below low number [] below rising = refl
is_among-below low number (x ∷ xs) below rising =
    let first : low < x = rising.0 in
    let rest : is_among number xs ≡ false = is_among-below x number xs (omega arith) rising.1 in
    grind (arith, nat_tests)

-- a number that is put in is there, and no other comes or goes
pub is_among-inserted : (m number : ℕ) (xs : List ℕ)
    → is_among m (inserted number xs) ≡ ((number == m) || is_among m xs)
is_among-inserted m number [] = grind (arith, nat_tests)
is_among-inserted m number (x ∷ xs) =
    let rest : is_among m (inserted number xs) ≡ ((number == m) || is_among m xs) = is_among-inserted m number xs in
    grind (arith, nat_tests)

-- a number that is taken out isn't there, and no other comes or goes
pub is_among-removed : (m number : ℕ) (xs : List ℕ) → IsRisingList xs
    → is_among m (removed number xs) ≡ (not (number == m) && is_among m xs)
is_among-removed m number [] rising = grind (arith, nat_tests)
is_among-removed m number (x ∷ xs) rising =
    let rest : is_among m (removed number xs) ≡ (not (number == m) && is_among m xs) = is_among-removed m number xs (rising_list x xs rising) in
    let first : is_among x xs ≡ false = is_among-below x x xs (omega arith) rising in
    grind (arith, nat_tests)

-- ---- what is put in and taken out

-- a number that is there isn't put in again
pub inserted-among : (number : ℕ) (xs : List ℕ) → IsRisingList xs → is_among number xs ≡ true → inserted number xs ≡ xs
inserted-among number [] rising is = absurd (cc)
inserted-among number (x ∷ xs) rising is = elim (cases_eq number x) [
  | inl here ↦ grind (arith, nat_tests)
  | inr apart ↦
      (let later : is_among number xs ≡ true = grind (arith, nat_tests) in
      let above : x < number = is_among-above x number xs rising later in
      let rest : inserted number xs ≡ xs = inserted-among number xs (rising_list x xs rising) later in
      grind (arith, nat_tests))
]

-- a number that isn't there isn't taken out
pub removed-not_among : (number : ℕ) (xs : List ℕ) → is_among number xs ≡ false → removed number xs ≡ xs
removed-not_among number [] absent = refl
removed-not_among number (x ∷ xs) absent = elim (cases_eq number x) [
  | inl here ↦ absurd (grind (arith, nat_tests))
  | inr apart ↦
      (let later : is_among number xs ≡ false = grind (arith, nat_tests) in
      let rest : removed number xs ≡ xs = removed-not_among number xs later in
      grind (arith, nat_tests))
]

-- where a list rises from the number or above it, it stays, or the number goes in front
pub removed_below : (number low : ℕ) (xs : List ℕ) → number ≤ low → IsRisingNumbers low xs → removed number xs ≡ xs
removed_below number low [] below rising = refl
removed_below number low (x ∷ xs) below rising =
    let above : low < x = rising.0 in
    let rest : removed number xs ≡ xs = removed_below number x xs (omega (arith, rising.0)) rising.1 in
    grind (arith, nat_tests)

pub inserted_below : (number low : ℕ) (xs : List ℕ) → number ≤ low → IsRisingNumbers low xs
    → inserted number xs ≡ number ∷ xs
inserted_below number low [] below rising = refl
inserted_below number low (x ∷ xs) below rising =
    let above : low < x = rising.0 in
    grind (arith, nat_tests)

-- with one number less, those are left that are another
pub removed-filter : (number : ℕ) (xs : List ℕ) → IsRisingList xs
    → removed number xs ≡ filter (λ m. not (number == m)) xs
removed-filter number [] rising = refl
removed-filter number (x ∷ xs) rising = elim (cases_eq number x) [
  | inl here ↦
      (let rest : removed x xs ≡ filter (λ m. not (x == m)) xs = removed-filter x xs (rising_list x xs rising) in
      let gone : removed x xs ≡ xs = removed_below x x xs (omega arith) rising in
      grind (arith, nat_tests))
  | inr apart ↦
      (let rest : removed number xs ≡ filter (λ m. not (number == m)) xs = removed-filter number xs (rising_list x xs rising) in
      grind (arith, nat_tests))
]

-- ---- how long the lists are

-- one more at most
pub length-inserted : (number : ℕ) (xs : List ℕ) → length (inserted number xs) ≤ length xs + 1
length-inserted number [] = omega arith
length-inserted number (x ∷ xs) =
    let rest : length (inserted number xs) ≤ length xs + 1 = length-inserted number xs in
    grind (arith, nat_tests)
