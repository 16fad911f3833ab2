-- Lemmas on the place of a number in a rising list.
use Rattle.std.proofs.Common.{◌≡◌, ◌≢◌, ℕ, zero, suc, ◌<◌, ◌≤◌, List, [], ◌∷◌, length, get_or, refl, arith, Result, Ok, Err, MatchResult, true, false, inl, inr}
use Rattle.std.proofs.lemmas.Bool.Decides.{nat_tests}
use Rattle.std.proofs.lemmas.Bool.{cases_lt}
use Rattle.std.proofs.lemmas.List.Sorted.{searched}
use Rattle.std.specs.List.{insert, remove}
use Rattle.std.specs.List.Sorted.{IsBinarySearchResult}
use Rattle.std.specs.Ordering.{nat_cmp}
use Rattle.lists.specs.Rising.{IsAbsent, IsFound, IsRisingList, IsRisingNumbers, inserted, is_among, removed}
use Rattle.lists.proofs.RisingLemmas.{inserted-among, removed-not_among, rising_list}

-- each number is above the bound
rising-above : (low : ℕ) (xs : List ℕ) (i : ℕ) → IsRisingNumbers low xs → i < length xs → low < get_or xs i 0
rising-above low [] i rising within = absurd (omega arith)
rising-above low (x ∷ xs) zero rising within = rising.0
rising-above low (x ∷ xs) (suc i) rising within =
    let rest : x < get_or xs i 0 = rising-above x xs i rising.1 (omega arith) in
    omega (arith, rising.0)

-- a rising list doesn't fall
rising-ordered : (xs : List ℕ) (i j : ℕ) → IsRisingList xs → i ≤ j → j < length xs → get_or xs i 0 ≤ get_or xs j 0
rising-ordered [] i j rising order within = absurd (omega arith)
rising-ordered (x ∷ xs) zero zero rising order within = omega arith
rising-ordered (x ∷ xs) zero (suc j) rising order within =
    let later : x < get_or xs j 0 = rising-above x xs j rising (omega arith) in
    omega arith
rising-ordered (x ∷ xs) (suc i) zero rising order within = absurd (omega arith)
rising-ordered (x ∷ xs) (suc i) (suc j) rising order within =
    rising-ordered xs i j (rising_list x xs rising) (omega arith) (omega arith)

-- where those before are less and those from there on are greater, the number goes there
inserted-at : (number : ℕ) (xs : List ℕ) (i : ℕ) → i ≤ length xs → ((k : ℕ) → k < i → get_or xs k 0 < number)
    → ((k : ℕ) → i ≤ k → k < length xs → number < get_or xs k 0) → inserted number xs ≡ insert xs i number
inserted-at number [] zero within less greater = refl
inserted-at number [] (suc i) within less greater = absurd (omega arith)
inserted-at number (x ∷ xs) zero within less greater =
    let above : number < x = greater 0 (omega arith) (omega arith) in
    grind (arith, nat_tests)
inserted-at number (x ∷ xs) (suc i) within less greater =
    let below : x < number = less 0 (omega arith) in
    let rest : inserted number xs ≡ insert xs i number =
    inserted-at number xs i (omega arith) (λ k h. less (suc k) (omega arith)) (λ k h l. greater (suc k) (omega arith) (omega arith)) in
    grind (arith, nat_tests)

-- a number that stands there is among them
among-at : (number : ℕ) (xs : List ℕ) (i : ℕ) → i < length xs → get_or xs i 0 ≡ number → is_among number xs ≡ true
among-at number [] i within is = absurd (omega arith)
among-at number (x ∷ xs) zero within is = grind (arith, nat_tests)
among-at number (x ∷ xs) (suc i) within is =
    let rest : is_among number xs ≡ true = among-at number xs i (omega arith) is in
    grind (arith, nat_tests)

-- one that stands nowhere isn't
not_among : (number : ℕ) (xs : List ℕ) → ((k : ℕ) → k < length xs → get_or xs k 0 ≢ number) → is_among number xs ≡ false
not_among number [] absent = refl
not_among number (x ∷ xs) absent =
    let here : x ≢ number = absent 0 (omega arith) in
    let rest : is_among number xs ≡ false = not_among number xs (λ k h. absent (suc k) (omega arith)) in
    grind (arith, nat_tests)

-- the number that stands there goes
removed-at : (number : ℕ) (xs : List ℕ) (i : ℕ) → IsRisingList xs → i < length xs → get_or xs i 0 ≡ number
    → removed number xs ≡ remove xs i
removed-at number [] i rising within is = absurd (omega arith)
removed-at number (x ∷ xs) zero rising within is = grind (arith, nat_tests)
removed-at number (x ∷ xs) (suc i) rising within is =
    let later : x < get_or xs i 0 = rising-above x xs i rising (omega arith) in
    let rest : removed number xs ≡ remove xs i = removed-at number xs i (rising_list x xs rising) (omega arith) is in
    grind (arith, nat_tests)

-- a number between those that are less and those that are greater isn't there
apart : (number : ℕ) (xs : List ℕ) (place k : ℕ) → ((k : ℕ) → k < place → get_or xs k 0 < number) → ((k : ℕ) → place ≤ k → k < length xs → number < get_or xs k 0)
    → k < length xs → get_or xs k 0 ≢ number
apart number xs place k less greater within is = elim (cases_lt k place) [
  | inl h ↦ (let l : get_or xs k 0 < number = less k h in absurd (omega arith))
  | inr h ↦ (let g : number < get_or xs k 0 = greater k h within in absurd (omega arith))
]

-- what a binary search answers in a rising list
pub searched_numbers : (number : ℕ) (xs : List ℕ) (r : Result ℕ ℕ) → IsBinarySearchResult (λ y. nat_cmp y number) xs r
    → IsRisingList xs → MatchResult r (IsFound number xs) (IsAbsent number xs)
searched_numbers number xs (Ok place) answer rising =
    let at = searched xs number (Ok place) answer (λ i j h l. rising-ordered xs i j rising h l) in
    let there = among-at number xs place at.0 at.1 in
    record {
      within = at.0;
      there = there;
      put_in = inserted-among number xs rising there;
      taken_out = removed-at number xs place rising at.0 at.1;
    }
searched_numbers number xs (Err place) answer rising =
    let at = searched xs number (Err place) answer (λ i j h l. rising-ordered xs i j rising h l) in
    let absent = not_among number xs (λ k h e. apart number xs place k at.1 at.2 h e) in
    record {
      within = at.0;
      absent = absent;
      put_in = inserted-at number xs place at.0 at.1 at.2;
      taken_out = removed-not_among number xs absent;
    }
