-- Lemmas on the place of a pair in a list whose numbers rise.
use Rattle.std.proofs.Common.{◌≡◌, ◌≢◌, ◌==◌, ℕ, zero, suc, false, ◌<◌, ◌≤◌, List, [], ◌∷◌, ◌++◌, length, map, get_or, refl, arith, ap, sym, subst, ◌∙◌, Some, None, Result, Ok, Err, MatchOption, slice_get, slice_set, inl, inr, Bool, true, if◌then◌else◌}
use Rattle.std.proofs.lemmas.Bool.Decides.{Decides-eqb, nat_tests}
use Rattle.std.specs.List.{remove}
use Rattle.std.proofs.lemmas.Bool.{cases_eq, cases_lt}
use Rattle.std.proofs.lemmas.Cmp.{ranked}
use Rattle.std.proofs.lemmas.Option.{none-some, same_Some}
use Rattle.std.proofs.lemmas.List.Sorted.{IsNonDecreasingBy-from_default}
use Rattle.std.specs.List.Sorted.{IsBinarySearchResult, IsSearchInRange, IsNonDecreasingBy}
use Rattle.std.specs.Ordering.{nat_cmp, ordering_index}
use Rattle.std.specs.Result.{result_ok}
use Rattle.filter_model.specs.declared.waits.Waits.TheVariants as waits
use Rattle.filter_model.specs.Pairs.{Pair, empty_half}
use Rattle.filter_model.specs.Filters.{Numbered, find_pair, put_pair, remove_pair}
use Rattle.filter_core.specs.declared.slot.Slot.{Slot}
use Rattle.filter_core.specs.Slots.{IsRising, pairs_of}
use Rattle.filter_core.specs.Places.{IsPlace, StandsAt}

-- ---- rising numbers

abbrev numbers : List Numbered → List ℕ
numbers pairs = map (λ one. one.number) pairs

pub rising-lower : (low lower high : ℕ) (pairs : List Numbered) → lower ≤ low
    → IsRising low high pairs → IsRising lower high pairs
rising-lower low lower high [] below rising = omega (arith, rising)
rising-lower low lower high (one ∷ pairs) below rising = (omega (arith, rising.0), rising.1)

pub rising-higher : (low high higher : ℕ) (pairs : List Numbered) → high ≤ higher
    → IsRising low high pairs → IsRising low higher pairs
rising-higher low high higher [] above rising = omega (arith, rising)
rising-higher low high higher (one ∷ pairs) above rising = (rising.0, rising-higher one.number high higher pairs above rising.1)

pub rising-append : (low high number : ℕ) (pair : Pair) (pairs : List Numbered) → high < number
    → IsRising low high pairs
    → IsRising low number (pairs ++ record { number = number; pair = pair } ∷ [])
rising-append low high number pair [] above rising = (omega (arith, rising), omega arith)
rising-append low high number pair (one ∷ pairs) above rising = (rising.0, rising-append one.number high number pair pairs above rising.1)

-- each number is above the bound
number-above : (low high : ℕ) (pairs : List Numbered) (i : ℕ) → IsRising low high pairs
    → i < length pairs → low < get_or (numbers pairs) i 0
number-above low high [] i rising within = absurd (omega arith)
number-above low high (one ∷ pairs) zero rising within = rising.0
number-above low high (one ∷ pairs) (suc i) rising within =
    let rest : one.number < get_or (numbers pairs) i 0 = number-above one.number high pairs i rising.1 (omega arith) in
    omega (arith, rising.0)

-- a number that isn't above the bound is nobody's
remove-below : (number low high : ℕ) (pairs : List Numbered) → number ≤ low
    → IsRising low high pairs → remove_pair number pairs ≡ pairs
remove-below number low high [] below rising = refl
remove-below number low high (one ∷ pairs) below rising =
    let above : low < one.number = rising.0 in
    let rest : remove_pair number pairs ≡ pairs = remove-below number one.number high pairs (omega (arith, above)) rising.1 in
    grind (arith, nat_tests)

pub rising-remove : (number low high : ℕ) (pairs : List Numbered) → IsRising low high pairs
    → IsRising low high (remove_pair number pairs)
rising-remove number low high [] rising = rising
rising-remove number low high (one ∷ pairs) rising = elim (cases_eq number one.number) [
  | inl here ↦
      (let is : remove_pair number (one ∷ pairs) ≡ remove_pair number pairs = grind (arith, nat_tests) in
      let P : List Numbered → Type 0 = λ all. IsRising low high all in
      subst P (sym is) (rising-remove number low high pairs (rising-lower one.number low high pairs (omega (arith, rising.0)) rising.1)))
  | inr apart ↦
      (let is : remove_pair number (one ∷ pairs) ≡ one ∷ remove_pair number pairs = grind (arith, nat_tests) in
      let P : List Numbered → Type 0 = λ all. IsRising low high all in
      subst P (sym is) (rising.0, rising-remove number one.number high pairs rising.1))
]

pub rising-put : (number low high : ℕ) (pair : Pair) (pairs : List Numbered)
    → IsRising low high pairs → IsRising low high (put_pair number pair pairs)
rising-put number low high pair [] rising = rising
rising-put number low high pair (one ∷ pairs) rising = elim (cases_eq number one.number) [
  | inl here ↦
      (let is : put_pair number pair (one ∷ pairs) ≡ record { number = number; pair = pair } ∷ pairs = grind (arith, nat_tests) in
      let P : List Numbered → Type 0 = λ all. IsRising low high all in
      let above : low < number = omega (arith, rising.0, here) in
      let Q : ℕ → Type 0 = λ n. IsRising n high pairs in
      subst P (sym is) (above, subst Q (sym here) rising.1))
  | inr apart ↦
      (let is : put_pair number pair (one ∷ pairs) ≡ one ∷ put_pair number pair pairs = grind (arith, nat_tests) in
      let P : List Numbered → Type 0 = λ all. IsRising low high all in
      subst P (sym is) (rising.0, rising-put number one.number high pair pairs rising.1))
]

-- ---- a place

found-at : (number low high : ℕ) (pairs : List Numbered) (i : ℕ) → IsRising low high pairs
    → i < length pairs → get_or (numbers pairs) i 0 ≡ number → (found : Numbered)
    → slice_get pairs i ≡ Some found → find_pair number pairs ≡ Some found.pair
found-at number low high [] i rising within is found there = absurd (omega arith)
found-at number low high (one ∷ pairs) zero rising within is found there =
    let same : one ≡ found = same_Some _ _ there in
    let test : (number == one.number) ≡ true = (Decides-eqb number one.number).1 (sym is) in
    ap (λ (b : Bool). if b then Some one.pair else find_pair number pairs) test ∙ ap (λ (n : Numbered). Some n.pair) same
found-at number low high (one ∷ pairs) (suc i) rising within is found there =
    let later : one.number < get_or (numbers pairs) i 0 = number-above one.number high pairs i rising.1 (omega arith) in
    let rest : find_pair number pairs ≡ Some found.pair = found-at number one.number high pairs i rising.1 (omega arith) is found there in
    grind (arith, nat_tests)

numbered-at : (pairs : List Numbered) (i : ℕ) (found : Numbered) → slice_get pairs i ≡ Some found
    → found.number ≡ get_or (numbers pairs) i 0
numbered-at [] i found there = absurd (none-some _ there)
numbered-at (one ∷ pairs) zero found there = ap (λ (n : Numbered). n.number) (sym (same_Some _ _ there))
numbered-at (one ∷ pairs) (suc i) found there = numbered-at pairs i found there

put-at : (number low high : ℕ) (pairs : List Numbered) (i : ℕ) → IsRising low high pairs
    → i < length pairs → get_or (numbers pairs) i 0 ≡ number → (pair : Pair)
    → put_pair number pair pairs ≡ slice_set pairs i (record { number = number; pair = pair })
put-at number low high [] i rising within is pair = absurd (omega arith)
put-at number low high (one ∷ pairs) zero rising within is pair =
    let here : one.number ≡ number = is in
    grind (arith, nat_tests)
put-at number low high (one ∷ pairs) (suc i) rising within is pair =
    let later : one.number < get_or (numbers pairs) i 0 = number-above one.number high pairs i rising.1 (omega arith) in
    let rest : put_pair number pair pairs ≡ slice_set pairs i (record { number = number; pair = pair }) = put-at number one.number high pairs i rising.1 (omega arith) is pair in
    grind (arith, nat_tests)

removed-at : (number low high : ℕ) (pairs : List Numbered) (i : ℕ) → IsRising low high pairs
    → i < length pairs → get_or (numbers pairs) i 0 ≡ number
    → remove_pair number pairs ≡ remove pairs i
removed-at number low high [] i rising within is = absurd (omega arith)
removed-at number low high (one ∷ pairs) zero rising within is =
    let here : one.number ≡ number = is in
    let rest : remove_pair number pairs ≡ pairs = remove-below number one.number high pairs (omega (arith, here)) rising.1 in
    grind (arith, nat_tests)
removed-at number low high (one ∷ pairs) (suc i) rising within is =
    let later : one.number < get_or (numbers pairs) i 0 = number-above one.number high pairs i rising.1 (omega arith) in
    let rest : remove_pair number pairs ≡ remove pairs i = removed-at number one.number high pairs i rising.1 (omega arith) is in
    grind (arith, nat_tests)

-- a place where the number stands is the pair's
is_place : (number low high : ℕ) (pairs : List Numbered) (i : ℕ) → IsRising low high pairs
    → i < length pairs → get_or (numbers pairs) i 0 ≡ number → IsPlace number pairs i
is_place number low high pairs i rising within is = record {
  within = within;
  found = found-at number low high pairs i rising within is;
  numbered = λ one there. numbered-at pairs i one there ∙ is;
  put = put-at number low high pairs i rising within is;
  removed = removed-at number low high pairs i rising within is;
}

-- a number that isn't there is nobody's
absent : (number : ℕ) (pairs : List Numbered)
    → ((k : ℕ) → k < length pairs → get_or (numbers pairs) k 0 ≢ number)
    → find_pair number pairs ≡ None
absent number [] apart = refl
absent number (one ∷ pairs) apart =
    let here : one.number ≢ number = apart 0 (omega arith) in
    let rest : find_pair number pairs ≡ None = absent number pairs (λ k h. apart (suc k) (omega arith)) in
    grind (arith, nat_tests)

-- ---- slots

numbers-pairs_of : (slots : List Slot) (i : ℕ) (d : Slot) → i < length slots
    → get_or (numbers (pairs_of slots)) i 0 ≡ (get_or slots i d).number
numbers-pairs_of [] i d within = absurd (omega arith)
numbers-pairs_of (slot ∷ slots) zero d within = refl
numbers-pairs_of (slot ∷ slots) (suc i) d within = numbers-pairs_of slots i d (omega arith)

pub length-pairs_of : (slots : List Slot) → length (pairs_of slots) ≡ length slots
length-pairs_of [] = refl
length-pairs_of (slot ∷ slots) = grind (arith, length-pairs_of slots)

-- a rising list doesn't fall
numbers-ordered : (low high : ℕ) (pairs : List Numbered) (i j : ℕ) → IsRising low high pairs → i ≤ j
    → j < length pairs → get_or (numbers pairs) i 0 ≤ get_or (numbers pairs) j 0
numbers-ordered low high [] i j rising order within = absurd (omega arith)
numbers-ordered low high (one ∷ pairs) zero zero rising order within = omega arith
numbers-ordered low high (one ∷ pairs) zero (suc j) rising order within =
    let later : one.number < get_or (numbers pairs) j 0 = number-above one.number high pairs j rising.1 (omega arith) in
    omega arith
numbers-ordered low high (one ∷ pairs) (suc i) zero rising order within = absurd (omega arith)
numbers-ordered low high (one ∷ pairs) (suc i) (suc j) rising order within =
    numbers-ordered one.number high pairs i j rising.1 (omega arith) (omega arith)

-- a slot of nobody
pub no_slot : Slot
no_slot = record { number = 0; client = empty_half; upstream = empty_half; waits = waits.Nothing; is_linked = false; is_used = false; is_bound = false }

-- the comparisons with a number rise along the slots, as a binary search asks
comparisons_rise : (slots : List Slot) (number high : ℕ) → IsRising 0 high (pairs_of slots)
    → IsNonDecreasingBy (λ slot. ordering_index (nat_cmp slot.number number)) slots
comparisons_rise slots number high rising =
    IsNonDecreasingBy-from_default (λ slot. ordering_index (nat_cmp slot.number number)) slots no_slot (λ i j order within.
    let inside : j < length (pairs_of slots) = rw (length-pairs_of slots) within in
    let first = numbers-pairs_of slots i no_slot (omega arith) in
    let second = numbers-pairs_of slots j no_slot within in
    let rise : get_or (numbers (pairs_of slots)) i 0 ≤ get_or (numbers (pairs_of slots)) j 0 = numbers-ordered 0 high (pairs_of slots) i j rising order inside in
    let slots_rise : (get_or slots i no_slot).number ≤ (get_or slots j no_slot).number = omega (arith, first, second, rise) in
    grind (arith, nat_tests, slots_rise))

-- what a binary search by number answers among pairs whose numbers rise
pub searched_pairs : (slots : List Slot) (number high : ℕ) (r : Result ℕ ℕ)
    → IsSearchInRange r (length slots)
    → IsBinarySearchResult (λ slot. nat_cmp slot.number number) slots r
    → IsRising 0 high (pairs_of slots)
    → MatchOption (result_ok r) (find_pair number (pairs_of slots) ≡ None) (λ place. IsPlace number (pairs_of slots) place)
searched_pairs slots number high (Ok place) within answer rising =
    let inside : place < length (pairs_of slots) = rw (length-pairs_of slots) within in
    let here : (get_or slots place no_slot).number ≡ number = ranked _ number _ (sym (answer no_slot)) in
    is_place number 0 high (pairs_of slots) place rising inside (numbers-pairs_of slots place no_slot within ∙ here)
searched_pairs slots number high (Err place) within answer rising =
    let parted = answer (comparisons_rise slots number high rising) in
    absent number (pairs_of slots) (λ k inside same.
    let within_slots : k < length slots = rw (length-pairs_of slots) at inside in
    let is : (get_or slots k no_slot).number ≡ number = sym (numbers-pairs_of slots k no_slot within_slots) ∙ same in
    elim (cases_lt k place) [
      | inl before ↦ (let less : (get_or slots k no_slot).number < number = ranked _ number _ (sym (parted.0 k no_slot (omega arith) before)) in omega (arith, less, is))
      | inr behind ↦ (let greater : number < (get_or slots k no_slot).number = ranked _ number _ (sym (parted.1 k no_slot behind within_slots)) in omega (arith, greater, is))
    ])

-- ---- a slot that was tried

-- a slot of the number stands there
pub stands_at : (slots : List Slot) (number place : ℕ) (slot : Slot)
    → slice_get slots place ≡ Some slot → slot.number ≡ number
    → StandsAt number (pairs_of slots) place
stands_at [] number place slot there same = absurd (none-some _ there)
stands_at (first ∷ slots) number zero slot there same = record {
  within = omega arith;
  same = λ one here. ap (λ (n : Numbered). n.number) (sym (same_Some _ _ here)) ∙ ap (λ (s : Slot). s.number) (same_Some _ _ there) ∙ same;
}
stands_at (first ∷ slots) number (suc place) slot there same =
    let rest = stands_at slots number place slot there same in
    record { within = omega (arith, rest.within); same = rest.same }

numbered_there : (pairs : List Numbered) (i : ℕ) (number : ℕ) → i < length pairs
    → ((one : Numbered) → slice_get pairs i ≡ Some one → one.number ≡ number)
    → get_or (numbers pairs) i 0 ≡ number
numbered_there [] i number within same = absurd (omega arith)
numbered_there (one ∷ pairs) zero number within same = same one refl
numbered_there (one ∷ pairs) (suc i) number within same = numbered_there pairs i number (omega arith) same

-- where a pair of the number stands, there it is
pub is_where_it_stands : (slots : List Slot) (number high place : ℕ)
    → IsRising 0 high (pairs_of slots) → StandsAt number (pairs_of slots) place
    → IsPlace number (pairs_of slots) place
is_where_it_stands slots number high place rising stands =
    is_place number 0 high (pairs_of slots) place rising stands.within (numbered_there (pairs_of slots) place number stands.within stands.same)
