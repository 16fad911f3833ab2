-- Pairs by their numbers, and which of them have a spare connection to the agent behind.
use Rattle.std.proofs.Common.{◌≡◌, ◌∙◌, ◌==◌, ◌&&◌, ◌||◌, ◌≤◌, if◌then◌else◌, ℕ, suc, Bool, true, false, not, List, [], ◌∷◌, ◌++◌, length, Option, Some, None, refl, sym, ap, cond, arith, inl, inr}
use Rattle.std.proofs.lemmas.Bool.{cases_eq, eqb-true}
use Rattle.std.proofs.lemmas.Bool.Decides.{nat_tests}
use Rattle.std.proofs.lemmas.List.{length-append}
use Rattle.std.proofs.lemmas.List.Folds.{list_any-append}
use Rattle.std.proofs.lemmas.Map.Views.{any-filter_same}
use Rattle.std.proofs.lemmas.Option.{none-some}
use Rattle.filter_model.specs.Pairs.{Pair, unlinked}
use Rattle.filter_model.specs.Filters.{Numbered, find_pair, has_number, put_pair, remove_pair, spares_if, unlinked_by, unlinked_in, without}

-- ---- pairs by their numbers

pub found-put : (number : ℕ) (pair was : Pair) (pairs : List Numbered) → find_pair number pairs ≡ Some was → find_pair number (put_pair number pair pairs) ≡ Some pair
found-put number pair was [] found = absurd (none-some _ found)
found-put number pair was (one ∷ others) found = elim (cases_eq number one.number) [
  | inl here ↦ grind (arith, nat_tests)
  | inr other ↦ (let rest : find_pair number others ≡ Some was = grind (arith, nat_tests) in let later = found-put number pair was others rest in grind (arith, nat_tests))
]

pub kept-put : (number other : ℕ) (pair : Pair) (pairs : List Numbered) → (number == other) ≡ false → find_pair number (put_pair other pair pairs) ≡ find_pair number pairs
kept-put number other pair [] apart = refl
kept-put number other pair (one ∷ others) apart = let later = kept-put number other pair others apart in grind (arith, nat_tests)

pub gone-remove : (number : ℕ) (pairs : List Numbered) → find_pair number (remove_pair number pairs) ≡ None
gone-remove number [] = refl
gone-remove number (one ∷ others) = let later = gone-remove number others in grind (arith, nat_tests)

pub kept-remove : (number other : ℕ) (pairs : List Numbered) → (number == other) ≡ false → find_pair number (remove_pair other pairs) ≡ find_pair number pairs
kept-remove number other [] apart = refl
kept-remove number other (one ∷ others) apart = let later = kept-remove number other others apart in grind (arith, nat_tests)

pub found-append : (number : ℕ) (pairs : List Numbered) (new : Numbered) → (number == new.number) ≡ false → find_pair number (pairs ++ new ∷ []) ≡ find_pair number pairs
found-append number [] new apart = ap (λ b. if b then Some new.pair else None) apart
found-append number (one ∷ others) new apart = ap (λ f. if number == one.number then Some one.pair else f) (found-append number others new apart)

pub found-new : (number : ℕ) (pairs : List Numbered) (new : Numbered) → number ≡ new.number → find_pair number pairs ≡ None → find_pair number (pairs ++ new ∷ []) ≡ Some new.pair
found-new number [] new is none = grind (arith, nat_tests)
found-new number (one ∷ others) new is none = elim (cases_eq number one.number) [
  | inl here ↦ (let bad : Some one.pair ≡ None = grind (arith, nat_tests) in absurd (none-some _ (sym bad)))
  | inr other ↦ (let rest : find_pair number others ≡ None = grind (arith, nat_tests) in let later = found-new number others new is rest in grind (arith, nat_tests))
]

pub found-more : (number : ℕ) (pair : Pair) (pairs : List Numbered) (new : Numbered) → find_pair number pairs ≡ Some pair → find_pair number (pairs ++ new ∷ []) ≡ Some pair
found-more number pair [] new found = absurd (none-some _ found)
found-more number pair (one ∷ others) new found = elim (cases_eq number one.number) [
  | inl here ↦ grind (arith, nat_tests)
  | inr other ↦ (let rest : find_pair number others ≡ Some pair = grind (arith, nat_tests) in let later = found-more number pair others new rest in grind (arith, nat_tests))
]

-- ---- one is without its connection

unlinked-other : (found : Option Pair) (number other : ℕ) (pairs : List Numbered) → (number == other) ≡ false
    → find_pair number (unlinked_by found other pairs) ≡ find_pair number pairs
unlinked-other None number other pairs apart = refl
unlinked-other (Some pair) number other pairs apart = kept-put number other (unlinked pair) pairs apart

pub kept-unlinked : (number other : ℕ) (pairs : List Numbered) → (number == other) ≡ false → find_pair number (unlinked_in other pairs) ≡ find_pair number pairs
kept-unlinked number other pairs apart = unlinked-other (find_pair other pairs) number other pairs apart

pub found-unlinked : (number : ℕ) (pair : Pair) (pairs : List Numbered) → find_pair number pairs ≡ Some pair → find_pair number (unlinked_in number pairs) ≡ Some (unlinked pair)
found-unlinked number pair pairs found =
    ap (λ (f : Option Pair). find_pair number (unlinked_by f number pairs)) found ∙ found-put number (unlinked pair) pair pairs found

pub none-unlinked : (number : ℕ) (pairs : List Numbered) → find_pair number pairs ≡ None → find_pair number (unlinked_in number pairs) ≡ None
none-unlinked number pairs none = ap (λ (f : Option Pair). find_pair number (unlinked_by f number pairs)) none ∙ none

-- ---- numbers

pub same-number : (number : ℕ) → (number == number) ≡ true
same-number number = grind (arith, nat_tests)

pub apart-back : (number other : ℕ) → (number == other) ≡ false → (other == number) ≡ false
apart-back number other apart = grind (arith, nat_tests)

pub has-without : (number other : ℕ) (numbers : List ℕ) → has_number number (without other numbers) ≡ (not (other == number) && has_number number numbers)
has-without number other numbers =
    any-filter_same (λ k. number == k) (λ k. not (other == k)) (not (other == number)) (λ k is. ap (λ n. not (other == n)) (sym (eqb-true number k is))) numbers

-- one that was taken out isn't there
pub gone-without : (number : ℕ) (numbers : List ℕ) → has_number number (without number numbers) ≡ false
gone-without number numbers = has-without number number numbers ∙ ap (λ b. not b && has_number number numbers) (same-number number)

-- the others are
pub kept-without : (number other : ℕ) (numbers : List ℕ) → (number == other) ≡ false → has_number number (without other numbers) ≡ has_number number numbers
kept-without number other numbers apart =
    has-without number other numbers ∙ ap (λ b. not b && has_number number numbers) (apart-back number other apart)

or-none : (here : Bool) → (here || false) ≡ here
or-none true = refl
or-none false = refl

or-some : (here : Bool) → (here || true) ≡ true
or-some true = refl
or-some false = refl

pub has-pushed : (number new : ℕ) (numbers : List ℕ) → has_number number (numbers ++ new ∷ []) ≡ (has_number number numbers || (number == new))
has-pushed number new numbers =
    list_any-append (λ k. number == k) numbers (new ∷ []) ∙ ap (λ b. has_number number numbers || b) (or-none (number == new))

-- a pair's own event tells whether it has a spare connection
pub spares-own : (is : Bool) (number : ℕ) (spares : List ℕ) → has_number number (spares_if is number spares) ≡ is
spares-own true number spares = by_here (has_number number spares) refl
  where
    by_here : (here : Bool) → has_number number spares ≡ here → has_number number (if here then spares else spares ++ number ∷ []) ≡ true
    by_here true is = is
    by_here false is =
        has-pushed number number spares ∙ ap (λ b. has_number number spares || b) (same-number number) ∙ or-some (has_number number spares)
spares-own false number spares = gone-without number spares

-- and tells nothing of the others
pub spares-other : (is : Bool) (number other : ℕ) (spares : List ℕ) → (number == other) ≡ false → has_number number (spares_if is other spares) ≡ has_number number spares
spares-other true number other spares apart = by_here (has_number other spares)
  where
    by_here : (here : Bool) → has_number number (if here then spares else spares ++ other ∷ []) ≡ has_number number spares
    by_here true = refl
    by_here false = has-pushed number other spares ∙ ap (λ b. has_number number spares || b) apart ∙ or-none (has_number number spares)
spares-other false number other spares apart = kept-without number other spares apart

-- ---- how many

shorter-by : (test : Bool) (other : ℕ) (kept numbers : List ℕ) → length kept ≤ length numbers → length (cond test (other ∷ kept) kept) ≤ suc (length numbers)
shorter-by true other kept numbers rest = omega (arith, rest)
shorter-by false other kept numbers rest = omega (arith, rest)

pub length-without : (number : ℕ) (numbers : List ℕ) → length (without number numbers) ≤ length numbers
length-without number [] = omega arith
length-without number (other ∷ numbers) =
    shorter-by (not (number == other)) other (without number numbers) numbers (length-without number numbers)

-- without the first of them
pub length-tail : (number : ℕ) (numbers : List ℕ) → length (without number (number ∷ numbers)) ≤ length numbers
length-tail number numbers =
    let same : without number (number ∷ numbers) ≡ without number numbers = ap (λ b. cond (not b) (number ∷ without number numbers) (without number numbers)) (same-number number) in
    let less = length-without number numbers in
    let equal = ap length same in
    omega (arith, less, equal)

pub length-spares : (is : Bool) (number : ℕ) (spares : List ℕ) → length (spares_if is number spares) ≤ suc (length spares)
length-spares true number spares = by_here (has_number number spares)
  where
    by_here : (here : Bool) → length (if here then spares else spares ++ number ∷ []) ≤ suc (length spares)
    by_here true = omega arith
    by_here false = let one = length-append spares (number ∷ []) in omega (arith, one)
length-spares false number spares =
    let less = length-without number spares in
    omega (arith, less)
