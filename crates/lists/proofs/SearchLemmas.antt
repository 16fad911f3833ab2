-- What a binary search by number answers in a list whose numbers rise, and the numbers alone.
use Rattle.std.proofs.Common.{◌≡◌, ◌≢◌, ℕ, Bool, false, zero, suc, ◌<◌, List, [], ◌∷◌, length, get_or, map, refl, arith, sym, None, Result, Ok, Err, MatchOption, inl, inr}
use Rattle.std.proofs.lemmas.Bool.{cases_lt, eq-eqb}
use Rattle.std.proofs.lemmas.Bool.Decides.{nat_tests}
use Rattle.std.proofs.lemmas.Cmp.{ranked}
use Rattle.std.proofs.lemmas.List.Sorted.{IsNonDecreasingBy-from_default}
use Rattle.std.specs.List.Sorted.{IsBinarySearchResult, IsSearchInRange, IsNonDecreasingBy}
use Rattle.std.specs.Ordering.{nat_cmp, ordering_index}
use Rattle.std.specs.Result.{result_ok}
use Rattle.lists.specs.Firsts.{IsFirst}
use Rattle.lists.specs.Keyed.{RiseBy, find_by, has_key}
use Rattle.lists.specs.Rising.{IsRisingNumbers}
use Rattle.lists.proofs.FirstLemmas.{later}
use Rattle.lists.proofs.KeyedLemmas.{differ}

module _ {A : Type 0} (key : A → ℕ) where
  -- the numbers alone rise
  pub rise-numbers : (low high : ℕ) (all : List A) → RiseBy key low all high →
      IsRisingNumbers low (map key all)
  rise-numbers low high [] rise = tt
  rise-numbers low high (one ∷ all) rise = (rise.0, rise-numbers (key one) high all rise.1)

  -- each is above the bound
  pub key-above : (low high : ℕ) (all : List A) (i : ℕ) (other : A) → RiseBy key low all high →
      i < length all → low < key (get_or all i other)
  key-above low high [] i other rise within = absurd (omega arith)
  key-above low high (one ∷ all) zero other rise within = rise.0
  key-above low high (one ∷ all) (suc i) other rise within =
      let rest : key one < key (get_or all i other) = key-above (key one) high all i other rise.1 (omega arith) in
      omega (arith, rise.0)

  -- and above those before it
  pub keys-ordered : (low high : ℕ) (all : List A) (i j : ℕ) (other : A) → RiseBy key low all high →
      i < j → j < length all →
      key (get_or all i other) < key (get_or all j other)
  keys-ordered low high [] i j other rise order within = absurd (omega arith)
  keys-ordered low high (one ∷ all) i zero other rise order within = absurd (omega arith)
  keys-ordered low high (one ∷ all) zero (suc j) other rise order within =
      key-above (key one) high all j other rise.1 (omega arith)
  keys-ordered low high (one ∷ all) (suc i) (suc j) other rise order within =
      keys-ordered (key one) high all i j other rise.1 (omega arith) (omega arith)

  -- what stands nowhere isn't found
  pub found_nowhere : (number : ℕ) (all : List A) →
      ((k : ℕ) (other : A) → k < length all → key (get_or all k other) ≢ number) →
      find_by key number all ≡ None
  found_nowhere number [] absent = refl
  found_nowhere number (one ∷ all) absent =
      rw (differ (key one) number (absent 0 one (omega arith))) (found_nowhere number all (λ k other within. absent (suc k) other (omega arith)))

  -- an element of the number is the first
  pub first-at : (number low high : ℕ) (all : List A) (place : ℕ) → RiseBy key low all high →
      place < length all →
      ((other : A) → key (get_or all place other) ≡ number) → IsFirst (has_key key number) all place
  first-at number low high all place rise within is = record {
    within = within;
    there = λ other. eq-eqb _ number (is other);
    before = λ k other earlier. differ (key (get_or all k other)) number (λ same.
        let less = keys-ordered low high all k place other rise earlier within in
        omega (arith, less, is other, same));
  }

  -- the comparisons with a number rise, as a binary search asks
  pub comparisons_rise : (number low high : ℕ) (all : List A) → RiseBy key low all high →
      IsNonDecreasingBy (λ one. ordering_index (nat_cmp (key one) number)) all
  comparisons_rise number low high [] rise = λ i j d order within. absurd (omega arith)
  comparisons_rise number low high (one ∷ all) rise =
      IsNonDecreasingBy-from_default (λ one. ordering_index (nat_cmp (key one) number)) (one ∷ all) one (λ i j order within. elim (cases_lt i j) [
        | inl before ↦ (let less =
            keys-ordered low high (one ∷ all) i j one rise before within in grind (arith, nat_tests, less))
        | inr same ↦ (let is : i ≡ j = omega arith in grind (arith, nat_tests, is))
      ])

  pub searched_by : (number low high : ℕ) (all : List A) (r : Result ℕ ℕ) →
      IsSearchInRange r (length all) →
      IsBinarySearchResult (λ one. nat_cmp (key one) number) all r →
      RiseBy key low all high →
      MatchOption (result_ok r) (find_by key number all ≡ None) (IsFirst (has_key key number) all)
  searched_by number low high all (Ok place) within answer rise =
      first-at number low high all place rise within (λ other. ranked _ number _ (sym (answer other)))
  searched_by number low high all (Err place) within answer rise =
      let parted = answer (comparisons_rise number low high all rise) in
      found_nowhere number all (λ k other inside same. elim (cases_lt k place) [
        | inl before ↦ (let less : key (get_or all k other) < number =
            ranked _ number _ (sym (parted.0 k other (omega arith) before)) in omega (arith, less, same))
        | inr behind ↦ (let greater : number < key (get_or all k other) =
            ranked _ number _ (sym (parted.1 k other behind inside)) in omega (arith, greater, same))
      ])

-- ---- of other elements that are seen as these

-- numbers that rise among what is seen rise among what is kept
pub rise-seen : {A B : Type 0} (see : A → B) (key : B → ℕ) (low high : ℕ) (all : List A) →
    RiseBy key low (map see all) high → RiseBy (λ one. key (see one)) low all high
rise-seen see key low high [] rise = rise
rise-seen see key low high (one ∷ all) rise =
    (rise.0, rise-seen see key (key (see one)) high all rise.1)

-- and the first of the kept is that of the seen
pub first-seen : {A B : Type 0} (see : A → B) (test : B → Bool) (all : List A) (place : ℕ) →
    IsFirst (λ one. test (see one)) all place → IsFirst test (map see all) place
first-seen see test [] place at = absurd (omega (arith, at.within))
first-seen see test (one ∷ all) zero at = record {
  within = omega arith;
  there = λ other. at.there one;
  before = λ k other earlier. absurd (omega (arith, earlier));
}
first-seen see test (one ∷ all) (suc place) at =
    let behind : IsFirst test (map see all) place =
    first-seen see test all place (later (λ any. test (see any)) one all place at) in
    record {
      within = omega (arith, behind.within);
      there = behind.there;
      before = before behind.before;
    }
  where
    before : ((k : ℕ) (other : _) → k < place → test (get_or (map see all) k other) ≡ false) →
        (k : ℕ) (other : _) → k < suc place → test (get_or (see one ∷ map see all) k other) ≡ false
    before rest zero other earlier = at.before 0 one (omega arith)
    before rest (suc k) other earlier = rest k other (omega (arith, earlier))
