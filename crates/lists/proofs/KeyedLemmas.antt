-- Lemmas on lists whose elements have a number each.
use Rattle.std.proofs.Common.{◌≡◌, ◌≢◌, ℕ, ◌<◌, ◌≤◌, Bool, true, false, cond, eqb, List, [], ◌∷◌, ◌++◌, Option, Some, None, ◌⊎◌, refl, sym, ap, subst, ◌∙◌, arith, inl, inr}
use Rattle.std.specs.Option.{option_map}
use Rattle.std.proofs.lemmas.Bool.{cases_eq, eqb-true, false_from_ne_true}
use Rattle.std.proofs.lemmas.Bool.Decides.{nat_tests}
use Rattle.lists.specs.Firsts.{IsOnly}
use Rattle.lists.specs.Keyed.{RiseBy, change_by, find_by, has_key, remove_by}
use Rattle.lists.proofs.FirstLemmas.{find-change, find-change_apart, find-remove_apart, find-removed, found_passes}

-- different numbers do not pass the test
pub differ : (a b : ℕ) → a ≢ b → eqb a b ≡ false
differ a b apart = false_from_ne_true (eqb a b) (λ is. apart (eqb-true a b is))

module _ {A : Type 0} (key : A → ℕ) where
  -- ---- what a number finds

  -- it has the number
  pub found_key : (number : ℕ) (all : List A) (one : A) → find_by key number all ≡ Some one →
      key one ≡ number
  found_key number all one found =
      eqb-true (key one) number (found_passes (has_key key number) all one found)

  -- an element of a number hasn't another
  apart_key : (number other : ℕ) → number ≢ other → (one : A) → has_key key other one ≡ true →
      has_key key number one ≡ false
  apart_key number other apart one is =
      differ (key one) number (λ here. apart (sym here ∙ eqb-true (key one) other is))

  -- a change that keeps the numbers keeps each test of them
  pub keeps_key : (number : ℕ) (f : A → A) → ((one : A) → key (f one) ≡ key one) → (one : A) →
      has_key key number (f one) ≡ has_key key number one
  keeps_key number f keeps one = ap (λ n. eqb n number) (keeps one)

  -- another is found where this one is changed
  pub find_by-change_apart : (number other : ℕ) (f : A → A) (all : List A) →
      ((one : A) → key (f one) ≡ key one) → number ≢ other →
      find_by key number (change_by key other f all) ≡ find_by key number all
  find_by-change_apart number other f all keeps apart =
      find-change_apart (has_key key number) (has_key key other) f all (apart_key number other apart)
      (λ one is. keeps_key number f keeps one ∙ apart_key number other apart one is)

  -- and where it is removed
  pub find_by-remove_apart : (number other : ℕ) (all : List A) → number ≢ other →
      find_by key number (remove_by key other all) ≡ find_by key number all
  find_by-remove_apart number other all apart =
      find-remove_apart (has_key key number) (has_key key other) all (apart_key number other apart)

  -- this one is found changed
  pub find_by-change : (number : ℕ) (f : A → A) (all : List A) →
      ((one : A) → key (f one) ≡ key one) →
      find_by key number (change_by key number f all) ≡ option_map f (find_by key number all)
  find_by-change number f all keeps =
      find-change (has_key key number) f all (keeps_key number f keeps)

  -- what is found after a change was there, as it is or before it was changed
  pub changed_back : (number other : ℕ) (f : A → A) (all : List A) (one : A) →
      ((any : A) → key (f any) ≡ key any) → find_by key number (change_by key other f all) ≡ Some one →
      (was : A) × (find_by key number all ≡ Some was) × ((one ≡ was) ⊎ (one ≡ f was))
  changed_back number other f all one keeps found = elim (cases_eq number other) [
    | inl same ↦ by_found (find_by key number all) refl
        (sym (find_by-change number f all keeps)
        ∙ ap (λ n. find_by key number (change_by key n f all)) same ∙ found)
    | inr apart ↦
        (one, sym (find_by-change_apart number other f all keeps apart) ∙ found, inl refl)
  ]
    where
      by_found : (was : Option A) → find_by key number all ≡ was → option_map f was ≡ Some one →
          (was : A) × (find_by key number all ≡ Some was) × ((one ≡ was) ⊎ (one ≡ f was))
      by_found None is there = absurd cc
      by_found (Some was) is there =
          let changed : f was ≡ one = cc in (was, is, inr (sym changed))

  -- and what was there is found after it
  pub changed_forth : (number other : ℕ) (f : A → A) (all : List A) (was : A) →
      ((any : A) → key (f any) ≡ key any) → find_by key number all ≡ Some was →
      (one : A) × (find_by key number (change_by key other f all) ≡ Some one)
      × ((one ≡ was) ⊎ (one ≡ f was))
  changed_forth number other f all was keeps found = elim (cases_eq number other) [
    | inl same ↦ (
      f was,
      ap (λ n. find_by key number (change_by key n f all)) (sym same)
          ∙ find_by-change number f all keeps ∙ ap (option_map f) found,
      inr refl,
    )
    | inr apart ↦
        (was, find_by-change_apart number other f all keeps apart ∙ found, inl refl)
  ]

  -- ---- numbers that rise

  -- the bound may be lower, and the last may be greater
  pub rise-lower : (lower low high : ℕ) (all : List A) → lower ≤ low → RiseBy key low all high →
      RiseBy key lower all high
  rise-lower lower low high [] below rise = omega arith
  rise-lower lower low high (one ∷ all) below rise = (omega (arith, rise.0), rise.1)

  pub rise-higher : (low high higher : ℕ) (all : List A) → high ≤ higher → RiseBy key low all high →
      RiseBy key low all higher
  rise-higher low high higher [] above rise = omega arith
  rise-higher low high higher (one ∷ all) above rise =
      (rise.0, rise-higher (key one) high higher all above rise.1)

  -- the bound is no more than the last
  pub rise-bound : (low high : ℕ) (all : List A) → RiseBy key low all high → low ≤ high
  rise-bound low high [] rise = rise
  rise-bound low high (one ∷ all) rise = omega (arith, rise.0, rise-bound (key one) high all rise.1)

  -- with one more, above the last
  pub rise-push : (low high : ℕ) (all : List A) (last : A) → high < key last →
      RiseBy key low all high → RiseBy key low (all ++ last ∷ []) (key last)
  rise-push low high [] last above rise = (omega arith, omega arith)
  rise-push low high (one ∷ all) last above rise =
      (rise.0, rise-push (key one) high all last above rise.1)

  -- with one less
  pub rise-remove : (number low high : ℕ) (all : List A) → RiseBy key low all high →
      RiseBy key low (remove_by key number all) high
  rise-remove number low high [] rise = rise
  rise-remove number low high (one ∷ all) rise =
      by_test (has_key key number one) (rise-remove number (key one) high all rise.1)
    where
      by_test : (is : Bool) → RiseBy key (key one) (remove_by key number all) high →
          RiseBy key low (cond is all (one ∷ remove_by key number all)) high
      by_test true rest = rise-lower low (key one) high all (omega (arith, rise.0)) rise.1
      by_test false rest = (rise.0, rest)

  -- with one changed that keeps its number
  pub rise-change : (number low high : ℕ) (f : A → A) (all : List A) →
      ((one : A) → key (f one) ≡ key one) → RiseBy key low all high →
      RiseBy key low (change_by key number f all) high
  rise-change number low high f [] keeps rise = rise
  rise-change number low high f (one ∷ all) keeps rise =
      by_test (has_key key number one) (rise-change number (key one) high f all keeps rise.1)
    where
      by_test : (is : Bool) → RiseBy key (key one) (change_by key number f all) high →
          RiseBy key low (cond is (f one ∷ all) (one ∷ change_by key number f all)) high
      by_test true rest =
          (omega (arith, keeps one, rise.0), subst (λ n. RiseBy key n all high) (sym (keeps one)) rise.1)
      by_test false rest = (rise.0, rest)

  -- ---- what a number finds among numbers that rise

  -- nothing has the bound's number or a lower one
  pub find_by-below : (number low high : ℕ) (all : List A) → number ≤ low →
      RiseBy key low all high → find_by key number all ≡ None
  find_by-below number low high [] below rise = refl
  find_by-below number low high (one ∷ all) below rise =
      let rest : find_by key number all ≡ None = find_by-below number (key one) high all (omega (arith, rise.0)) rise.1 in
      rw (differ (key one) number (λ is. omega (arith, rise.0))) rest

  -- nor one above the last
  pub find_by-above : (number low high : ℕ) (all : List A) → high < number →
      RiseBy key low all high → find_by key number all ≡ None
  find_by-above number low high [] above rise = refl
  find_by-above number low high (one ∷ all) above rise =
      let bound : key one ≤ high = rise-bound (key one) high all rise.1 in
      rw (differ (key one) number (λ is. omega arith)) (find_by-above number (key one) high all above rise.1)

  -- so what is found has a number above the bound
  pub found_above : (number low high : ℕ) (all : List A) (one : A) → RiseBy key low all high →
      find_by key number all ≡ Some one → low < number
  found_above number low high [] one rise found = absurd cc
  found_above number low high (first ∷ all) one rise found = elim (cases_eq (key first) number) [
    | inl here ↦ omega (arith, rise.0, here)
    | inr apart ↦
        (let later : find_by key number all ≡ Some one = grind (arith, nat_tests) in
        let rest : key first < number = found_above number (key first) high all one rise.1 later in
        omega (arith, rise.0))
  ]

  -- and none above the last
  pub found_within : (number low high : ℕ) (all : List A) (one : A) → RiseBy key low all high →
      find_by key number all ≡ Some one → number ≤ high
  found_within number low high [] one rise found = absurd cc
  found_within number low high (first ∷ all) one rise found = elim (cases_eq (key first) number) [
    | inl here ↦ omega (arith, here, rise-bound (key first) high all rise.1)
    | inr apart ↦ found_within number (key first) high all one rise.1 (grind (arith, nat_tests))
  ]

  -- no two have one number
  pub rise-only : (number low high : ℕ) (all : List A) → RiseBy key low all high →
      IsOnly (has_key key number) all
  rise-only number low high [] rise = tt
  rise-only number low high (one ∷ all) rise = (
    λ is. find_by-below number (key one) high all (omega (arith, eqb-true (key one) number is)) rise.1,
    rise-only number (key one) high all rise.1,
  )

  -- what is removed isn't found
  pub find_by-removed : (number low high : ℕ) (all : List A) → RiseBy key low all high →
      find_by key number (remove_by key number all) ≡ None
  find_by-removed number low high all rise =
      find-removed (has_key key number) all (rise-only number low high all rise)

  -- and others are
  pub find_by-remove : (number other low high : ℕ) (all : List A) → RiseBy key low all high →
      find_by key number (remove_by key other all) ≡ cond (eqb other number) None (find_by key number all)
  find_by-remove number other low high all rise = elim (cases_eq other number) [
    | inl same ↦
        (let gone : find_by key number (remove_by key other all) ≡ None =
        subst (λ n. find_by key number (remove_by key n all) ≡ None) (sym same) (find_by-removed number low high all rise) in
        grind (arith, nat_tests))
    | inr apart ↦
        (let left : find_by key number (remove_by key other all) ≡ find_by key number all =
        find_by-remove_apart number other all (λ is. apart (sym is)) in
        grind (arith, nat_tests))
  ]

  -- what is found after a removal was there
  pub find_by-left : (number other low high : ℕ) (all : List A) (one : A) →
      RiseBy key low all high → find_by key number (remove_by key other all) ≡ Some one →
      find_by key number all ≡ Some one
  find_by-left number other low high all one rise found = elim (cases_eq number other) [
    | inl same ↦
        (let gone : None ≡ Some one =
        sym (find_by-removed other low high all rise) ∙ ap (λ n. find_by key n (remove_by key other all)) (sym same) ∙ found in
        absurd cc)
    | inr apart ↦ sym (find_by-remove_apart number other all apart) ∙ found
  ]

  -- one more, above the last, is found by its number, and the others by theirs
  pub find_by-push : (number low high : ℕ) (all : List A) (last : A) → high < key last →
      RiseBy key low all high →
      find_by key number (all ++ last ∷ []) ≡ cond (eqb (key last) number) (Some last) (find_by key number all)
  find_by-push number low high [] last above rise = refl
  find_by-push number low high (one ∷ all) last above rise =
      let rest : find_by key number (all ++ last ∷ []) ≡ cond (eqb (key last) number) (Some last) (find_by key number all) =
      find_by-push number (key one) high all last above rise.1 in
      let bound : key one ≤ high = rise-bound (key one) high all rise.1 in
      grind (arith, nat_tests)
