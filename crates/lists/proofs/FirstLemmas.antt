-- Lemmas on the first element that passes a test.
use Rattle.std.proofs.Common.{◌≡◌, ℕ, zero, suc, ◌+◌, ◌<◌, ◌≤◌, Bool, true, false, cond, not, List, [], ◌∷◌, ◌++◌, length, get_or, set, map, filter, Option, Some, None, MatchOption, ◌⊎◌, inl, inr, refl, sym, ap, ◌∙◌, arith}
use Rattle.std.specs.List.{find, position, position_from, remove}
use Rattle.std.specs.Option.{option_map, option_or}
use Rattle.std.proofs.lemmas.Bool.Decides.{nat_tests}
use Rattle.std.proofs.lemmas.List.Folds.{find-append}
use Rattle.std.proofs.lemmas.List.Quantifiers.{position-Some}
use Rattle.std.proofs.lemmas.Iterator.Adapters.{position_from-zero}
use Rattle.lists.specs.Firsts.{IsFirst, IsOnly, change_first, remove_first}

-- what is none is neither here nor later
pub some_or_later : {A : Type 0} (is : Bool) (one : A) (found : Option A) →
    cond is (Some one) found ≡ None → (is ≡ false) × (found ≡ None)
some_or_later true one found none = absurd cc
some_or_later false one found none = (refl, none)

-- ---- what is found

-- it passes
pub found_passes : {A : Type 0} (test : A → Bool) (all : List A) (one : A) →
    find test all ≡ Some one → test one ≡ true
found_passes test [] one found = absurd cc
found_passes test (first ∷ all) one found =
    let later = found_passes test all one in
    grind (arith, nat_tests)

-- ---- without the first that passes

pub find-remove_none : {A : Type 0} (test other : A → Bool) (all : List A) → find test all ≡ None →
    find test (remove_first other all) ≡ None
find-remove_none test other [] none = refl
find-remove_none test other (one ∷ all) none =
    let both = some_or_later (test one) one (find test all) none in
    let rest : find test (remove_first other all) ≡ None = find-remove_none test other all both.1 in
    let fails : test one ≡ false = both.0 in
    let later : find test all ≡ None = both.1 in
    grind (arith, nat_tests)

pub find-remove_apart : {A : Type 0} (test other : A → Bool) (all : List A) →
    ((one : A) → other one ≡ true → test one ≡ false) →
    find test (remove_first other all) ≡ find test all
find-remove_apart test other [] apart = refl
find-remove_apart test other (one ∷ all) apart =
    let rest = find-remove_apart test other all apart in
    let here = apart one in
    grind (arith, nat_tests)

pub removed_nowhere : {A : Type 0} (test : A → Bool) (all : List A) → find test all ≡ None →
    remove_first test all ≡ all
removed_nowhere test [] none = refl
removed_nowhere test (one ∷ all) none =
    let both = some_or_later (test one) one (find test all) none in
    rw both.0 (ap (λ rest. one ∷ rest) (removed_nowhere test all both.1))

pub length-remove : {A : Type 0} (test : A → Bool) (all : List A) →
    length (remove_first test all) ≤ length all
length-remove test [] = omega arith
length-remove test (one ∷ all) =
    let rest : length (remove_first test all) ≤ length all = length-remove test all in
    grind (arith, nat_tests)

-- where no other passes, none is left that does
pub find-removed : {A : Type 0} (test : A → Bool) (all : List A) → IsOnly test all →
    find test (remove_first test all) ≡ None
find-removed test [] only = refl
find-removed test (one ∷ all) only =
    let behind = only.0 in
    let rest = find-removed test all only.1 in
    grind (arith, nat_tests)

-- ---- with the first that passes changed

-- a change that keeps the test is found
pub find-change : {A : Type 0} (test : A → Bool) (f : A → A) (all : List A) →
    ((one : A) → test (f one) ≡ test one) →
    find test (change_first test f all) ≡ option_map f (find test all)
find-change test f [] keeps = refl
find-change test f (one ∷ all) keeps =
    let same = keeps one in
    let rest = find-change test f all keeps in
    grind (arith, nat_tests)

-- what is changed passes no more than before
pub find-change_none : {A : Type 0} (test other : A → Bool) (f : A → A) (all : List A) →
    ((one : A) → test one ≡ false → test (f one) ≡ false) →
    find test all ≡ None → find test (change_first other f all) ≡ None
find-change_none test other f [] keeps none = refl
find-change_none test other f (one ∷ all) keeps none =
    let both = some_or_later (test one) one (find test all) none in
    let fails : test one ≡ false = both.0 in
    let changed : test (f one) ≡ false = keeps one both.0 in
    let behind : find test all ≡ None = both.1 in
    let rest = find-change_none test other f all keeps both.1 in
    grind (arith, nat_tests)

-- what is changed passes neither before nor after
pub find-change_apart : {A : Type 0} (test other : A → Bool) (f : A → A) (all : List A) →
    ((one : A) → other one ≡ true → test one ≡ false) →
    ((one : A) → other one ≡ true → test (f one) ≡ false) →
    find test (change_first other f all) ≡ find test all
find-change_apart test other f [] apart keeps = refl
find-change_apart test other f (one ∷ all) apart keeps =
    let here = apart one in
    let changed = keeps one in
    let rest = find-change_apart test other f all apart keeps in
    grind (arith, nat_tests)

pub changed_nowhere : {A : Type 0} (test : A → Bool) (f : A → A) (all : List A) → find test all ≡ None →
    change_first test f all ≡ all
changed_nowhere test f [] none = refl
changed_nowhere test f (one ∷ all) none =
    let both = some_or_later (test one) one (find test all) none in
    rw both.0 (ap (λ rest. one ∷ rest) (changed_nowhere test f all both.1))

-- two changes that agree on what is found are one
pub change-agree : {A : Type 0} (test : A → Bool) (f g : A → A) (all : List A) (one : A) →
    find test all ≡ Some one → f one ≡ g one →
    change_first test f all ≡ change_first test g all
change-agree test f g [] one found same = refl
change-agree test f g (first ∷ all) one found same =
    by_test (test first) found (λ there. change-agree test f g all one there same)
  where
    by_test : (is : Bool) → cond is (Some first) (find test all) ≡ Some one →
        (find test all ≡ Some one → change_first test f all ≡ change_first test g all) →
        cond is (f first ∷ all) (first ∷ change_first test f all) ≡ cond is (g first ∷ all) (first ∷ change_first test g all)
    by_test true there later =
        let is : first ≡ one = cc in let changed : f first
        ≡ g first = ap f is ∙ same ∙ ap g (sym is) in ap (λ here. here ∷ all) changed
    by_test false there later = ap (λ rest. first ∷ rest) (later there)

-- a change that keeps the test leaves what is found, or it is found changed
pub find-change_either : {A : Type 0} (test other : A → Bool) (f : A → A) (all : List A) →
    ((one : A) → test (f one) ≡ test one) →
    (find test (change_first other f all) ≡ find test all)
    ⊎ (find test (change_first other f all) ≡ option_map f (find test all))
find-change_either test other f [] keeps = inl refl
find-change_either test other f (one ∷ all) keeps =
    by_tests (other one) (test one) refl (find-change_either test other f all keeps)
  where
    by_tests : (here is : Bool) → test one ≡ is →
        (find test (change_first other f all) ≡ find test all)
        ⊎ (find test (change_first other f all) ≡ option_map f (find test all)) →
        (find test (cond here (f one ∷ all) (one ∷ change_first other f all))
        ≡ cond is (Some one) (find test all))
        ⊎ (find test (cond here (f one ∷ all) (one ∷ change_first other f all))
        ≡ option_map f (cond is (Some one) (find test all)))
    by_tests true true is rest = inr (rw (keeps one, is) refl)
    by_tests true false is rest = inl (rw (keeps one, is) refl)
    by_tests false true is rest = inl (rw is refl)
    by_tests false false is (inl same) = inl (rw is same)
    by_tests false false is (inr changed) = inr (rw is changed)

-- so are two that agree on all
pub change-pointwise : {A : Type 0} (test : A → Bool) (f g : A → A) (all : List A) →
    ((one : A) → f one ≡ g one) → change_first test f all ≡ change_first test g all
change-pointwise test f g [] same = refl
change-pointwise test f g (one ∷ all) same =
    let here = same one in
    let rest = change-pointwise test f g all same in
    grind (arith, nat_tests)

pub change-twice : {A : Type 0} (test : A → Bool) (f g : A → A) (all : List A) →
    ((one : A) → test (f one) ≡ test one) →
    change_first test g (change_first test f all) ≡ change_first test (λ one. g (f one)) all
change-twice test f g [] keeps = refl
change-twice test f g (one ∷ all) keeps =
    let same = keeps one in
    let rest = change-twice test f g all keeps in
    grind (arith, nat_tests)

-- what is removed may be changed before
pub remove-change : {A : Type 0} (test : A → Bool) (f : A → A) (all : List A) →
    ((one : A) → test (f one) ≡ test one) →
    remove_first test (change_first test f all) ≡ remove_first test all
remove-change test f [] keeps = refl
remove-change test f (one ∷ all) keeps =
    let same = keeps one in
    let rest = remove-change test f all keeps in
    grind (arith, nat_tests)

pub length-change : {A : Type 0} (test : A → Bool) (f : A → A) (all : List A) →
    length (change_first test f all) ≡ length all
length-change test f [] = refl
length-change test f (one ∷ all) =
    let rest : length (change_first test f all) ≡ length all = length-change test f all in
    grind (arith, nat_tests)

-- what a change keeps of each, it keeps of all
pub map-change : {A B : Type 0} (test : A → Bool) (f : A → A) (part : A → B) (all : List A) →
    ((one : A) → part (f one) ≡ part one) →
    map part (change_first test f all) ≡ map part all
map-change test f part [] keeps = refl
map-change test f part (one ∷ all) keeps =
    let same = keeps one in
    let rest = map-change test f part all keeps in
    grind (arith, nat_tests)

-- ---- with one more at the end

-- one that fails
pub find-push_other : {A : Type 0} (test : A → Bool) (all : List A) (last : A) → test last ≡ false →
    find test (all ++ last ∷ []) ≡ find test all
find-push_other test [] last fails = rw fails refl
find-push_other test (one ∷ all) last fails =
    ap (cond (test one) (Some one)) (find-push_other test all last fails)

-- what is found is found before any more
pub find-before : {A : Type 0} (test : A → Bool) (all more : List A) (one : A) →
    find test all ≡ Some one → find test (all ++ more) ≡ Some one
find-before test all more one found =
    find-append test all more ∙ ap (λ here. option_or here (find test more)) found

-- ---- of those that are kept

pub find-filter_none : {A : Type 0} (test keep : A → Bool) (all : List A) → find test all ≡ None →
    find test (filter keep all) ≡ None
find-filter_none test keep [] none = refl
find-filter_none test keep (one ∷ all) none =
    let both = some_or_later (test one) one (find test all) none in
    let fails : test one ≡ false = both.0 in
    let rest = find-filter_none test keep all both.1 in
    grind (arith, nat_tests)

-- what was found, where it is kept
abbrev pub if_kept : {A : Type 0} → (A → Bool) → Option A → Option A
if_kept keep None = None
if_kept keep (Some one) = cond (keep one) (Some one) None

pub find-filter : {A : Type 0} (test keep : A → Bool) (all : List A) → IsOnly test all →
    find test (filter keep all) ≡ if_kept keep (find test all)
find-filter test keep [] only = refl
find-filter test keep (one ∷ all) only =
    let behind = only.0 in
    let rest = find-filter test keep all only.1 in
    grind (arith, nat_tests)

-- without the only one that passes, those are left that fail
pub remove-filter : {A : Type 0} (test : A → Bool) (all : List A) → IsOnly test all →
    remove_first test all ≡ filter (λ one. not (test one)) all
remove-filter test [] only = refl
remove-filter test (one ∷ all) only =
    by_test (test one) refl only.0 (remove-filter test all only.1)
  where
    kept : (others : List _) → find test others ≡ None → others ≡ filter (λ one. not (test one)) others
    kept [] none = refl
    kept (other ∷ others) none =
        let both = some_or_later (test other) other (find test others) none in
        rw both.0 (ap (λ rest. other ∷ rest) (kept others both.1))

    by_test : (is : Bool) → test one ≡ is → (test one ≡ true → find test all ≡ None) →
        remove_first test all ≡ filter (λ one. not (test one)) all →
        cond is all (one ∷ remove_first test all)
        ≡ cond (not is) (one ∷ filter (λ one. not (test one)) all) (filter (λ one. not (test one)) all)
    by_test true is behind rest = kept all (behind is)
    by_test false is behind rest = ap (λ rest. one ∷ rest) rest

-- what is found is found by any test that it alone passes
pub found_too : {A : Type 0} (test other : A → Bool) (all : List A) (one : A) → IsOnly other all →
    find test all ≡ Some one → other one ≡ true → find other all ≡ Some one
found_too test other [] one only found passes = absurd cc
found_too test other (first ∷ all) one only found passes =
    let behind = only.0 in
    let later = λ (there : find test all ≡ Some one). found_too test other all one only.1 there passes in
    grind (arith, nat_tests)

-- what is found by one test and changed by another that it alone passes is found changed
pub find-change_found : {A : Type 0} (test other : A → Bool) (f : A → A) (all : List A) (one : A) →
    ((any : A) → test (f any) ≡ test any) → IsOnly other all → find test all ≡ Some one →
    other one ≡ true → find test (change_first other f all) ≡ Some (f one)
find-change_found test other f [] one keeps only found passes = absurd cc
find-change_found test other f (first ∷ all) one keeps only found passes =
    by_tests (test first) (other first) refl refl only.0 found
    (λ there. found_too test other all one only.1 there passes)
    (λ there. find-change_found test other f all one keeps only.1 there passes)
  where
    by_tests : (is too : Bool) → test first ≡ is → other first ≡ too →
        (other first ≡ true → find other all ≡ None) →
        cond is (Some first) (find test all) ≡ Some one →
        (find test all ≡ Some one → find other all ≡ Some one) →
        (find test all ≡ Some one → find test (change_first other f all) ≡ Some (f one)) →
        find test (cond too (f first ∷ all) (first ∷ change_first other f all)) ≡ Some (f one)
    by_tests true true is passed behind there there_too later =
        let same : first ≡ one = cc in
        rw (keeps first, is) (ap (λ any. Some (f any)) same)
    by_tests true false is passed behind there there_too later =
        let same : first ≡ one = cc in
        let also : other first ≡ true = ap other same ∙ passes in
        absurd cc
    by_tests false true is passed behind there there_too later =
        let found : find other all ≡ Some one = there_too there in
        let none : find other all ≡ None = behind passed in
        absurd cc
    by_tests false false is passed behind there there_too later = rw is (later there)

-- ---- of other elements that are seen as these

module _ {A B : Type 0} (see : A → B) (test : B → Bool) (same : A → Bool) where
  pub find-map : ((one : A) → test (see one) ≡ same one) → (all : List A) →
      find test (map see all) ≡ option_map see (find same all)
  find-map is [] = refl
  find-map is (one ∷ all) =
      ap (λ b. cond b (Some (see one)) (find test (map see all))) (is one) ∙ by_test (same one) (find-map is all)
    where
      by_test : (here : Bool) → find test (map see all) ≡ option_map see (find same all) →
          cond here (Some (see one)) (find test (map see all)) ≡ option_map see (cond here (Some one) (find same all))
      by_test true rest = refl
      by_test false rest = rest

  pub remove-map : ((one : A) → test (see one) ≡ same one) → (all : List A) →
      remove_first test (map see all) ≡ map see (remove_first same all)
  remove-map is [] = refl
  remove-map is (one ∷ all) =
      ap (λ b. cond b (map see all) (see one ∷ remove_first test (map see all))) (is one) ∙ by_test (same one) (remove-map is all)
    where
      by_test : (here : Bool) → remove_first test (map see all) ≡ map see (remove_first same all) →
          cond here (map see all) (see one ∷ remove_first test (map see all)) ≡ map see (cond here all (one ∷ remove_first same all))
      by_test true rest = refl
      by_test false rest = ap (λ rest. see one ∷ rest) rest

-- ---- at a place

-- behind the first the place is one less
pub later : {A : Type 0} (test : A → Bool) (one : A) (others : List A) (place : ℕ) →
    IsFirst test (one ∷ others) (suc place) → IsFirst test others place
later test one others place at = record {
  within = omega (arith, at.within);
  there = at.there;
  before = λ k other earlier. at.before (suc k) other (omega (arith, earlier));
}

pub found_there : {A : Type 0} (test : A → Bool) (all : List A) (place : ℕ) (other : A) →
    IsFirst test all place → find test all ≡ Some (get_or all place other)
found_there test [] place other at = absurd (omega (arith, at.within))
found_there test (one ∷ all) zero other at = rw (at.there other) refl
found_there test (one ∷ all) (suc place) other at =
    rw (at.before 0 other (omega arith)) (found_there test all place other (later test one all place at))

pub changed_there : {A : Type 0} (test : A → Bool) (f : A → A) (all : List A) (place : ℕ) (other : A) → IsFirst test all place →
    change_first test f all ≡ set all place (f (get_or all place other))
changed_there test f [] place other at = absurd (omega (arith, at.within))
changed_there test f (one ∷ all) zero other at = rw (at.there other) refl
changed_there test f (one ∷ all) (suc place) other at =
    rw (at.before 0 other (omega arith)) (ap (λ rest. one ∷ rest) (changed_there test f all place other (later test one all place at)))

pub removed_there : {A : Type 0} (test : A → Bool) (all : List A) (place : ℕ) →
    IsFirst test all place → remove_first test all ≡ remove all place
removed_there test [] place at = absurd (omega (arith, at.within))
removed_there test (one ∷ all) zero at = rw (at.there one) refl
removed_there test (one ∷ all) (suc place) at =
    rw (at.before 0 one (omega arith)) (ap (λ rest. one ∷ rest) (removed_there test all place (later test one all place at)))

-- what was there is changed in its place
pub changed_to : {A : Type 0} (test : A → Bool) (f : A → A) (all : List A) (place : ℕ) (here new : A) →
    IsFirst test all place → here ≡ get_or all place here → new ≡ f here →
    set all place new ≡ change_first test f all
changed_to test f all place here new at is changed =
    ap (set all place) (changed ∙ ap f is) ∙ sym (changed_there test f all place here at)

-- ---- where a search stops

-- a search that doesn't stop here and finds nothing later finds nothing
found_neither : {A : Type 0} (test : Bool) (one : A) (i : ℕ) (later : Option ℕ) (found : Option A) →
    cond test (Some i) later ≡ None → (later ≡ None → found ≡ None) →
    cond test (Some one) found ≡ None
found_neither true one i later found is step = absurd cc
found_neither false one i later found is step = step is

found_nowhere : {A : Type 0} (test : A → Bool) (i : ℕ) (all : List A) →
    position_from test i all ≡ None → find test all ≡ None
found_nowhere test i [] is = refl
found_nowhere test i (one ∷ all) is =
    found_neither (test one) one i (position_from test (i + 1) all) (find test all) is (found_nowhere test (i + 1) all)

-- a search of a list without elements doesn't stop
stops_within : {A : Type 0} (test : A → Bool) (all : List A) (place : ℕ) →
    position test all ≡ Some place → place < length all
stops_within test [] place is = absurd cc
stops_within test (one ∷ all) place is = (position-Some test (one ∷ all) place one is).0

-- it stops at the first that passes, or nowhere
pub is_place : {A : Type 0} (test : A → Bool) (all : List A) (result : Option ℕ) →
    result ≡ position test all →
    MatchOption result (find test all ≡ None) (IsFirst test all)
is_place test all None is = found_nowhere test 0 all (sym (position_from-zero test all) ∙ sym is)
is_place test all (Some place) is = record {
  within = stops_within test all place (sym is);
  there = λ other. (position-Some test all place other (sym is)).1;
  before = λ k other earlier. (position-Some test all place other (sym is)).2 k earlier;
}
