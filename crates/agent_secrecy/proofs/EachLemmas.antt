-- What holds of each element, where one is found, removed or changed.
use Rattle.std.proofs.Common.{◌≡◌, List, [], ◌∷◌, subst, Bool, true, false, cond, Some}
use Rattle.std.specs.List.{All, find}
use Rattle.std.proofs.lemmas.List.Elements.{All-cons, All-head, All-tail}
use Rattle.lists.specs.Firsts.{change_first, remove_first}

module _ {A : Type 0} (P : A → Type 0) where
  pub each_found : (test : A → Bool) (all : List A) (one : A) → find test all ≡ Some one → All P all
      → P one
  each_found test [] one found each = absurd (cc)
  each_found test (first ∷ others) one found each = by_test (test first) found (λ there. each_found test others one there (All-tail P first others each))
    where
      by_test : (is : Bool) → cond is (Some first) (find test others) ≡ Some one
          → (find test others ≡ Some one → P one) → P one
      by_test true there later =
          subst P (let same : first ≡ one = cc in same) (All-head P first others each)
      by_test false there later = later there

  pub each_left : (test : A → Bool) (all : List A) → All P all → All P (remove_first test all)
  each_left test [] each = each
  each_left test (first ∷ others) each = by_test (test first) (each_left test others (All-tail P first others each))
    where
      by_test : (is : Bool) → All P (remove_first test others)
          → All P (cond is others (first ∷ remove_first test others))
      by_test true left = All-tail P first others each
      by_test false left =
          All-cons P first (remove_first test others) (All-head P first others each) left

  pub each_changed : (test : A → Bool) (f : A → A) (all : List A) → ((one : A) → P one → P (f one))
      → All P all → All P (change_first test f all)
  each_changed test f [] keeps each = each
  each_changed test f (first ∷ others) keeps each = by_test (test first) (each_changed test f others keeps (All-tail P first others each))
    where
      by_test : (is : Bool) → All P (change_first test f others)
          → All P (cond is (f first ∷ others) (first ∷ change_first test f others))
      by_test true changed = All-cons P (f first) others (keeps first (All-head P first others each)) (All-tail P first others each)
      by_test false changed =
          All-cons P first (change_first test f others) (All-head P first others each) changed
