-- Lemmas on lists whose elements have a number each, where the numbers never fall.
use Rattle.std.proofs.Common.{◌≡◌, ℕ, ◌≤◌, Bool, true, false, cond, List, [], ◌∷◌, ◌++◌, arith, subst, sym}
use Rattle.lists.specs.Firsts.{change_first, remove_first}
use Rattle.lists.specs.Keyed.{AreUpToBy, NeverFallBy}

module _ {A : Type 0} (key : A → ℕ) where
  -- ---- numbers up to a bound

  -- the bound may be greater
  pub up_to-higher : (high higher : ℕ) (all : List A) → high ≤ higher → AreUpToBy key high all →
      AreUpToBy key higher all
  up_to-higher high higher [] above up = tt
  up_to-higher high higher (one ∷ all) above up =
      (omega (arith, up.0), up_to-higher high higher all above up.1)

  -- with one more
  pub up_to-push : (high : ℕ) (all : List A) (last : A) → key last ≤ high → AreUpToBy key high all →
      AreUpToBy key high (all ++ last ∷ [])
  up_to-push high [] last most up = (most, tt)
  up_to-push high (one ∷ all) last most up = (up.0, up_to-push high all last most up.1)

  -- with one less
  pub up_to-remove : (test : A → Bool) (high : ℕ) (all : List A) → AreUpToBy key high all →
      AreUpToBy key high (remove_first test all)
  up_to-remove test high [] up = tt
  up_to-remove test high (one ∷ all) up = by_test (test one) (up_to-remove test high all up.1)
    where
      by_test : (is : Bool) → AreUpToBy key high (remove_first test all) →
          AreUpToBy key high (cond is all (one ∷ remove_first test all))
      by_test true later = up.1
      by_test false later = (up.0, later)

  -- with one changed in other ways
  pub up_to-change : (test : A → Bool) (f : A → A) (high : ℕ) (all : List A) →
      ((one : A) → key (f one) ≡ key one) → AreUpToBy key high all →
      AreUpToBy key high (change_first test f all)
  up_to-change test f high [] keeps up = tt
  up_to-change test f high (one ∷ all) keeps up =
      by_test (test one) (up_to-change test f high all keeps up.1)
    where
      by_test : (is : Bool) → AreUpToBy key high (change_first test f all) →
          AreUpToBy key high (cond is (f one ∷ all) (one ∷ change_first test f all))
      by_test true later = (subst (λ n. n ≤ high) (sym (keeps one)) up.0, up.1)
      by_test false later = (up.0, later)

  -- ---- numbers that never fall

  -- the bound may be lower
  pub never_fall-lower : (lower low : ℕ) (all : List A) → lower ≤ low → NeverFallBy key low all →
      NeverFallBy key lower all
  never_fall-lower lower low [] below climb = tt
  never_fall-lower lower low (one ∷ all) below climb = (omega (arith, climb.0), climb.1)

  -- with one more, as great as each
  pub never_fall-push : (low : ℕ) (all : List A) (last : A) → low ≤ key last →
      AreUpToBy key (key last) all → NeverFallBy key low all → NeverFallBy key low (all ++ last ∷ [])
  never_fall-push low [] last least up climb = (least, tt)
  never_fall-push low (one ∷ all) last least up climb =
      (climb.0, never_fall-push (key one) all last up.0 up.1 climb.1)

  -- with one less
  pub never_fall-remove : (test : A → Bool) (low : ℕ) (all : List A) → NeverFallBy key low all →
      NeverFallBy key low (remove_first test all)
  never_fall-remove test low [] climb = tt
  never_fall-remove test low (one ∷ all) climb =
      by_test (test one) (never_fall-remove test (key one) all climb.1)
    where
      by_test : (is : Bool) → NeverFallBy key (key one) (remove_first test all) →
          NeverFallBy key low (cond is all (one ∷ remove_first test all))
      by_test true later = never_fall-lower low (key one) all climb.0 climb.1
      by_test false later = (climb.0, later)

  -- with one changed in other ways
  pub never_fall-change : (test : A → Bool) (f : A → A) (low : ℕ) (all : List A) →
      ((one : A) → key (f one) ≡ key one) → NeverFallBy key low all →
      NeverFallBy key low (change_first test f all)
  never_fall-change test f low [] keeps climb = tt
  never_fall-change test f low (one ∷ all) keeps climb =
      by_test (test one) (never_fall-change test f (key one) all keeps climb.1)
    where
      by_test : (is : Bool) → NeverFallBy key (key one) (change_first test f all) →
          NeverFallBy key low (cond is (f one ∷ all) (one ∷ change_first test f all))
      by_test true later = (
        subst (λ n. low ≤ n) (sym (keeps one)) climb.0,
        subst (λ n. NeverFallBy key n all) (sym (keeps one)) climb.1,
      )
      by_test false later = (climb.0, later)
