-- Which second nothing was put after, by the one that was put last.
use Rattle.std.proofs.Common.{◌≡◌, ℕ, ◌-◌, ◌≤◌, List, [], ◌∷◌, suc, length, IfSome, arith, subst, sym}
use Rattle.std.specs.List.{slice_get}
use Rattle.lists.specs.Keyed.{AreUpToBy, NeverFallBy}

module _ {A : Type 0} (key : A → ℕ) where
  -- numbers that never fall are up to a bound where the last is
  pub up_to-last : (low high : ℕ) (all : List A) → NeverFallBy key low all →
      IfSome (slice_get all (length all - 1)) (λ one. key one ≤ high) → AreUpToBy key high all
  up_to-last low high [] climb last = tt
  up_to-last low high (one ∷ []) climb last = (last, tt)
  up_to-last low high (one ∷ next ∷ all) climb last =
      let long : length (one ∷ next ∷ all) - 1 ≡ suc (length all) = omega arith in
      let short : length (next ∷ all) - 1 ≡ length all = omega arith in
      let there = subst (λ place. IfSome (slice_get (one ∷ next ∷ all) place) (λ one. key one ≤ high)) long last in
      let later = up_to-last (key one) high (next ∷ all) climb.1
      (subst (λ place. IfSome (slice_get (next ∷ all) place) (λ one. key one ≤ high)) (sym short) there) in
      (omega (arith, climb.1.0, later.0), later)
