-- Two functions that undo one another, and one change in each of them.
use Rattle.std.proofs.Common.{◌≡◌, ◌≢◌, ℕ, List, Option, Some, None, ◌⊎◌, inl, inr, Bool, true, false, refl, sym, ap, subst, ◌∙◌}
use Rattle.std.specs.Ordering.{is_eq, nat_cmp}
use Rattle.std.specs.declared.cmp.Ordering.{Ordering}
use Rattle.std.specs.Cmp.Lexicographic.{slice_cmp}
use Rattle.std.specs.BTreeMap.{BTreeMap, UpdatesBy, get, get_by}
use Rattle.std.specs.Map.{KeepsOthers}
use Rattle.std.specs.Str.{bytes_eq}
use Rattle.std.proofs.lemmas.Bool.{cases_eq, false_from_ne_true}
use Rattle.std.proofs.lemmas.Map.Lookups.{CmpEqualImpliesEq, exact_bytes}
use Rattle.std.proofs.lemmas.Map.Views.{tells_apart}
use Rattle.std.proofs.lemmas.Slice.Eq.{bytes_eq-Decides}
use Rattle.identity_table.specs.Indices.{IsChanged, IsInverse}

-- ---- keys that are told apart

-- each two keys are one or differ
abbrev pub AreTold : Type 0 → Type 0
AreTold K = (one other : K) → (one ≡ other) ⊎ (one ≢ other)

pub told_numbers : AreTold ℕ
told_numbers = cases_eq

pub told_bytes : AreTold (List ℕ)
told_bytes one other = by_test (bytes_eq one other) refl
  where
    by_test : (same : Bool) → bytes_eq one other ≡ same → (one ≡ other) ⊎ (one ≢ other)
    by_test true is = inl ((bytes_eq-Decides one other).0 is)
    by_test false is = inr (λ e. both is ((bytes_eq-Decides one other).1 e))
      where
        both : {G : Type 0} → bytes_eq one other ≡ false → bytes_eq one other ≡ true → G
        both fails passes = absurd cc

pub told_pairs : AreTold (ℕ × ℕ)
told_pairs one other = by_first (cases_eq one.0 other.0)
  where
    by_second : one.0 ≡ other.0 → (one.1 ≡ other.1) ⊎ (one.1 ≢ other.1) → (one ≡ other) ⊎ (one ≢ other)
    by_second first (inl second) = inl (λ i. (first i, second i))
    by_second first (inr apart) = inr (λ e. apart (ap (λ (p : ℕ × ℕ). p.1) e))

    by_first : (one.0 ≡ other.0) ⊎ (one.0 ≢ other.0) → (one ≡ other) ⊎ (one ≢ other)
    by_first (inl first) = by_second first (cases_eq one.1 other.1)
    by_first (inr apart) = inr (λ e. apart (ap (λ (p : ℕ × ℕ). p.0) e))

-- what is there is this key or not
told_some : {K : Type 0} → AreTold K → (key : Option K) (one : K) → (key ≡ Some one) ⊎ (key ≢ Some one)
told_some told None one = inr (λ e. absurd cc)
told_some told (Some key) one = by_keys (told key one)
  where
    by_keys : (key ≡ one) ⊎ (key ≢ one) → (Some key ≡ Some one) ⊎ (Some key ≢ Some one)
    by_keys (inl same) = inl (ap (λ k. Some k) same)
    by_keys (inr apart) = inr (λ e. apart cc)

-- ---- changes

-- nothing isn't something
pub none_is_not : {A G : Type 0} (found : Option A) (one : A) → found ≡ None → found ≡ Some one → G
none_is_not found one none some = absurd cc

-- what is the same is one
pub same_some : {A : Type 0} (one other : A) → Some one ≡ Some other → one ≡ other
same_some one other e = cc

-- nothing is changed where there is no key
pub unchanged : {K X : Type 0} (f : K → Option X) (value : Option X) → IsChanged f None value f
unchanged f value = record { here = λ one none. absurd cc; apart = λ other differs. refl }

-- a new key that is taken out again leaves all as it was
pub undone : {K X : Type 0} → AreTold K → (old first last : K → Option X) (key : Option K) (value : X) →
    IsChanged old key (Some value) first → IsChanged first key None last →
    ((one : K) → key ≡ Some one → old one ≡ None) → (one : K) → last one ≡ old one
undone told old first last key value put taken new one = by_key (told_some told key one)
  where
    by_key : (key ≡ Some one) ⊎ (key ≢ Some one) → last one ≡ old one
    by_key (inl is) = taken.here one is ∙ sym (new one is)
    by_key (inr differs) = taken.apart one differs ∙ put.apart one differs

-- functions that agree with two that undo one another undo one another
pub IsInverse-same : {K : Type 0} (f f' : ℕ → Option K) (g g' : K → Option ℕ) →
    ((place : ℕ) → f' place ≡ f place) → ((key : K) → g' key ≡ g key) → IsInverse f g → IsInverse f' g'
IsInverse-same f f' g g' same_f same_g inverse = record {
  held = λ key place is. same_f place ∙ inverse.held key place (sym (same_g key) ∙ is);
  found = λ place key is. same_g key ∙ inverse.found place key (sym (same_f place) ∙ is);
}

-- at one place the key changes, where each may be none: the new one is entered, and then the old one
-- taken out
pub IsInverse-changed : {K : Type 0} → AreTold K → (f f' : ℕ → Option K) (g mid g' : K → Option ℕ) (at : ℕ) (old new : Option K) →
    f at ≡ old → IsChanged f (Some at) new f' → IsChanged g new (Some at) mid → IsChanged mid old None g' →
    ((key : K) → new ≡ Some key → g key ≡ None) → IsInverse f g → IsInverse f' g'
IsInverse-changed {K} told f f' g mid g' at old new was change put taken free inverse = record {
  held = λ key place is. held_by key place is (told_some told old key) (told_some told new key) (cases_eq place at);
  found = λ place key is. found_by place key is (told_some told old key) (told_some told new key) (cases_eq place at);
}
  where
    elsewhere : (place : ℕ) → place ≢ at → f' place ≡ f place
    elsewhere place differs = change.apart place (λ e. differs (sym (same_some at place e)))

    held_by : (key : K) (place : ℕ) → g' key ≡ Some place → (old ≡ Some key) ⊎ (old ≢ Some key) →
        (new ≡ Some key) ⊎ (new ≢ Some key) → (place ≡ at) ⊎ (place ≢ at) → f' place ≡ Some key
    held_by key place is (inl gone) entered where_ = none_is_not (g' key) place (taken.here key gone) is
    held_by key place is (inr stays) (inl entered) where_ =
        let there : Some at ≡ Some place = sym (put.here key entered) ∙ sym (taken.apart key stays) ∙ is in
        ap f' (sym (same_some at place there)) ∙ change.here at refl ∙ entered
    held_by key place is (inr stays) (inr other) (inl here) =
        let before : f place ≡ Some key = inverse.held key place (sym (put.apart key other) ∙ sym (taken.apart key stays) ∙ is) in
        absurd (stays (sym was ∙ ap f (sym here) ∙ before))
    held_by key place is (inr stays) (inr other) (inr there) =
        elsewhere place there ∙ inverse.held key place (sym (put.apart key other) ∙ sym (taken.apart key stays) ∙ is)

    found_by : (place : ℕ) (key : K) → f' place ≡ Some key → (old ≡ Some key) ⊎ (old ≢ Some key) →
        (new ≡ Some key) ⊎ (new ≢ Some key) → (place ≡ at) ⊎ (place ≢ at) → g' key ≡ Some place
    found_by place key is (inl gone) entered (inl here) =
        let is_new : new ≡ Some key = sym (change.here at refl) ∙ ap f' (sym here) ∙ is in
        none_is_not (g key) at (free key is_new) (inverse.found at key (was ∙ gone))
    found_by place key is (inr stays) entered (inl here) =
        let is_new : new ≡ Some key = sym (change.here at refl) ∙ ap f' (sym here) ∙ is in
        taken.apart key stays ∙ put.here key is_new ∙ ap (λ (p : ℕ). Some p) (sym here)
    found_by place key is (inl gone) entered (inr there) =
        let before : g key ≡ Some place = inverse.found place key (sym (elsewhere place there) ∙ is) in
        absurd (there (same_some place at (sym before ∙ inverse.found at key (was ∙ gone))))
    found_by place key is (inr stays) (inl entered) (inr there) =
        let before : g key ≡ Some place = inverse.found place key (sym (elsewhere place there) ∙ is) in
        none_is_not (g key) place (free key entered) before
    found_by place key is (inr stays) (inr other) (inr there) =
        taken.apart key stays ∙ put.apart key other ∙ inverse.found place key (sym (elsewhere place there) ∙ is)

-- ---- changes of a map

-- by its own keys
pub get-changed : {K X : Type 0} {cmp : K → K → Ordering} → CmpEqualImpliesEq cmp →
    (m n : BTreeMap K X) (key : K) (value : Option X) → UpdatesBy cmp (cmp key) m n value →
    IsChanged (get cmp m) (Some key) value (get cmp n)
get-changed {K} {X} {cmp} exact m n key value updates = record {
  here = λ one is. subst (λ (k : K). get cmp n k ≡ value) (same_some key one is) updates.1;
  apart = λ other differs.
      updates.2 other (false_from_ne_true (is_eq (cmp key other))
      (λ e. differs (ap (λ (k : K). Some k) (tells_apart exact key other e))));
}

-- by the bytes of its keys
pub bytes-changed : {K X : Type 0} (m n : BTreeMap K X) (items : K → List ℕ) (bytes : List ℕ) (value : Option X) →
    UpdatesBy (λ (x y : K). slice_cmp nat_cmp (items x) (items y)) (λ (k : K). slice_cmp nat_cmp bytes (items k)) m n value →
    IsChanged (λ (q : List ℕ). get_by (λ (k : K). slice_cmp nat_cmp q (items k)) m) (Some bytes) value
    (λ (q : List ℕ). get_by (λ (k : K). slice_cmp nat_cmp q (items k)) n)
unfolding KeepsOthers
bytes-changed {K} {X} m n items bytes value updates = record {
  here = λ one is.
      subst (λ (q : List ℕ). get_by (λ (k : K). slice_cmp nat_cmp q (items k)) n ≡ value) (same_some bytes one is) updates.1;
  apart = λ other differs.
      updates.3 (λ (k : K). is_eq (slice_cmp nat_cmp other (items k)))
      (λ x y at. ap (λ (q : List ℕ). is_eq (slice_cmp nat_cmp q (items y))) (tells_apart exact_bytes other (items x) at))
      (λ k at. false_from_ne_true (is_eq (slice_cmp nat_cmp other (items k)))
      (λ e. differs (ap (λ (q : List ℕ). Some q)
      (tells_apart exact_bytes bytes (items k) at ∙ sym (tells_apart exact_bytes other (items k) e)))));
}
