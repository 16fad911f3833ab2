-- The pigeonhole principle: n places below m that all differ are at most m.
use Rattle.std.proofs.Common.{◌≡◌, ◌≢◌, ◌⊎◌, ◌<◌, ◌≤◌, ℕ, zero, suc, Bool, true, false, cond, eqb, arith, refl, sym, inl, inr, ◌∙◌}
use Rattle.std.proofs.lemmas.Bool.{eqb-false, eqb-true}

abbrev pub StaysBelow : (f : ℕ → ℕ) (n m : ℕ) → Type 0
StaysBelow f n m = (i : ℕ) → i < n → f i < m

abbrev pub IsOneToOne : (f : ℕ → ℕ) (n : ℕ) → Type 0
IsOneToOne f n = (i j : ℕ) → i < n → j < n → f i ≡ f j → i ≡ j

-- f, with the last place in the stead of m
abbrev avoiding : (f : ℕ → ℕ) (m last i : ℕ) → ℕ
avoiding f m last i = cond (eqb (f i) m) (f last) (f i)

abbrev Avoids : (x m y r : ℕ) → Type 0
Avoids x m y r = ((x ≡ m) × (r ≡ y)) ⊎ ((x ≢ m) × (r ≡ x))

avoids-by : (x m y : ℕ) (t : Bool) → eqb x m ≡ t → Avoids x m y (cond t y x)
avoids-by x m y true is = inl (eqb-true x m is, refl)
avoids-by x m y false is = inr (eqb-false x m is, refl)

avoids : (x m y : ℕ) → Avoids x m y (cond (eqb x m) y x)
avoids x m y = avoids-by x m y (eqb x m) refl

stays-below : (f : ℕ → ℕ) (n m : ℕ) → StaysBelow f (suc n) (suc m) → IsOneToOne f (suc n)
    → StaysBelow (avoiding f m n) n m
stays-below f n m below one i i_below =
    let at = below i (omega arith) in
    let at_last = below n (omega arith) in
    let differ : f i ≢ f n = λ same. let is = one i n (omega arith) (omega arith) same in omega arith in
    elim (avoids (f i) m (f n)) [ inl w ↦ omega (arith, w.0, w.1) | inr w ↦ omega (arith, w.0, w.1) ]

one-to-one : (f : ℕ → ℕ) (n m : ℕ) → IsOneToOne f (suc n) → IsOneToOne (avoiding f m n) n
one-to-one f n m one i j i_below j_below same =
    elim (avoids (f i) m (f n)) [
      | inl v ↦ elim (avoids (f j) m (f n)) [
        | inl w ↦ one i j (omega arith) (omega arith) (v.0 ∙ sym w.0)
        | inr w ↦ let is = one n j (omega arith) (omega arith) (sym v.1 ∙ same ∙ w.1) in absurd (omega arith)
      ]
      | inr v ↦ elim (avoids (f j) m (f n)) [
        | inl w ↦ let is = one i n (omega arith) (omega arith) (sym v.1 ∙ same ∙ w.1) in absurd (omega arith)
        | inr w ↦ one i j (omega arith) (omega arith) (sym v.1 ∙ same ∙ w.1)
      ]
    ]

pub pigeonhole : (n m : ℕ) (f : ℕ → ℕ) → StaysBelow f n m → IsOneToOne f n → n ≤ m
pigeonhole zero m f below one = omega arith
pigeonhole (suc n) zero f below one = absurd (omega (arith, below n (omega arith)))
pigeonhole (suc n) (suc m) f below one =
    omega (arith, pigeonhole n m (avoiding f m n) (stays-below f n m below one) (one-to-one f n m one))
