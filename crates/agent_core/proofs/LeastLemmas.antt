-- The least of the numbers with a property, where there is one.
use Rattle.std.proofs.Common.{◌≡◌, ℕ, ◌<◌, ◌≤◌, refl, ap, arith, ◌⊎◌, Option, Some, None, min, inl, inr}
use Rattle.std.proofs.lemmas.Bool.{cases_lt}
use Rattle.std.proofs.lemmas.Bool.Decides.{nat_tests}
use Rattle.confirm_desk.specs.Calls.{lesser}

-- it is the least, or there is none
abbrev pub IsLeast : Option ℕ → (ℕ → Type 0) → Type 0
IsLeast None P = (n : ℕ) → P n → ⊥
IsLeast (Some n) P = P n × ((m : ℕ) → P m → n ≤ m)

-- there is one least number at most
pub least-unique : (a b : Option ℕ) (P : ℕ → Type 0) → IsLeast a P → IsLeast b P → a ≡ b
least-unique None None P first second = refl
least-unique None (Some m) P first second = absurd (first m second.0)
least-unique (Some n) None P first second = absurd (second n first.0)
least-unique (Some n) (Some m) P first second =
    let same : n ≡ m = omega (arith, first.1 m second.0, second.1 n first.0) in
    ap Some same

-- of numbers with the same property
pub least-same : (a : Option ℕ) (P Q : ℕ → Type 0) → ((n : ℕ) → P n → Q n) → ((n : ℕ) → Q n → P n) → IsLeast a P → IsLeast a Q
least-same None P Q forth back least = λ n q. least n (back n q)
least-same (Some n) P Q forth back least = (forth n least.0, λ m q. least.1 m (back m q))

-- the lesser of two is the least of both
pub least-lesser : (a b : Option ℕ) (P Q : ℕ → Type 0) → IsLeast a P → IsLeast b Q → IsLeast (lesser a b) (λ n. P n ⊎ Q n)
least-lesser None None P Q first second = λ n either. elim either [
  | inl p ↦ first n p
  | inr q ↦ second n q
]
least-lesser None (Some m) P Q first second = (
  inr second.0,
  λ n either. elim either [
    | inl p ↦ absurd (first n p)
    | inr q ↦ second.1 n q
  ],
)
least-lesser (Some n) None P Q first second = (
  inl first.0,
  λ m either. elim either [
    | inl p ↦ first.1 m p
    | inr q ↦ absurd (second m q)
  ],
)
least-lesser (Some n) (Some m) P Q first second = (
  which (cases_lt n m),
  λ k either. elim either [
    | inl p ↦ omega (arith, first.1 k p, below)
    | inr q ↦ omega (arith, second.1 k q, below_other)
  ],
)
  where
    below : min n m ≤ n
    below = grind (arith, nat_tests)

    below_other : min n m ≤ m
    below_other = grind (arith, nat_tests)

    which : (n < m) ⊎ (m ≤ n) → P (min n m) ⊎ Q (min n m)
    which (inl less) = let is : min n m ≡ n = grind (arith, nat_tests) in rw is (inl first.0)
    which (inr more) = let is : min n m ≡ m = grind (arith, nat_tests) in rw is (inr second.0)
