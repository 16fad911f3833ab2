-- Fields modulo m: numbers that are congruent or not, differences, and quotients by what isn't 0.
use Rattle.std.proofs.Common.{◌≡◌, ◌⊎◌, ◌<◌, ◌-◌, ℕ, zero, suc, ◌+◌, ◌*◌, ◌%◌, arith, ap, refl, sym, ◌∙◌, inl, inr}
use Rattle.std.proofs.Math.Nat.{add-mod_right, mod-eq_of_lt, mod-mod, zero-mod}
use Rattle.std.proofs.lemmas.Bool.{cases_eq}
use Rattle.std.proofs.lemmas.Nat.{mod_below}
use Rattle.curve_laws.proofs.DifferenceLemmas.{IsCongruent, equal, itself, shifted, sums, then}
use Rattle.curve_laws.proofs.UnitLemmas.{IsUnit, unit-alike}
use Rattle.group_laws.proofs.LineLemmas.{comes-to}

-- numbers modulo m, in which 2 isn't 0, and what isn't 0 has an inverse
pub record IsField (m : ℕ) : Type 0 where
  pub more : 2 < m
  pub inverts : (v : ℕ) → 0 < v → v < m → IsUnit m v

-- such an m is no 0
pub some-of : (m : ℕ) → 2 < m → 0 < m
some-of m more = omega arith

-- what is not 0 is more
positive : (k : ℕ) → (k ≡ 0 → ⊥) → 0 < k
positive zero not = absurd (not refl)
positive (suc k) not = omega arith

-- and what is more is not 0
pub no-zero : (k : ℕ) → k ≡ 0 → 0 < k → ⊥
no-zero k none some = omega arith

-- numbers below m that are congruent are one
pub settle : (m v w : ℕ) → v < m → w < m → IsCongruent m v w → v ≡ w
settle m v w v_below w_below is = sym (mod-eq_of_lt v_below) ∙ is.is ∙ mod-eq_of_lt w_below

-- ---- congruent or not

-- remainders are equal or not,
decided-of : (m a b : ℕ) → (a % m ≡ b % m) ⊎ (a % m ≡ b % m → ⊥)
    → IsCongruent m a b ⊎ (IsCongruent m a b → ⊥)
decided-of m a b (inl is) = inl (record { is = is })
decided-of m a b (inr not) = inr (λ is. not is.is)

-- and so numbers are congruent or not
pub decided : (m a b : ℕ) → IsCongruent m a b ⊎ (IsCongruent m a b → ⊥)
decided m a b = decided-of m a b (cases_eq (a % m) (b % m))

-- ---- differences

-- d is a - b
pub record HasDifference (m a b : ℕ) : Type 0 where
  pub d : ℕ
  pub is : IsCongruent m (d + b) a

-- m more makes no difference
added : (m a b : ℕ) → a ≡ b + m → IsCongruent m a b
added m a b is = record { is = ap (λ k. k % m) is ∙ add-mod_right b m }

-- nor does c added and taken away, which is m - c added
taken-away : (m a c : ℕ) → 0 < m → IsCongruent m (a + c + (m - c % m)) a
taken-away m a c some =
    let below : c % m < m = mod_below c m some in
    then (sums (sums (equal m a a refl) (record { is = sym (mod-mod c m) })) (equal m (m - c % m) (m - c % m) refl))
    (added m _ a (omega arith))

-- any two numbers have a difference
pub has-difference : (m a b : ℕ) → 0 < m → HasDifference m a b
has-difference m a b some =
    record {
      d = a + (m - b % m);
      is = then (equal m (a + (m - b % m) + b) (a + b + (m - b % m)) (omega arith)) (taken-away m a b some);
    }

-- ---- quotients

-- i is 1 / (b - a)
pub record HasQuotient (m a b : ℕ) : Type 0 where
  pub i : ℕ
  pub is : IsCongruent m (i * b) (i * a + 1)

-- i is 1 / d, where d is b - a
quotient-is : (m a b d i : ℕ) → 0 < m → IsCongruent m (d + a) b → IsCongruent m (d * i) 1
    → IsCongruent m (i * b) (i * a + 1)
quotient-is m a b d i some d_is i_is =
    comes-to some (shifted 0 1 i_is (shifted i 0 d_is (itself m (i * b)))) (i * a + 1) (omega arith)

-- where b - a is 0, a is b
none-between : (m a b d : ℕ) → IsCongruent m (d + a) b → d % m ≡ 0 → IsCongruent m a b
none-between m a b d is none =
    then (equal m a (0 + a) (omega arith))
    (then (sums (record { is = sym (none ∙ sym (zero-mod m)) }) (equal m a a refl)) is)

-- numbers that are not congruent have one
pub has-quotient : (m a b : ℕ) → IsField m → (IsCongruent m a b → ⊥) → HasQuotient m a b
has-quotient m a b field differ =
    let some = some-of m field.more in
    let run = has-difference m b a some in
    let run_some = positive (run.d % m) (λ none. differ (none-between m a b run.d run.is none)) in
    let unit = field.inverts (run.d % m) run_some (mod_below run.d m some) in
    let whole = unit-alike m (run.d % m) run.d (record { is = sym (mod-mod run.d m) }) unit in
    record { i = whole.inverse; is = quotient-is m a b run.d whole.inverse some run.is whole.is }
