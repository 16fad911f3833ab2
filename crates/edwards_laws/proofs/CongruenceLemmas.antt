-- A congruence from congruences with given cofactors, whose identity is computed.
use Rattle.std.proofs.Common.{◌≡◌, ◌<◌, ℕ, ◌+◌, ◌*◌, arith, sym, true, List, [], ◌∷◌}
use Rattle.std.specs.Bool.{⊤}
use Rattle.curve_laws.proofs.DifferenceLemmas.{IsCongruent, IsDifference, itself, shifted}
use Rattle.group_laws.proofs.LineLemmas.{comes-to}
use Rattle.edwards_laws.proofs.PolynomialLemmas.{Expr, identity, lit, norm, same, value, ◌⊕◌, ◌⊗◌}

-- a congruence of u and w, taken f times, and with its sides changed g times
pub record Step : Type 0 where
  pub f : Expr
  pub g : Expr
  pub u : Expr
  pub w : Expr

-- each congruence holds
abbrev pub AllHold : ℕ → List ℕ → List Step → Type 0
AllHold m env [] = ⊤
AllHold m env (s ∷ steps) = IsCongruent m (value env s.u) (value env s.w) × AllHold m env steps

-- what the steps add on the left, and on the right
abbrev pub gained : List Step → Expr
gained [] = lit 0
gained (s ∷ steps) = gained steps ⊕ (s.f ⊗ s.u ⊕ s.g ⊗ s.w)

-- and what they take away
abbrev pub lost : List Step → Expr
lost [] = lit 0
lost (s ∷ steps) = lost steps ⊕ (s.f ⊗ s.w ⊕ s.g ⊗ s.u)

-- a sum in two orders
regrouped : (v a b : ℕ) → v + (a + b) ≡ v + a + b
regrouped v a b = omega arith

-- v + 0
nothing-more : (v : ℕ) → v ≡ v + 0
nothing-more v = omega arith

-- a difference in another form
retold : {m v a b c : ℕ} → IsDifference m v a b → a ≡ c → IsDifference m v c b
retold {m} {v} {a} {b} {c} is same = rw (← same) is

-- v is v with what the steps add, less what they take away
shifted-all : (m v : ℕ) (env : List ℕ) (steps : List Step) → AllHold m env steps
    → IsDifference m v (v + value env (gained steps)) (value env (lost steps))
shifted-all m v env [] hold = retold (itself m v) (nothing-more v)
shifted-all m v env (s ∷ steps) hold =
    retold (shifted (value env s.f) (value env s.g) hold.0 (shifted-all m v env steps hold.1))
    (sym (regrouped v (value env (gained steps)) (value env s.f * value env s.u + value env s.g * value env s.w)))

-- left is right modulo m, where the identity is computed
pub by-steps : (m : ℕ) (env : List ℕ) (steps : List Step) (left right : Expr) → 0 < m
    → AllHold m env steps
    → same (norm (left ⊕ gained steps)) (norm (right ⊕ lost steps)) ≡ true
    → IsCongruent m (value env left) (value env right)
by-steps m env steps left right some hold computed =
    comes-to some (shifted-all m (value env left) env steps hold) (value env right)
    (identity env (left ⊕ gained steps) (right ⊕ lost steps) computed)
