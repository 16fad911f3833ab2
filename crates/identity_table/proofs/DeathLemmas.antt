-- The first death of a list, and that none is dead before it.
use Rattle.std.proofs.Common.{◌≡◌, ℕ, ◌^◌, ◌<◌, ◌≤◌, Bool, true, false, cond, ltb, List, [], ◌∷◌, Option, Some, None, ◌⊎◌, inl, inr, refl, sym, ap, subst, ◌∙◌, arith}
use Rattle.std.specs.List.{AllByRecursion}
use Rattle.std.specs.Map.{lookup, values_of}
use Rattle.std.proofs.lemmas.Bool.{ltb-false}
use Rattle.std.proofs.lemmas.Bool.Decides.{Decides-ltb}
use Rattle.identity_table.specs.Deaths.{lives_at, on_clock, earlier}
use Rattle.identity_table.specs.Identities.{HeldKey, alive_at, next_death}
use Rattle.identity_table.proofs.UpdateLemmas.{same_some}

-- ---- none is dead before the first death

-- it is still to come at this second
abbrev pub IsAhead : ℕ → Option ℕ → Type 0
IsAhead now None = Unit {0}
IsAhead now (Some death) = now < death

-- where the earlier is still to come, both are
both_ahead : (now : ℕ) (a b : Option ℕ) → IsAhead now (earlier a b) → IsAhead now a × IsAhead now b
both_ahead now None b ahead = (tt, ahead)
both_ahead now (Some a) None ahead = (ahead, tt)
both_ahead now (Some a) (Some b) ahead = (omega arith, omega arith)

-- what is still to come is alive, by the test whether the clock comes to it
lives_by : (now death : ℕ) (reached : Bool) → ltb death (2 ^ 64) ≡ reached → now < 2 ^ 64 →
    IsAhead now (cond reached (Some death) None) → ltb now death ≡ true
lives_by now death true reached small ahead = (Decides-ltb now death).1 ahead
lives_by now death false reached small ahead = (Decides-ltb now death).1 (omega (arith, ltb-false _ _ reached))

-- where a death on the clock is still to come, the identity is alive
lives : (now : ℕ) (death : Option ℕ) → now < 2 ^ 64 → IsAhead now (on_clock death) → lives_at now death ≡ true
lives now None small ahead = refl
lives now (Some death) small ahead = lives_by now death (ltb death (2 ^ 64)) refl small ahead

-- where the first death is still to come, all are alive
pub alive_at-all : (now : ℕ) (keys : List HeldKey) → now < 2 ^ 64 → IsAhead now (next_death keys) → alive_at now keys ≡ keys
unfolding next_death alive_at
alive_at-all now [] small ahead = refl
alive_at-all now (key ∷ keys) small ahead =
    let both = both_ahead now (on_clock key.death) (next_death keys) ahead in
    rw (lives now key.death small both.0) (ap (λ (rest : List HeldKey). key ∷ rest) (alive_at-all now keys small both.1))

-- ---- the first death

-- no later than this second
abbrev pub IsUpTo : ℕ → Option ℕ → Type 0
IsUpTo second None = ⊥
IsUpTo second (Some death) = death ≤ second

-- no earlier, if there is one
abbrev pub IsFrom : ℕ → Option ℕ → Type 0
IsFrom second None = Unit {0}
IsFrom second (Some death) = second ≤ death

earlier-upto : (second : ℕ) (a b : Option ℕ) → (IsUpTo second a) ⊎ (IsUpTo second b) → IsUpTo second (earlier a b)
earlier-upto second None b (inl up) = absurd up
earlier-upto second None b (inr up) = up
earlier-upto second (Some a) None (inl up) = up
earlier-upto second (Some a) None (inr up) = absurd up
earlier-upto second (Some a) (Some b) (inl up) = omega (arith, up)
earlier-upto second (Some a) (Some b) (inr up) = omega (arith, up)

earlier-from : (second : ℕ) (a b : Option ℕ) → IsFrom second a → IsFrom second b → IsFrom second (earlier a b)
earlier-from second None b from_a from_b = from_b
earlier-from second (Some a) None from_a from_b = from_a
earlier-from second (Some a) (Some b) from_a from_b = omega (arith, from_a, from_b)

-- the first death is no later than that of what stands at a place
pub first-upto : (at : ℕ → Bool) (es : List (ℕ × HeldKey)) (one : HeldKey) (second : ℕ) →
    lookup at es ≡ Some one → on_clock one.death ≡ Some second → IsUpTo second (next_death (values_of es))
unfolding next_death
first-upto at [] one second there dies = absurd cc
first-upto at (e ∷ es) one second there dies =
    by_test (at e.0) there (λ later. first-upto at es one second later dies)
  where
    by_test : (here : Bool) → cond here (Some e.1) (lookup at es) ≡ Some one →
        (lookup at es ≡ Some one → IsUpTo second (next_death (values_of es))) →
        IsUpTo second (earlier (on_clock e.1.death) (next_death (values_of es)))
    by_test true found later =
        let is : on_clock e.1.death ≡ Some second =
        ap (λ (k : HeldKey). on_clock k.death) (same_some e.1 one found) ∙ dies in
        earlier-upto second (on_clock e.1.death) (next_death (values_of es))
        (inl (subst (IsUpTo second) (sym is) (omega arith)))
    by_test false found later =
        earlier-upto second (on_clock e.1.death) (next_death (values_of es)) (inr (later found))

-- where none dies earlier, the first death is no earlier
pub first-from : (second : ℕ) (keys : List HeldKey) →
    AllByRecursion (λ one. IsFrom second (on_clock one.death)) keys → IsFrom second (next_death keys)
unfolding next_death
first-from second [] none = tt
first-from second (key ∷ keys) none =
    earlier-from second (on_clock key.death) (next_death keys) none.0 (first-from second keys none.1)

-- both together
pub first-is : (second : ℕ) (first : Option ℕ) → IsUpTo second first → IsFrom second first →
    first ≡ Some second
first-is second None up from = absurd up
first-is second (Some death) up from = ap (λ (n : ℕ). Some n) (omega (arith, up, from))

-- where no death is on the clock, the first isn't
pub first-none : (keys : List HeldKey) → AllByRecursion (λ one. on_clock one.death ≡ None) keys →
    next_death keys ≡ None
unfolding next_death
first-none [] none = refl
first-none (key ∷ keys) none = rw (none.0, first-none keys none.1) refl

-- one whose death has come is dead
pub dead_by : (now second : ℕ) (death : Option ℕ) → on_clock death ≡ Some second → second ≤ now →
    lives_at now death ≡ false
dead_by now second None on come = absurd cc
dead_by now second (Some death) on come = by_test (ltb death (2 ^ 64)) on
  where
    by_test : (reached : Bool) → cond reached (Some death) None ≡ Some second → ltb now death ≡ false
    by_test true is = let same : death ≡ second = same_some death second is in grind (arith, same, come)
    by_test false is = absurd cc
