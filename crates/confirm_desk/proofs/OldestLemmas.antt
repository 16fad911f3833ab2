-- The oldest of confirmations: which it is, and that it stands first where none was raised before the one that stands
-- before it.
use Rattle.std.proofs.Common.{◌≡◌, ℕ, ◌≤◌, nat_lt, Bool, true, false, cond, eqb, List, [], ◌∷◌, Option, Some, None, IsSomeAnd, All, slice_get, refl, sym, ap, subst, ◌∙◌, arith}
use Rattle.std.proofs.lemmas.Bool.{eqb-true}
use Rattle.std.proofs.lemmas.Bool.Decides.{nat_tests}
use Rattle.std.proofs.lemmas.List.Elements.{All-cons}
use Rattle.lists.specs.Keyed.{NeverFallBy}
use Rattle.confirm_desk.specs.Confirmations.{Confirmation, earlier, find_job, oldest, second_of}
use Rattle.confirm_desk.specs.Sound.{AreApart}

-- ---- which it is

-- there is one exactly where there is a confirmation
pub oldest_none : (all : List Confirmation) → oldest all ≡ None → all ≡ []
oldest_none [] none = refl
oldest_none (one ∷ all) none = absurd cc

-- a confirmation of this job was raised at this second
abbrev IsThere : ℕ → ℕ → Option Confirmation → Type 0
IsThere job second found = IsSomeAnd found (λ (one : Confirmation). one.raised_at ≡ second)

-- it is one of the confirmations
pub oldest_there : (job second : ℕ) (all : List Confirmation) → AreApart all →
    oldest all ≡ Some (job, second) → IsThere job second (find_job job all)
oldest_there job second [] apart is = absurd cc
oldest_there job second (one ∷ all) apart is =
    by_rest (oldest all) refl (oldest_there job second all apart.1) is
  where
    here : one.job ≡ job → one.raised_at ≡ second → IsThere job second (find_job job (one ∷ all))
    here same equal = by_test (eqb one.job job) refl
      where
        by_test : (test : Bool) → eqb one.job job ≡ test →
            IsThere job second (cond test (Some one) (find_job job all))
        by_test true is = equal
        by_test false is = absurd (grind (arith, nat_tests))

    behind : IsThere job second (find_job job all) → IsThere job second (find_job job (one ∷ all))
    behind later = by_test (eqb one.job job) refl
      where
        by_test : (test : Bool) → eqb one.job job ≡ test →
            IsThere job second (cond test (Some one) (find_job job all))
        by_test true is =
            let none : find_job job all ≡ None =
            ap (λ n. find_job n all) (sym (eqb-true one.job job is)) ∙ apart.0.job in
            absurd (subst (IsThere job second) none later)
        by_test false is = later

    by_rest : (rest : Option (ℕ × ℕ)) → oldest all ≡ rest →
        (oldest all ≡ Some (job, second) → IsThere job second (find_job job all)) →
        Some (earlier (one.job, one.raised_at) rest) ≡ Some (job, second) →
        IsThere job second (find_job job (one ∷ all))
    by_rest None rest later whole =
        let both : (one.job, one.raised_at) ≡ (job, second) = cc in
        here (ap (λ (p : ℕ × ℕ). p.0) both) (ap (λ (p : ℕ × ℕ). p.1) both)
    by_rest (Some other) rest later whole = by_test (nat_lt other.1 one.raised_at) whole
      where
        by_test : (test : Bool) → Some (cond test other (one.job, one.raised_at)) ≡ Some (job, second) →
            IsThere job second (find_job job (one ∷ all))
        by_test true is = behind (later (rest ∙ is))
        by_test false is =
            let both : (one.job, one.raised_at) ≡ (job, second) = cc in
            here (ap (λ (p : ℕ × ℕ). p.0) both) (ap (λ (p : ℕ × ℕ). p.1) both)

-- none of the confirmations was raised before this second
abbrev IsSince : ℕ → Option (ℕ × ℕ) → Type 0
IsSince second None = Unit {0}
IsSince second (Some other) = second ≤ other.1

earlier_since : (second : ℕ) (here : ℕ × ℕ) (rest : Option (ℕ × ℕ)) →
    second ≤ (earlier here rest).1 → (second ≤ here.1) × IsSince second rest
earlier_since second here None since = (since, tt)
earlier_since second here (Some other) since = by_test (nat_lt other.1 here.1) refl since
  where
    by_test : (test : Bool) → nat_lt other.1 here.1 ≡ test → second ≤ (cond test other here).1 →
        (second ≤ here.1) × (second ≤ other.1)
    by_test true is least = (grind (arith, nat_tests), least)
    by_test false is least = (least, grind (arith, nat_tests))

since_all : (second : ℕ) (all : List Confirmation) → IsSince second (oldest all) →
    All (λ (one : Confirmation). second ≤ one.raised_at) all
since_all second [] since = grind arith
since_all second (one ∷ all) since =
    let both = earlier_since second (one.job, one.raised_at) (oldest all) since in
    All-cons (λ (each : Confirmation). second ≤ each.raised_at) one all both.0 (since_all second all both.1)

-- none was raised before it
pub oldest_least : (job second : ℕ) (all : List Confirmation) → oldest all ≡ Some (job, second) →
    All (λ (one : Confirmation). second ≤ one.raised_at) all
oldest_least job second all is = since_all second all (rw is (omega arith))

-- ---- where it stands

-- of two the first, where the other isn't earlier
earlier-first : (one other : ℕ × ℕ) → one.1 ≤ other.1 → earlier one (Some other) ≡ one
earlier-first one other least = by_test (nat_lt other.1 one.1) refl
  where
    by_test : (test : Bool) → nat_lt other.1 one.1 ≡ test → cond test other one ≡ one
    by_test true is = absurd (grind (arith, nat_tests))
    by_test false is = refl

-- what stands behind it was raised no earlier
oldest-first : (low : ℕ) (one : Confirmation) (all : List Confirmation) →
    NeverFallBy second_of low (one ∷ all) → oldest (one ∷ all) ≡ Some (one.job, one.raised_at)
oldest-first low one [] climb = refl
oldest-first low one (next ∷ all) climb =
    ap (λ rest. Some (earlier (one.job, one.raised_at) rest)) (oldest-first one.raised_at next all climb.1)
    ∙ ap (λ (p : ℕ × ℕ). Some p)
    (earlier-first (one.job, one.raised_at) (next.job, next.raised_at) climb.1.0)

-- the first is the oldest
pub oldest_first : (one : Confirmation) (all : List Confirmation) → NeverFallBy second_of 0 all →
    Some one ≡ slice_get all 0 → Some (one.job, one.raised_at) ≡ oldest all
oldest_first one [] climb is = absurd cc
oldest_first one (first ∷ all) climb is =
    let same : first ≡ one = cc in
    sym (oldest-first 0 first all climb ∙ ap (λ (c : Confirmation). Some (c.job, c.raised_at)) same)
