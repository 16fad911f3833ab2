-- The oldest of asks: which it is, and that it stands first where none was put before the one that stands before it.
use Rattle.std.proofs.Common.{◌≡◌, ℕ, ◌≤◌, min, Bool, true, false, cond, eqb, List, [], ◌∷◌, Option, Some, None, IsSome, All, slice_get, refl, sym, ap, ◌∙◌, arith}
use Rattle.std.proofs.lemmas.Bool.Decides.{nat_tests}
use Rattle.std.proofs.lemmas.List.Elements.{All-cons}
use Rattle.std.proofs.Math.Nat.{min-eq_left}
use Rattle.lists.specs.Keyed.{NeverFallBy, find_by}
use Rattle.helper_link.specs.HelperLink.{earlier, oldest, second_of}
use Rattle.helper_link.specs.declared.ask.Ask.{Ask}

-- ---- which it is

-- there is one exactly where there is an ask
pub oldest_none : (asks : List Ask) → oldest asks ≡ None → asks ≡ []
oldest_none [] none = refl
oldest_none (ask ∷ asks) none = absurd cc

-- it is one of the asks
pub oldest_there : (second : ℕ) (asks : List Ask) → oldest asks ≡ Some second →
    IsSome (find_by second_of second asks)
oldest_there second [] is = absurd cc
oldest_there second (ask ∷ asks) is = by_rest (oldest asks) refl (oldest_there second asks) is
  where
    by_test : (same : Bool) → eqb ask.put_at second ≡ same →
        (eqb ask.put_at second ≡ false → IsSome (find_by second_of second asks)) →
        IsSome (cond same (Some ask) (find_by second_of second asks))
    by_test true equal later = refl
    by_test false equal later = later equal

    by_rest : (rest : Option ℕ) → oldest asks ≡ rest →
        (oldest asks ≡ Some second → IsSome (find_by second_of second asks)) →
        Some (earlier ask.put_at rest) ≡ Some second →
        IsSome (find_by second_of second (ask ∷ asks))
    by_rest None rest later whole =
        let here : ask.put_at ≡ second = cc in
        by_test (eqb ask.put_at second) refl (λ differs. absurd (grind (arith, nat_tests)))
    by_rest (Some other) rest later whole =
        let here : min ask.put_at other ≡ second = cc in
        by_test (eqb ask.put_at second) refl
        (λ differs.
        let apart : other ≡ second = grind (arith, nat_tests) in
        later (rest ∙ ap (λ n. Some n) apart))

-- none of the asks was put before this second
abbrev pub IsSince : ℕ → Option ℕ → Type 0
IsSince second None = Unit {0}
IsSince second (Some other) = second ≤ other

earlier_since : (second here : ℕ) (rest : Option ℕ) → second ≤ earlier here rest →
    (second ≤ here) × IsSince second rest
earlier_since second here None since = (since, tt)
earlier_since second here (Some other) since = (grind arith, grind arith)

pub since_all : (second : ℕ) (asks : List Ask) → IsSince second (oldest asks) →
    All (λ (ask : Ask). second ≤ ask.put_at) asks
since_all second [] since = grind arith
since_all second (ask ∷ asks) since =
    let both = earlier_since second ask.put_at (oldest asks) since in
    All-cons (λ (one : Ask). second ≤ one.put_at) ask asks both.0 (since_all second asks both.1)

-- none was put before it
pub oldest_least : (second : ℕ) (asks : List Ask) → oldest asks ≡ Some second →
    All (λ (ask : Ask). second ≤ ask.put_at) asks
oldest_least second asks is = since_all second asks (rw is (omega arith))

-- ---- where it stands

-- what stands behind it was put no earlier
pub oldest-first : (low : ℕ) (ask : Ask) (asks : List Ask) → NeverFallBy second_of low (ask ∷ asks) →
    oldest (ask ∷ asks) ≡ Some ask.put_at
oldest-first low ask [] climb = refl
oldest-first low ask (next ∷ asks) climb =
    ap (λ rest. Some (earlier ask.put_at rest)) (oldest-first ask.put_at next asks climb.1)
    ∙ ap (λ n. Some n) (min-eq_left climb.1.0)

-- the first is the oldest
pub oldest_first : (ask : Ask) (asks : List Ask) → NeverFallBy second_of 0 asks →
    Some ask ≡ slice_get asks 0 → Some ask.put_at ≡ oldest asks
oldest_first ask [] climb is = absurd cc
oldest_first ask (first ∷ asks) climb is =
    let same : first ≡ ask = cc in
    sym (oldest-first 0 first asks climb ∙ ap (λ (one : Ask). Some one.put_at) same)
