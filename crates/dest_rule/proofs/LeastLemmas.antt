-- The place that `bad_place` gives is the least that isn't good.
use Rattle.std.proofs.Common.{◌≡◌, ◌==◌, ℕ, zero, suc, ◌+◌, ◌<◌, Bool, true, false, List, [], ◌∷◌, length, Option, Some, None, refl, ap, ◌∙◌, subst, arith, cond}
use Rattle.std.specs.List.{slice_get}
use Rattle.std.proofs.lemmas.Bool.{ne_eqb}
use Rattle.std.proofs.lemmas.Bool.Decides.{nat_tests}
use Rattle.dest_rule.specs.Chains.{Binding}
use Rattle.dest_rule.specs.Rules.{Grounds, is_good, is_good_between, is_good_newest, bad_place_from, bad_place}
use Rattle.dest_rule.specs.Places.{key_before, is_good_there, is_good_at, IsFirstBad, IsPlaceIn}

-- numbers that are one less each are as equal
suc_eq : (a b : ℕ) → (suc a == suc b) ≡ (a == b)
suc_eq a b = grind (arith, nat_tests)

-- the host key before a place, behind a binding
key_before-later : (origin : Option (List ℕ)) (binding : Binding) (rest : List Binding) (place : ℕ)
    → key_before origin (binding ∷ rest) (suc place) ≡ key_before (Some binding.host_key) rest place
key_before-later origin binding rest zero = refl
key_before-later origin binding rest (suc place) = refl

-- a place is as good, behind a binding
is_good_at-later : (grounds : Grounds) (origin : Option (List ℕ)) (binding : Binding) (rest : List Binding)
    (place : ℕ) → is_good_at grounds origin (binding ∷ rest) (suc place)
    ≡ is_good_at grounds (Some binding.host_key) rest place
unfolding is_good_at
is_good_at-later grounds origin binding rest place =
    ap (λ b. is_good_there (slice_get rest place) b grounds (key_before origin (binding ∷ rest) (suc place))) (suc_eq (suc place) (length rest))
    ∙ ap (is_good_there (slice_get rest place) (suc place == length rest) grounds) (key_before-later origin binding rest place)

-- the only place
is_good_at-only : (grounds : Grounds) (origin : Option (List ℕ)) (binding : Binding)
    → is_good_at grounds origin (binding ∷ []) 0 ≡ is_good_newest grounds origin binding
unfolding is_good_at
is_good_at-only grounds origin binding = refl

-- the first of some places
is_good_at-first : (grounds : Grounds) (origin : Option (List ℕ)) (binding next : Binding) (later : List Binding)
    → is_good_at grounds origin (binding ∷ next ∷ later) 0 ≡ is_good_between grounds origin binding
unfolding is_good_at
is_good_at-first grounds origin binding next later =
    let others : (suc 0 == length (binding ∷ next ∷ later)) ≡ false = ne_eqb _ _ (λ one. absurd (omega (arith, one))) in
    ap (λ b. is_good b grounds origin binding) others

-- the place that isn't good, counted from another one
pub record IsFirstFrom (grounds : Grounds) (origin : Option (List ℕ)) (chain : List Binding)
    (start place : ℕ) : Type 0 where
  pub behind : ℕ
  pub counted : place ≡ start + behind
  pub within : behind < length chain
  pub bad : is_good_at grounds origin chain behind ≡ false
  pub good_before : (earlier : ℕ) → earlier < behind → is_good_at grounds origin chain earlier ≡ true

-- what a place found from another one says
abbrev pub IsPlaceFrom : Grounds → Option (List ℕ) → List Binding → ℕ → Option ℕ → Type 0
IsPlaceFrom grounds origin chain start None =
    (place : ℕ) → place < length chain → is_good_at grounds origin chain place ≡ true
IsPlaceFrom grounds origin chain start (Some place) = IsFirstFrom grounds origin chain start place

-- the first place isn't good
bad_first : (grounds : Grounds) (origin : Option (List ℕ)) (binding : Binding) (rest : List Binding) (start : ℕ)
    → is_good_at grounds origin (binding ∷ rest) 0 ≡ false
    → IsPlaceFrom grounds origin (binding ∷ rest) start (Some start)
bad_first grounds origin binding rest start bad = record {
  behind = 0;
  counted = omega arith;
  within = omega arith;
  bad = bad;
  good_before = λ earlier before. absurd (omega (arith, before));
}

-- the only place is good
good_only : (grounds : Grounds) (origin : Option (List ℕ)) (binding : Binding) (place : ℕ)
    → is_good_at grounds origin (binding ∷ []) 0 ≡ true → place < 1
    → is_good_at grounds origin (binding ∷ []) place ≡ true
good_only grounds origin binding zero good within = good
good_only grounds origin binding (suc place) good within = absurd (omega (arith, within))

-- all are, where the first is and those behind it
good_all : (grounds : Grounds) (origin : Option (List ℕ)) (binding : Binding) (rest : List Binding)
    → is_good_at grounds origin (binding ∷ rest) 0 ≡ true
    → ((place : ℕ) → place < length rest → is_good_at grounds (Some binding.host_key) rest place ≡ true)
    → (place : ℕ) → place < length (binding ∷ rest) → is_good_at grounds origin (binding ∷ rest) place ≡ true
good_all grounds origin binding rest first behind zero within = first
good_all grounds origin binding rest first behind (suc place) within =
    is_good_at-later grounds origin binding rest place ∙ behind place (omega (arith, within))

-- those before one behind a good place
good_earlier : (grounds : Grounds) (origin : Option (List ℕ)) (binding : Binding) (rest : List Binding) (place : ℕ)
    → is_good_at grounds origin (binding ∷ rest) 0 ≡ true
    → ((earlier : ℕ) → earlier < place → is_good_at grounds (Some binding.host_key) rest earlier ≡ true)
    → (earlier : ℕ) → earlier < suc place → is_good_at grounds origin (binding ∷ rest) earlier ≡ true
good_earlier grounds origin binding rest place first behind zero before = first
good_earlier grounds origin binding rest place first behind (suc earlier) before =
    is_good_at-later grounds origin binding rest earlier ∙ behind earlier (omega (arith, before))

-- the first place is good, and those behind it are as they are
good_first : (grounds : Grounds) (origin : Option (List ℕ)) (binding : Binding) (rest : List Binding)
    (start : ℕ) (found : Option ℕ) → is_good_at grounds origin (binding ∷ rest) 0 ≡ true
    → IsPlaceFrom grounds (Some binding.host_key) rest (suc start) found
    → IsPlaceFrom grounds origin (binding ∷ rest) start found
good_first grounds origin binding rest start None first behind = good_all grounds origin binding rest first behind
good_first grounds origin binding rest start (Some place) first behind = record {
  behind = suc behind.behind;
  counted = omega (arith, behind.counted);
  within = omega (arith, behind.within);
  bad = is_good_at-later grounds origin binding rest behind.behind ∙ behind.bad;
  good_before = good_earlier grounds origin binding rest behind.behind first behind.good_before;
}

-- by whether the only place is good
by_only : (good : Bool) (grounds : Grounds) (origin : Option (List ℕ)) (binding : Binding) (start : ℕ)
    → is_good_at grounds origin (binding ∷ []) 0 ≡ good
    → IsPlaceFrom grounds origin (binding ∷ []) start (cond good None (Some start))
by_only true grounds origin binding start is = λ place within. good_only grounds origin binding place is within
by_only false grounds origin binding start is = bad_first grounds origin binding [] start is

-- by whether the first place is
by_first : (good : Bool) (grounds : Grounds) (origin : Option (List ℕ)) (binding : Binding) (rest : List Binding)
    (start : ℕ) (found : Option ℕ) → is_good_at grounds origin (binding ∷ rest) 0 ≡ good
    → IsPlaceFrom grounds (Some binding.host_key) rest (suc start) found
    → IsPlaceFrom grounds origin (binding ∷ rest) start (cond good found (Some start))
by_first true grounds origin binding rest start found is behind = good_first grounds origin binding rest start found is behind
by_first false grounds origin binding rest start found is behind = bad_first grounds origin binding rest start is

-- of any bindings, from any place
bad_place_from_is : (grounds : Grounds) (origin : Option (List ℕ)) (binding : Binding) (later : List Binding)
    (start : ℕ) → IsPlaceFrom grounds origin (binding ∷ later) start (bad_place_from grounds start origin binding later)
bad_place_from_is grounds origin binding [] start =
    by_only _ grounds origin binding start (is_good_at-only grounds origin binding)
bad_place_from_is grounds origin binding (next ∷ later) start =
    by_first _ grounds origin binding (next ∷ later) start (bad_place_from grounds (suc start) (Some binding.host_key) next later)
    (is_good_at-first grounds origin binding next later)
    (bad_place_from_is grounds (Some binding.host_key) next later (suc start))

-- counted from the first
from_start : (grounds : Grounds) (chain : List Binding) (found : Option ℕ)
    → IsPlaceFrom grounds None chain 0 found → IsPlaceIn grounds chain found
from_start grounds chain None all = all
from_start grounds chain (Some place) first =
    let same : first.behind ≡ place = omega (arith, first.counted) in
    subst (IsFirstBad grounds chain) same (record { within = first.within; bad = first.bad; good_before = first.good_before })

-- of a chain
pub bad_place_is : (grounds : Grounds) (binding : Binding) (later : List Binding)
    → IsPlaceIn grounds (binding ∷ later) (bad_place grounds binding later)
unfolding bad_place
bad_place_is grounds binding later = from_start grounds (binding ∷ later) _ (bad_place_from_is grounds None binding later 0)
