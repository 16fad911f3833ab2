-- More constraints permit no less.
use Rattle.std.proofs.Common.{◌≡◌, ℕ, suc, Bool, true, false, List, [], ◌∷◌, Option, Some, None, inl, inr, refl, sym, ap, ◌∙◌, subst, arith, cond}
use Rattle.std.specs.Prelude.{not, is_none, Contains}
use Rattle.std.specs.List.{list_any}
use Rattle.std.proofs.lemmas.Bool.{or_cases, not-true, and_parts, and_from, or_left, or_right}
use Rattle.std.proofs.lemmas.List.Folds.{list_any_at}
use Rattle.constraint_rec.specs.declared.constraint.Constraint.{Constraint}
use Rattle.dest_rule.specs.Chains.{Binding, newest_after}
use Rattle.dest_rule.specs.Rules.{Grounds, is_hop, permits_pair, is_pair, on_the_way, is_good, bad_place_from, bad_place, goes_on, permits_way}

-- an element that passes a test
found : {A : Type 0} (test : A → Bool) (list : List A) → list_any test list ≡ true
    → (x : A) × Contains list x × (test x ≡ true)
found test [] some = absurd cc
found test (x ∷ list) some = elim (or_cases (test x) (list_any test list) some) [
  | inl first ↦ (x, (0, omega arith, refl), first)
  | inr behind ↦ let f = found test list behind in (f.0, (suc f.1.0, omega (arith, f.1.1), f.1.2), f.2)
]

-- a test that an element of one list passes is passed by one of a list with all of these
pub list_any-more : {A : Type 0} (test : A → Bool) (fewer more : List A)
    → ((x : A) → Contains fewer x → Contains more x)
    → list_any test fewer ≡ true → list_any test more ≡ true
list_any-more test fewer more within some =
    let f = found test fewer some in
    let there = within f.0 f.1 in
    list_any_at test more there.0 f.0 there.1 (subst (λ x. test x ≡ true) (sym there.2) f.2)

-- by what a chain is judged
abbrev pub by_rules : List Constraint → Option (List ℕ) → ℕ → Grounds
by_rules rules user wall = record { rules = rules; user = user; wall = wall }

-- a pair that some constraints permit
is_pair-more : (rules more : List Constraint) (user : Option (List ℕ)) (wall : ℕ)
    (previous : Option (List ℕ)) (host_key : List ℕ)
    → ((rule : Constraint) → Contains rules rule → Contains more rule)
    → is_pair (by_rules rules user wall) previous host_key ≡ true
    → is_pair (by_rules more user wall) previous host_key ≡ true
is_pair-more rules more user wall previous host_key within permitted =
    list_any-more (permits_pair (by_rules more user wall) previous host_key) rules more within permitted

-- a good place
is_good-more : (newest : Bool) (rules more : List Constraint) (user : Option (List ℕ)) (wall : ℕ)
    (previous : Option (List ℕ)) (binding : Binding)
    → ((rule : Constraint) → Contains rules rule → Contains more rule)
    → is_good newest (by_rules rules user wall) previous binding ≡ true
    → is_good newest (by_rules more user wall) previous binding ≡ true
is_good-more true rules more user wall previous binding within good =
    let p = and_parts _ _ good in
    and_from _ _ p.0 (is_pair-more rules more user wall previous binding.host_key within p.1)
is_good-more false rules more user wall previous binding within good =
    let p = and_parts _ _ good in
    and_from _ _ p.0 (is_pair-more rules more None wall previous binding.host_key within p.1)

-- where no place is bad, this one is good and none of the others is bad
pub none_bad : (good : Bool) (rest : Option ℕ) (place : ℕ)
    → cond good rest (Some place) ≡ None → (good ≡ true) × (rest ≡ None)
none_bad true rest place none = (refl, none)
none_bad false rest place none = absurd cc

-- a chain
bad_place_from-more : (rules more : List Constraint) (user : Option (List ℕ)) (wall place : ℕ)
    (previous : Option (List ℕ)) (binding : Binding) (later : List Binding)
    → ((rule : Constraint) → Contains rules rule → Contains more rule)
    → bad_place_from (by_rules rules user wall) place previous binding later ≡ None
    → bad_place_from (by_rules more user wall) place previous binding later ≡ None
bad_place_from-more rules more user wall place previous binding [] within none =
    let good = is_good-more true rules more user wall previous binding within (none_bad _ _ _ none).0 in
    ap (λ b. cond b None (Some place)) good
bad_place_from-more rules more user wall place previous binding (next ∷ later) within none =
    let both = none_bad _ _ _ none in
    let good = is_good-more false rules more user wall previous binding within both.0 in
    ap (λ b. cond b (bad_place_from (by_rules more user wall) (suc place) (Some binding.host_key) next later) (Some place)) good
    ∙ bad_place_from-more rules more user wall (suc place) (Some binding.host_key) next later within both.1

-- the same from the agent's own host
pub bad_place-more : (rules more : List Constraint) (user : Option (List ℕ)) (wall : ℕ)
    (binding : Binding) (later : List Binding)
    → ((rule : Constraint) → Contains rules rule → Contains more rule)
    → bad_place (by_rules rules user wall) binding later ≡ None
    → bad_place (by_rules more user wall) binding later ≡ None
unfolding bad_place
bad_place-more rules more user wall binding later within none =
    bad_place_from-more rules more user wall 0 None binding later within none

-- a place that is none
pub is_none-true : (place : Option ℕ) → is_none place ≡ true → place ≡ None
is_none-true None none = refl
is_none-true (Some place) none = absurd cc

-- leaving the newest host
goes_on-more : (rules more : List Constraint) (wall : ℕ) (binding : Binding)
    → ((rule : Constraint) → Contains rules rule → Contains more rule)
    → goes_on (by_rules rules None wall) binding ≡ true → goes_on (by_rules more None wall) binding ≡ true
goes_on-more rules more wall binding within on = elim (or_cases _ _ on) [
  | inl ends_here ↦ or_left _ _ ends_here
  | inr leads ↦ or_right _ _ (list_any-more (λ rule. is_hop rule.from binding.host_key wall) rules more within leads)
]

-- a way
pub permits_way-more : (rules more : List Constraint) (wall : ℕ) (binding : Binding) (later : List Binding)
    → ((rule : Constraint) → Contains rules rule → Contains more rule)
    → permits_way (by_rules rules None wall) binding later ≡ true
    → permits_way (by_rules more None wall) binding later ≡ true
permits_way-more rules more wall binding later within permitted =
    let p = and_parts _ _ permitted in
    let good = bad_place-more rules more None wall binding later within (is_none-true _ p.0) in
    and_from _ _ (ap is_none good) (goes_on-more rules more wall (newest_after binding later) within p.1)

-- ---- without the user

-- a pair that is permitted for a user is for anyone
pub is_pair-anyone : (grounds : Grounds) (previous : Option (List ℕ)) (host_key : List ℕ)
    → is_pair grounds previous host_key ≡ true → is_pair (on_the_way grounds) previous host_key ≡ true
is_pair-anyone grounds previous host_key permitted =
    let f = found (permits_pair grounds previous host_key) grounds.rules permitted in
    let p = and_parts _ _ f.2 in
    list_any_at (permits_pair (on_the_way grounds) previous host_key) grounds.rules f.1.0 f.0 f.1.1
    (subst (λ rule. permits_pair (on_the_way grounds) previous host_key rule ≡ true) (sym f.1.2)
    (and_from _ _ p.0 refl))

-- a login's chain is permitted whoever logs in, and the agent isn't forwarded to its last host
without_user : (rules : List Constraint) (user : List ℕ) (wall place : ℕ) (previous : Option (List ℕ))
    (binding : Binding) (later : List Binding)
    → bad_place_from (by_rules rules (Some user) wall) place previous binding later ≡ None
    → (bad_place_from (by_rules rules None wall) place previous binding later ≡ None)
    × ((newest_after binding later).forwarding ≡ false)
without_user rules user wall place previous binding [] none =
    let p = and_parts _ _ (none_bad _ _ _ none).0 in
    let good = is_pair-anyone (by_rules rules (Some user) wall) previous binding.host_key p.1 in
    (ap (λ b. cond b None (Some place)) good, not-true _ p.0)
without_user rules user wall place previous binding (next ∷ later) none =
    let both = none_bad _ _ _ none in
    let behind = without_user rules user wall (suc place) (Some binding.host_key) next later both.1 in (
      ap (λ b. cond b (bad_place_from (by_rules rules None wall) (suc place) (Some binding.host_key) next later) (Some place)) both.0 ∙ behind.0,
      behind.1,
    )

-- so the way is permitted
pub login_is_a_way : (rules : List Constraint) (user : List ℕ) (wall : ℕ) (binding : Binding)
    (later : List Binding) → bad_place (by_rules rules (Some user) wall) binding later ≡ None
    → permits_way (by_rules rules None wall) binding later ≡ true
unfolding bad_place
login_is_a_way rules user wall binding later none =
    let both = without_user rules user wall 0 None binding later none in
    and_from _ _ (ap is_none both.0) (or_left _ _ (ap not both.1))
