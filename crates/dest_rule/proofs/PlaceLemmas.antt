-- Places of a chain, one after another.
use Rattle.std.proofs.Common.{◌≡◌, ℕ, suc, ◌+◌, ◌<◌, ◌==◌, Bool, true, false, List, [], ◌∷◌, length, drop, get_or, Option, Some, None, Result, Ok, Err, refl, sym, ap, ◌∙◌, subst, arith, length-drop, drop-cons, cond, add-one}
use Rattle.std.specs.Prelude.{◌||◌, is_ok}
use Rattle.std.specs.List.{list_any}
use Rattle.std.proofs.lemmas.Bool.Decides.{nat_tests}
use Rattle.std.proofs.lemmas.Bool.{and_left, and_right, ne_eqb}
use Rattle.key_blob.specs.PublicKeys.{KeyParts, public_key_of}
use Rattle.key_blob.specs.declared.fault.KeyFault.{KeyFault}
use Rattle.constraint_rec.specs.declared.constraint.Hop.{Hop}
use Rattle.constraint_rec.specs.HopReading.{is_empty}
use Rattle.dest_rule.specs.Chains.{Binding}
use Rattle.dest_rule.specs.Rules.{Grounds, fits_hop, is_hop, permits_pair, is_pair, on_the_way, is_good, is_good_between, bad_place_from, bad_place, bad_place_in, leads_on}

-- the first place that isn't good, of bindings that may be none
abbrev pub bad_place_rest : Grounds → ℕ → Option (List ℕ) → List Binding → Option ℕ
bad_place_rest grounds place previous [] = None
bad_place_rest grounds place previous (binding ∷ later) = bad_place_from grounds place previous binding later

-- of all bindings
pub bad_place_rest-all : (grounds : Grounds) (chain : List Binding)
    → bad_place_rest grounds 0 None chain ≡ bad_place_in grounds chain
unfolding bad_place
bad_place_rest-all grounds [] = refl
bad_place_rest-all grounds (binding ∷ later) = refl

-- ---- one place

-- something follows
not_empty : (binding : Binding) (later : List Binding) → is_empty (binding ∷ later) ≡ false
not_empty binding later = ne_eqb _ _ (λ none. absurd (omega (arith, none)))

-- a good place is passed over
good_step : (grounds : Grounds) (place : ℕ) (previous : Option (List ℕ)) (binding : Binding)
    (later : List Binding) → is_good (is_empty later) grounds previous binding ≡ true
    → bad_place_rest grounds place previous (binding ∷ later)
    ≡ bad_place_rest grounds (suc place) (Some binding.host_key) later
good_step grounds place previous binding [] good = ap (λ b. cond b None (Some place)) good
good_step grounds place previous binding (next ∷ later) good =
    let rest = bad_place_from grounds (suc place) (Some binding.host_key) next later in
    let between : is_good_between grounds previous binding ≡ true =
    ap (λ b. is_good b grounds previous binding) (sym (not_empty next later)) ∙ good in
    ap (λ b. cond b rest (Some place)) between

-- a place that isn't good is the first
bad_step : (grounds : Grounds) (place : ℕ) (previous : Option (List ℕ)) (binding : Binding)
    (later : List Binding) → is_good (is_empty later) grounds previous binding ≡ false
    → bad_place_rest grounds place previous (binding ∷ later) ≡ Some place
bad_step grounds place previous binding [] bad = ap (λ b. cond b None (Some place)) bad
bad_step grounds place previous binding (next ∷ later) bad =
    let rest = bad_place_from grounds (suc place) (Some binding.host_key) next later in
    let between : is_good_between grounds previous binding ≡ false =
    ap (λ b. is_good b grounds previous binding) (sym (not_empty next later)) ∙ bad in
    ap (λ b. cond b rest (Some place)) between

-- ---- in a list

-- nothing follows the last place
last_place : (chain : List Binding) (place : ℕ) → place < length chain
    → (place + 1 == length chain) ≡ is_empty (drop (suc place) chain)
last_place chain place within = grind (arith, nat_tests, length-drop (suc place) chain)

-- where it stands, a good binding is passed over
pub good_at : (grounds : Grounds) (chain : List Binding) (place : ℕ) (previous : Option (List ℕ))
    (binding : Binding) → place < length chain → binding ≡ get_or chain place binding
    → is_good (place + 1 == length chain) grounds previous binding ≡ true
    → bad_place_rest grounds place previous (drop place chain)
    ≡ bad_place_rest grounds (place + 1) (Some binding.host_key) (drop (place + 1) chain)
good_at grounds chain place previous binding within is good =
    let here : drop place chain ≡ binding ∷ drop (suc place) chain =
    drop-cons chain place binding within ∙ ap (λ b. b ∷ drop (suc place) chain) (sym is) in
    let newest = subst (λ b. is_good b grounds previous binding ≡ true) (last_place chain place within) good in
    ap (bad_place_rest grounds place previous) here
    ∙ good_step grounds place previous binding (drop (suc place) chain) newest
    ∙ ap (λ n. bad_place_rest grounds n (Some binding.host_key) (drop n chain)) (sym (add-one place))

-- and one that isn't good is the first
pub bad_at : (grounds : Grounds) (chain : List Binding) (place : ℕ) (previous : Option (List ℕ))
    (binding : Binding) → place < length chain → binding ≡ get_or chain place binding
    → is_good (place + 1 == length chain) grounds previous binding ≡ false
    → bad_place_rest grounds place previous (drop place chain) ≡ Some place
bad_at grounds chain place previous binding within is bad =
    let here : drop place chain ≡ binding ∷ drop (suc place) chain =
    drop-cons chain place binding within ∙ ap (λ b. b ∷ drop (suc place) chain) (sym is) in
    let newest = subst (λ b. is_good b grounds previous binding ≡ false) (last_place chain place within) bad in
    ap (bad_place_rest grounds place previous) here
    ∙ bad_step grounds place previous binding (drop (suc place) chain) newest

-- ---- host keys that aren't read

-- what isn't read is no hop
unread_fits : (read : Result KeyParts KeyFault) (hop : Hop) (host_key : List ℕ) (wall : ℕ)
    → is_ok read ≡ false → fits_hop read hop host_key wall ≡ false
unread_fits (Ok key) hop host_key wall unread = absurd cc
unread_fits (Err fault) hop host_key wall unread = refl

-- the same of a host key
pub unread_is_no_hop : (hop : Hop) (host_key : List ℕ) (wall : ℕ)
    → is_ok (public_key_of host_key) ≡ false → is_hop hop host_key wall ≡ false
unfolding is_hop
unread_is_no_hop hop host_key wall unread = unread_fits (public_key_of host_key) hop host_key wall unread

-- a test that nothing passes
pub list_any_never : {A : Type 0} (test : A → Bool) (list : List A)
    → ((x : A) → test x ≡ false) → list_any test list ≡ false
list_any_never test [] never = refl
list_any_never test (x ∷ list) never = ap (λ b. b || list_any test list) (never x) ∙ list_any_never test list never

-- the way to it isn't permitted
unread_is_no_pair : (grounds : Grounds) (previous : Option (List ℕ)) (host_key : List ℕ)
    → is_ok (public_key_of host_key) ≡ false → is_pair grounds previous host_key ≡ false
unread_is_no_pair grounds previous host_key unread =
    list_any_never (permits_pair grounds previous host_key) grounds.rules
    (λ rule. and_left _ _ (and_right _ _ (unread_is_no_hop rule.to host_key grounds.wall unread)))

-- it is at no good place
pub unread_is_not_good : (newest : Bool) (grounds : Grounds) (previous : Option (List ℕ)) (binding : Binding)
    → is_ok (public_key_of binding.host_key) ≡ false → is_good newest grounds previous binding ≡ false
unread_is_not_good true grounds previous binding unread = and_right _ _ (unread_is_no_pair grounds previous binding.host_key unread)
unread_is_not_good false grounds previous binding unread = and_right _ _ (unread_is_no_pair (on_the_way grounds) previous binding.host_key unread)

-- and nothing leads on from it
pub unread_leads_nowhere : (grounds : Grounds) (host_key : List ℕ)
    → is_ok (public_key_of host_key) ≡ false → leads_on grounds host_key ≡ false
unread_leads_nowhere grounds host_key unread =
    list_any_never (λ rule. is_hop rule.from host_key grounds.wall) grounds.rules
    (λ rule. unread_is_no_hop rule.from host_key grounds.wall unread)
