-- What is visible and what is denied, by the newest binding.
use Rattle.std.proofs.Common.{◌≡◌, ◌<◌, ◌≤◌, cond, ℕ, ◌-◌, ◌==◌, Bool, true, false, List, [], ◌∷◌, length, Option, Some, None, Ok, Err, refl, sym, ap, ◌∙◌, arith}
use Rattle.std.specs.Prelude.{◌&&◌, not, is_none}
use Rattle.std.proofs.lemmas.Bool.{le-ltb, lt-ltb, ne_eqb}
use Rattle.std.proofs.lemmas.Bool.Decides.{nat_tests}
use Rattle.constraint_rec.specs.declared.constraint.Constraint.{Constraint}
use Rattle.constraint_rec.specs.HopReading.{is_empty}
use Rattle.userauth_blob.specs.UserAuths.{Login}
use Rattle.userauth_blob.specs.Reading.{auth_of}
use Rattle.userauth_blob.specs.declared.fault.AuthFault.{AuthFault}
use Rattle.std.specs.List.{slice_get}
use Rattle.dest_rule.proofs.ChainLemmas.{newest-last}
use Rattle.dest_rule.specs.Chains.{Binding, newest, newest_after}
use Rattle.dest_rule.specs.Rules.{Grounds, bad_place, bad_place_in, goes_on, visible, Denial, Unbound, NotUserAuth, LongUser, BadHop, denial_of_newest, denial_of_place, denial_of_login, denial}

-- a list of some elements isn't empty
not_empty : {A : Type 0} (x : A) (xs : List A) → is_empty (x ∷ xs) ≡ false
not_empty x xs = ne_eqb _ _ (λ none. absurd (omega (arith, none)))

-- the last of the bindings that are lent is the newest
pub newest_lent : (chain lent : List Binding) (found : Option Binding) → lent ≡ chain
    → found ≡ slice_get lent (length lent - 1) → newest chain ≡ found
newest_lent chain lent found is last = ap newest (sym is) ∙ sym (newest-last lent) ∙ sym last

-- without constraints it is visible
pub visible-free : (rules : List Constraint) (chain : List Binding) (attempted : Bool) (wall : ℕ)
    → is_empty rules ≡ true → visible rules chain attempted wall ≡ true
unfolding visible
visible-free [] chain attempted wall free = refl
visible-free (rule ∷ rules) chain attempted wall free = absurd (let some = not_empty rule rules in cc)

-- without a binding it is, unless the connection tried to bind
pub visible-unbound : (rules : List Constraint) (chain : List Binding) (attempted : Bool) (wall : ℕ)
    → is_empty rules ≡ false → newest chain ≡ None → visible rules chain attempted wall ≡ not attempted
unfolding visible
visible-unbound [] chain attempted wall some none = absurd cc
visible-unbound (rule ∷ rules) [] attempted wall some none = refl
visible-unbound (rule ∷ rules) (binding ∷ later) attempted wall some none = absurd cc

-- by what a chain is judged where nobody is to log in
abbrev pub on_no_login : List Constraint → ℕ → Grounds
on_no_login rules wall = record { rules = rules; user = None; wall = wall }

-- with bindings it is where the way is permitted
pub visible-bound : (rules : List Constraint) (chain : List Binding) (attempted : Bool) (wall : ℕ)
    (binding : Binding) → is_empty rules ≡ false → newest chain ≡ Some binding
    → visible rules chain attempted wall
    ≡ (is_none (bad_place_in (on_no_login rules wall) chain) && goes_on (on_no_login rules wall) binding)
unfolding visible bad_place
visible-bound [] chain attempted wall binding some is = absurd cc
visible-bound (rule ∷ rules) [] attempted wall binding some is = absurd cc
visible-bound (rule ∷ rules) (first ∷ later) attempted wall binding some is =
    let last : newest_after first later ≡ binding = cc in
    let grounds = on_no_login (rule ∷ rules) wall in
    ap (λ b. is_none (bad_place grounds first later) && goes_on grounds b) last

-- without a binding nothing is signed
pub denial-unbound : (rules : List Constraint) (blob : List ℕ) (chain : List Binding) (message : List ℕ)
    (wall : ℕ) → newest chain ≡ None → denial rules blob chain message wall ≡ Some Unbound
unfolding denial
denial-unbound rules blob [] message wall none = refl
denial-unbound rules blob (binding ∷ later) message wall none = absurd cc

-- by what a chain is judged where this user is to log in
abbrev pub on_login : List Constraint → List ℕ → ℕ → Grounds
on_login rules user wall = record { rules = rules; user = Some user; wall = wall }

-- by the place that isn't good, and the newest binding
abbrev pub denial_by_place : Option ℕ → Login → Binding → Bool → Option Denial
denial_by_place (Some place) auth binding is_only = Some (BadHop place)
denial_by_place None auth binding is_only = denial_of_newest auth binding is_only

-- a message that is no login is denied
pub denial-no_login : (rules : List Constraint) (blob : List ℕ) (chain : List Binding) (message : List ℕ)
    (wall : ℕ) (binding : Binding) (fault : AuthFault) → newest chain ≡ Some binding
    → auth_of message blob ≡ Err fault → denial rules blob chain message wall ≡ Some (NotUserAuth fault)
unfolding denial
denial-no_login rules blob [] message wall binding fault is read = absurd cc
denial-no_login rules blob (first ∷ later) message wall binding fault is read =
    ap (λ a. denial_of_login a rules wall first later) read

-- one of a long user is denied
pub denial-long_user : (rules : List Constraint) (blob : List ℕ) (chain : List Binding) (message : List ℕ)
    (wall : ℕ) (binding : Binding) (auth : Login) → newest chain ≡ Some binding
    → auth_of message blob ≡ Ok auth → 4096 < length auth.user
    → denial rules blob chain message wall ≡ Some LongUser
unfolding denial
denial-long_user rules blob [] message wall binding auth is read long = absurd cc
denial-long_user rules blob (first ∷ later) message wall binding auth is read long =
    let rest = denial_of_place (bad_place (on_login rules auth.user wall) first later) auth first later in
    ap (λ a. denial_of_login a rules wall first later) read
    ∙ ap (λ b. cond b (Some LongUser) rest) (lt-ltb _ _ long)

-- nothing is behind the only binding
only_one : (first : Binding) (later : List Binding) → is_empty later ≡ (length (first ∷ later) == 1)
only_one first later = grind (arith, nat_tests)

-- the two forms agree
by_place : (place : Option ℕ) (auth : Login) (first : Binding) (later : List Binding) (binding : Binding)
    → newest_after first later ≡ binding
    → denial_of_place place auth first later ≡ denial_by_place place auth binding (length (first ∷ later) == 1)
by_place (Some place) auth first later binding is = refl
by_place None auth first later binding is =
    ap (λ b. denial_of_newest auth b (is_empty later)) is
    ∙ ap (denial_of_newest auth binding) (only_one first later)

-- a login is, by the place and the newest binding
pub denial-login : (rules : List Constraint) (blob : List ℕ) (chain : List Binding) (message : List ℕ)
    (wall : ℕ) (binding : Binding) (auth : Login) → newest chain ≡ Some binding
    → auth_of message blob ≡ Ok auth → length auth.user ≤ 4096 → denial rules blob chain message wall
    ≡ denial_by_place (bad_place_in (on_login rules auth.user wall) chain) auth binding (length chain == 1)
unfolding denial
denial-login rules blob [] message wall binding auth is read short = absurd cc
denial-login rules blob (first ∷ later) message wall binding auth is read short =
    let rest = denial_of_place (bad_place (on_login rules auth.user wall) first later) auth first later in
    let last : newest_after first later ≡ binding = cc in
    ap (λ a. denial_of_login a rules wall first later) read
    ∙ ap (λ b. cond b (Some LongUser) rest) (le-ltb _ _ short)
    ∙ by_place (bad_place (on_login rules auth.user wall) first later) auth first later binding last
