-- What the laws say of hops, sessions and logins.
use Rattle.std.proofs.Common.{◌≡◌, ◌≢◌, ◌==◌, ◌≤◌, nat_lt, ℕ, suc, Bool, true, false, List, [], ◌∷◌, length, Option, Some, None, Result, Ok, Err, refl, sym, ap, ◌∙◌, subst, cond}
use Rattle.std.specs.List.{list_any, slice_get}
use Rattle.std.proofs.lemmas.Bool.{ltb-false, both_ways, and_parts, and_left, or_from}
use Rattle.std.proofs.lemmas.Option.{slice_get_within}
use Rattle.std.proofs.lemmas.Slice.Eq.{bytes_eq-Decides}
use Rattle.key_blob.specs.PublicKeys.{KeyParts, public_key_of}
use Rattle.key_blob.specs.declared.fault.KeyFault.{KeyFault}
use Rattle.constraint_rec.specs.declared.constraint.Hop.{Hop}
use Rattle.constraint_rec.specs.declared.constraint.Constraint.{Constraint}
use Rattle.userauth_blob.specs.UserAuths.{Login}
use Rattle.userauth_blob.specs.Reading.{auth_of}
use Rattle.userauth_blob.specs.declared.fault.AuthFault.{AuthFault}
use Rattle.dest_rule.specs.Chains.{Binding, newest_after}
use Rattle.dest_rule.specs.Rules.{Grounds, fits_key, fits_hop, is_hop, is_pair, on_the_way, is_good, bad_place_from, bad_place, permits_way, visible, Denial, LongUser, OtherSession, denial_of_newest, denial_of_place, denial_of_login, denial}
use Rattle.constraint_rec.specs.HopReading.{is_empty}
use Rattle.dest_rule.specs.Places.{key_before, is_good_there, is_good_at, IsPlaceIn}
use Rattle.dest_rule.proofs.OrderLemmas.{by_rules, none_bad, is_pair-anyone, login_is_a_way}
use Rattle.dest_rule.proofs.LeastLemmas.{bad_place_is}

-- ---- one constraint from the agent's own host

-- a hop without keys is no host key's
keyless_fits : (read : Result KeyParts KeyFault) (hop : Hop) (host_key : List ℕ) (wall : ℕ)
    → hop.keys ≡ [] → fits_hop read hop host_key wall ≡ false
keyless_fits (Ok key) hop host_key wall none = ap (list_any (fits_key key.certificate host_key hop.host wall)) none
keyless_fits (Err fault) hop host_key wall none = refl

-- the same of a host key
keyless_is_no_hop : (hop : Hop) (host_key : List ℕ) (wall : ℕ) → hop.keys ≡ [] → is_hop hop host_key wall ≡ false
unfolding is_hop
keyless_is_no_hop hop host_key wall none = keyless_fits (public_key_of host_key) hop host_key wall none

-- no pair begins at a host key
no_second : (rule : Constraint) (user : Option (List ℕ)) (wall : ℕ) (previous host_key : List ℕ)
    → rule.from.keys ≡ [] → is_pair (by_rules (rule ∷ []) user wall) (Some previous) host_key ≡ false
no_second rule user wall previous host_key none =
    or_from _ _ (and_left _ _ (and_left _ _ (keyless_is_no_hop rule.from previous wall none))) refl

-- so no place behind the first is good
no_second_place : (rule : Constraint) (user : Option (List ℕ)) (wall place : ℕ) (previous : List ℕ)
    (binding : Binding) (later : List Binding) → rule.from.keys ≡ []
    → bad_place_from (by_rules (rule ∷ []) user wall) place (Some previous) binding later ≢ None
no_second_place rule user wall place previous binding [] none good =
    both_ways _ (no_second rule user wall previous binding.host_key none)
    (and_parts _ _ (none_bad _ _ _ good).0).1
no_second_place rule user wall place previous binding (next ∷ later) none good =
    both_ways _ (no_second rule None wall previous binding.host_key none)
    (and_parts _ _ (none_bad _ _ _ good).0).1

-- and no chain of two
pub origin_alone : (rule : Constraint) (user : Option (List ℕ)) (wall : ℕ) (first next : Binding)
    (later : List Binding) → rule.from.keys ≡ []
    → bad_place (by_rules (rule ∷ []) user wall) first (next ∷ later) ≢ None
unfolding bad_place
origin_alone rule user wall first next later none good =
    no_second_place rule user wall 1 first.host_key next later none (none_bad _ _ _ good).1

-- ---- each hop

-- where a place is good, its pair is permitted
pair_of_good : (newest : Bool) (grounds : Grounds) (previous : Option (List ℕ)) (binding : Binding)
    → is_good newest grounds previous binding ≡ true
    → is_pair (on_the_way grounds) previous binding.host_key ≡ true
pair_of_good true grounds previous binding good =
    is_pair-anyone grounds previous binding.host_key (and_parts _ _ good).1
pair_of_good false grounds previous binding good = (and_parts _ _ good).1

-- the same of a place of a chain
pair_at : (grounds : Grounds) (chain : List Binding) (place : ℕ) (binding : Binding)
    → slice_get chain place ≡ Some binding → is_good_at grounds None chain place ≡ true
    → is_pair (on_the_way grounds) (key_before None chain place) binding.host_key ≡ true
unfolding is_good_at
pair_at grounds chain place binding there good =
    pair_of_good _ grounds (key_before None chain place) binding
    (subst (λ b. is_good_there b (suc place == length chain) grounds (key_before None chain place) ≡ true) there good)

-- so each hop of a permitted chain is
pub every_hop : (grounds : Grounds) (first : Binding) (later : List Binding) (place : ℕ) (binding : Binding)
    → bad_place grounds first later ≡ None → slice_get (first ∷ later) place ≡ Some binding
    → is_pair (on_the_way grounds) (key_before None (first ∷ later) place) binding.host_key ≡ true
every_hop grounds first later place binding none there =
    let all = subst (IsPlaceIn grounds (first ∷ later)) none (bad_place_is grounds first later) in
    pair_at grounds (first ∷ later) place binding there (all place (slice_get_within (first ∷ later) place binding there))

-- ---- what is signed

-- where a login isn't denied, its chain is permitted, and it is to the newest session
signed_place : (place : Option ℕ) (auth : Login) (first : Binding) (later : List Binding)
    → denial_of_place place auth first later ≡ None
    → (place ≡ None) × (denial_of_newest auth (newest_after first later) (is_empty later) ≡ None)
signed_place (Some place) auth first later none = absurd cc
signed_place None auth first later none = (refl, none)

-- a login that isn't denied has a short user
signed_short : (long : Bool) (rest : Option Denial) → cond long (Some LongUser) rest ≡ None
    → (long ≡ false) × (rest ≡ None)
signed_short true rest none = absurd cc
signed_short false rest none = (refl, none)

-- the same of one that was read, and what holds of its place
signed_user : (rules : List Constraint) (wall : ℕ) (first : Binding) (later : List Binding) (auth : Login)
    → denial_of_login (Ok auth) rules wall first later ≡ None
    → (length auth.user ≤ 4096)
    × (denial_of_place (bad_place (by_rules rules (Some auth.user) wall) first later) auth first later ≡ None)
signed_user rules wall first later auth none =
    let both = signed_short (nat_lt 4096 (length auth.user)) _ none in
    (ltb-false _ _ both.0, both.1)

-- a session that isn't another
signed_session : (same : Bool) (rest : Option Denial) → cond same rest (Some OtherSession) ≡ None → same ≡ true
signed_session true rest none = refl
signed_session false rest none = absurd cc

-- what isn't denied of a message that reads as a login
pub signed_login : (read : Result Login AuthFault) (rules : List Constraint) (wall : ℕ) (first : Binding)
    (later : List Binding) (auth : Login) → read ≡ Ok auth
    → denial_of_login read rules wall first later ≡ None
    → (bad_place (by_rules rules (Some auth.user) wall) first later ≡ None)
    × (denial_of_newest auth (newest_after first later) (is_empty later) ≡ None)
signed_login read rules wall first later auth is none =
    signed_place _ auth first later (signed_user rules wall first later auth
    (ap (λ r. denial_of_login r rules wall first later) (sym is) ∙ none)).1

-- the session is the newest
pub signed_is_newest : (rules : List Constraint) (blob : List ℕ) (first : Binding) (later : List Binding)
    (message : List ℕ) (wall : ℕ) (auth : Login) → denial rules blob (first ∷ later) message wall ≡ None
    → auth_of message blob ≡ Ok auth → auth.session ≡ (newest_after first later).session
unfolding denial
signed_is_newest rules blob first later message wall auth none is =
    let newest = signed_login (auth_of message blob) rules wall first later auth is none in
    (bytes_eq-Decides auth.session (newest_after first later).session).0 (signed_session _ _ newest.1)

-- the user has at most 4096 bytes
pub signed_user_is_short : (rules : List Constraint) (blob : List ℕ) (chain : List Binding)
    (message : List ℕ) (wall : ℕ) (auth : Login) → denial rules blob chain message wall ≡ None
    → auth_of message blob ≡ Ok auth → length auth.user ≤ 4096
unfolding denial
signed_user_is_short rules blob [] message wall auth none is = absurd cc
signed_user_is_short rules blob (first ∷ later) message wall auth none is =
    (signed_user rules wall first later auth (ap (λ r. denial_of_login r rules wall first later) (sym is) ∙ none)).0

-- without a binding there is a denial
pub unbound_is_denied : (rules : List Constraint) (blob message : List ℕ) (wall : ℕ)
    → denial rules blob [] message wall ≢ None
unfolding denial
unbound_is_denied rules blob message wall none = cc

-- ---- what is visible

-- the mark makes no difference once there is a binding
pub mark_is_free : (rules : List Constraint) (binding : Binding) (later : List Binding) (attempted other : Bool)
    (wall : ℕ) → visible rules (binding ∷ later) attempted wall ≡ visible rules (binding ∷ later) other wall
unfolding visible
mark_is_free [] binding later attempted other wall = refl
mark_is_free (rule ∷ rules) binding later attempted other wall = refl

-- a login that isn't denied is on a way that is permitted
signed_way : (read : Result Login AuthFault) (rules : List Constraint) (wall : ℕ) (first : Binding)
    (later : List Binding) → denial_of_login read rules wall first later ≡ None
    → permits_way (by_rules rules None wall) first later ≡ true
signed_way (Ok auth) rules wall first later none =
    login_is_a_way rules auth.user wall first later
    (signed_place _ auth first later (signed_user rules wall first later auth none).1).0
signed_way (Err fault) rules wall first later none = absurd cc

-- so its key is visible
pub signed_is_visible : (rules : List Constraint) (blob : List ℕ) (chain : List Binding) (message : List ℕ)
    (wall : ℕ) (attempted : Bool) → denial rules blob chain message wall ≡ None
    → visible rules chain attempted wall ≡ true
unfolding denial visible
signed_is_visible [] blob chain message wall attempted none = refl
signed_is_visible (rule ∷ rules) blob [] message wall attempted none = absurd cc
signed_is_visible (rule ∷ rules) blob (first ∷ later) message wall attempted none =
    signed_way (auth_of message blob) (rule ∷ rules) wall first later none
