-- The host of a login: of the newest binding, and of a constraint that permits the way to it.
use Rattle.std.proofs.Common.{◌≡◌, ℕ, suc, ◌-◌, Bool, true, false, ◌==◌, List, [], ◌∷◌, ◌++◌, length, Option, Some, None, Result, Ok, Err, Bor, refl, sym, ap, ◌∙◌, subst, arith, cond, length-append}
use Rattle.std.specs.Prelude.{◌||◌, is_ok, Contains, IsSomeAnd}
use Rattle.std.specs.List.{list_any, slice_get}
use Rattle.std.specs.Option.{option_copied, option_map}
use Rattle.std.proofs.lemmas.Bool.{and_left, and_right, and_parts, eq-eqb}
use Rattle.key_blob.specs.PublicKeys.{public_key_of}
use Rattle.constraint_rec.specs.declared.constraint.Constraint.{Constraint}
use Rattle.userauth_blob.specs.UserAuths.{Login}
use Rattle.userauth_blob.specs.Reading.{auth_of}
use Rattle.userauth_blob.specs.declared.fault.AuthFault.{AuthFault}
use Rattle.dest_rule.specs.Chains.{Binding, newest_after}
use Rattle.dest_rule.specs.Hosts.{IsPermittedTo, first_to, host_of_login, login_host, newest_host}
use Rattle.dest_rule.specs.Places.{IsPlaceIn, is_good_at, is_good_there, key_before}
use Rattle.dest_rule.specs.Rules.{Grounds, bad_place, denial, is_good, is_pair, permits_pair}
use Rattle.dest_rule.proofs.ChainLemmas.{newest_at}
use Rattle.dest_rule.proofs.LawLemmas.{signed_login}
use Rattle.dest_rule.proofs.LeastLemmas.{bad_place_is}
use Rattle.dest_rule.proofs.OrderLemmas.{by_rules}
use Rattle.dest_rule.proofs.PlaceLemmas.{unread_is_no_hop}

-- ---- host keys that aren't read

-- constraints of which none permits
first_never : (grounds : Grounds) (previous : Option (List ℕ)) (host_key : List ℕ) (rules : List Constraint)
    → ((rule : Constraint) → permits_pair grounds previous host_key rule ≡ false)
    → first_to grounds previous host_key rules ≡ None
first_never grounds previous host_key [] never = refl
first_never grounds previous host_key (rule ∷ rules) never =
    ap (λ b. cond b (Some rule.to.host) (first_to grounds previous host_key rules)) (never rule)
    ∙ first_never grounds previous host_key rules never

-- none leads to a host key that isn't read
pub unread_has_no_host : (grounds : Grounds) (previous : Option (List ℕ)) (host_key : List ℕ) (rules : List Constraint)
    → is_ok (public_key_of host_key) ≡ false → first_to grounds previous host_key rules ≡ None
unread_has_no_host grounds previous host_key rules unread =
    first_never grounds previous host_key rules
    (λ rule. and_left _ _ (and_right _ _ (unread_is_no_hop rule.to host_key grounds.wall unread)))

-- and none leaves one
pub unread_is_not_left : (grounds : Grounds) (previous host_key : List ℕ) (rules : List Constraint)
    → is_ok (public_key_of previous) ≡ false → first_to grounds (Some previous) host_key rules ≡ None
unread_is_not_left grounds previous host_key rules unread =
    first_never grounds (Some previous) host_key rules
    (λ rule. and_left _ _ (and_left _ _ (unread_is_no_hop rule.from previous grounds.wall unread)))

-- ---- the newest of a chain

-- the newest is the last
last_is_newest : (first newest : Binding) (others : List Binding) → newest_after first (others ++ newest ∷ []) ≡ newest
last_is_newest first newest [] = refl
last_is_newest first newest (next ∷ others) = last_is_newest next newest others

-- what stands behind the first of a list doesn't change with what is behind that
get_before : (first newest : Binding) (others : List Binding)
    → slice_get (first ∷ (others ++ newest ∷ [])) (length others) ≡ slice_get (first ∷ others) (length others)
get_before first newest [] = refl
get_before first newest (next ∷ others) = get_before next newest others

-- the newest host, of the bindings before it and itself
pub newest_host-last : (grounds : Grounds) (newest : Binding) (earlier : List Binding)
    → newest_host grounds (earlier ++ newest ∷ [])
    ≡ first_to grounds (option_map (λ (b : Binding). b.host_key) (slice_get earlier (length earlier - 1))) newest.host_key grounds.rules
newest_host-last grounds newest [] = refl
newest_host-last grounds newest (first ∷ others) =
    let behind = others ++ newest ∷ [] in
    let count : length behind ≡ suc (length others) = omega (arith, length-append others (newest ∷ [])) in
    let before : suc (length others) - 1 ≡ length others = omega arith in
    ap (λ n. first_to grounds (key_before None (first ∷ behind) n) (newest_after first behind).host_key grounds.rules) count
    ∙ ap (λ (b : Binding). first_to grounds (key_before None (first ∷ behind) (suc (length others))) b.host_key grounds.rules) (last_is_newest first newest others)
    ∙ ap (λ found. first_to grounds (option_map (λ (b : Binding). b.host_key) found) newest.host_key grounds.rules)
    (get_before first newest others ∙ sym (ap (slice_get (first ∷ others)) before))

-- without a binding there is none
pub newest_host-none : (grounds : Grounds) (chain : List Binding) → length chain ≡ 0 → newest_host grounds chain ≡ None
newest_host-none grounds [] none = refl
newest_host-none grounds (first ∷ later) none = absurd (omega (arith, none))

-- a binding that is lent has the host key that it has
pub lent_host_key : (lent : Option (Bor Binding)) (found : Option Binding) → option_copied lent ≡ found
    → option_map (λ (b : Bor Binding). b.now.host_key) lent ≡ option_map (λ (b : Binding). b.host_key) found
lent_host_key None found is = ap (option_map (λ (b : Binding). b.host_key)) is
lent_host_key (Some binding) found is = ap (option_map (λ (b : Binding). b.host_key)) is

-- ---- messages

pub no_login-host : (rules : List Constraint) (blob : List ℕ) (chain : List Binding) (message : List ℕ) (wall : ℕ)
    (fault : AuthFault) → auth_of message blob ≡ Err fault → login_host rules blob chain message wall ≡ None
unfolding login_host
no_login-host rules blob chain message wall fault read = ap (λ r. host_of_login r rules chain wall) read

pub login-host : (rules : List Constraint) (blob : List ℕ) (chain : List Binding) (message : List ℕ) (wall : ℕ)
    (login : Login) → auth_of message blob ≡ Ok login
    → login_host rules blob chain message wall ≡ newest_host (by_rules rules (Some login.user) wall) chain
unfolding login_host
login-host rules blob chain message wall login read = ap (λ r. host_of_login r rules chain wall) read

-- a key without constraints has none
first_free : (grounds : Grounds) (chain : List Binding) → grounds.rules ≡ [] → newest_host grounds chain ≡ None
first_free grounds [] free = refl
first_free grounds (binding ∷ later) free =
    ap (first_to grounds (key_before None (binding ∷ later) (length later)) (newest_after binding later).host_key) free

free_by : (read : Result Login AuthFault) (chain : List Binding) (wall : ℕ) → host_of_login read [] chain wall ≡ None
free_by (Ok login) chain wall = first_free (by_rules [] (Some login.user) wall) chain refl
free_by (Err fault) chain wall = refl

pub free-host : (blob : List ℕ) (chain : List Binding) (message : List ℕ) (wall : ℕ)
    → login_host [] blob chain message wall ≡ None
unfolding login_host
free-host blob chain message wall = free_by (auth_of message blob) chain wall

-- ---- what is signed

-- one of these constraints permits the way, and its host has this name
abbrev leads_there : Grounds → Option (List ℕ) → List ℕ → List Constraint → List ℕ → Type 0
leads_there grounds previous host_key rules host = (rule : Constraint) × Contains rules rule
    × (permits_pair grounds previous host_key rule ≡ true) × (rule.to.host ≡ host)

-- of more constraints one does too
leads_more : (grounds : Grounds) (previous : Option (List ℕ)) (host_key : List ℕ) (rule : Constraint)
    (rules : List Constraint) (found : Option (List ℕ))
    → IsSomeAnd found (leads_there grounds previous host_key rules)
    → IsSomeAnd found (leads_there grounds previous host_key (rule ∷ rules))
leads_more grounds previous host_key rule rules None there = there
leads_more grounds previous host_key rule rules (Some host) there =
    (there.0, (suc there.1.0, omega (arith, there.1.1), there.1.2), there.2, there.3)

-- where some constraint permits the way, the first that does leads there
first_leads : (grounds : Grounds) (previous : Option (List ℕ)) (host_key : List ℕ) (rules : List Constraint)
    → list_any (permits_pair grounds previous host_key) rules ≡ true
    → IsSomeAnd (first_to grounds previous host_key rules) (leads_there grounds previous host_key rules)
first_leads grounds previous host_key [] some = absurd cc
first_leads grounds previous host_key (rule ∷ rules) some =
    by_first (permits_pair grounds previous host_key rule) refl some
    (λ behind. leads_more grounds previous host_key rule rules (first_to grounds previous host_key rules) (first_leads grounds previous host_key rules behind))
  where
    by_first : (permits : Bool) → permits_pair grounds previous host_key rule ≡ permits
        → (permits || list_any (permits_pair grounds previous host_key) rules) ≡ true
        → (list_any (permits_pair grounds previous host_key) rules ≡ true
        → IsSomeAnd (first_to grounds previous host_key rules) (leads_there grounds previous host_key (rule ∷ rules)))
        → IsSomeAnd (cond permits (Some rule.to.host) (first_to grounds previous host_key rules)) (leads_there grounds previous host_key (rule ∷ rules))
    by_first true is some later = (rule, (0, omega arith, refl), is, refl)
    by_first false is some later = later some

-- where every place is good, some constraint permits the way to the newest host
pair_of_newest : (grounds : Grounds) (first : Binding) (later : List Binding) → bad_place grounds first later ≡ None
    → is_pair grounds (key_before None (first ∷ later) (length later)) (newest_after first later).host_key ≡ true
unfolding is_good_at
pair_of_newest grounds first later none =
    let chain = first ∷ later in
    let left = key_before None chain (length later) in
    let all = subst (IsPlaceIn grounds chain) none (bad_place_is grounds first later) in
    let there = subst (λ b. is_good_there b (suc (length later) == length chain) grounds left ≡ true) (newest_at first later)
    (all (length later) (omega arith)) in
    let newest = subst (λ b. is_good b grounds left (newest_after first later) ≡ true)
    (eq-eqb (suc (length later)) (length chain) refl) there in
    (and_parts _ _ newest).1

-- a name by which one leads there is that of a constraint that permits it
as_record : (grounds : Grounds) (first : Binding) (later : List Binding) (found : Option (List ℕ))
    → IsSomeAnd found (leads_there grounds (key_before None (first ∷ later) (length later)) (newest_after first later).host_key grounds.rules)
    → IsSomeAnd found (IsPermittedTo grounds first later)
as_record grounds first later None there = there
as_record grounds first later (Some host) there = record { rule = there.0; held = there.1; permits = there.2; name = there.3 }

-- so a login that isn't denied has a host
pub signed_has_host : (rules : List Constraint) (blob : List ℕ) (first : Binding) (later : List Binding)
    (message : List ℕ) (wall : ℕ) (auth : Login) → denial rules blob (first ∷ later) message wall ≡ None
    → auth_of message blob ≡ Ok auth → IsSomeAnd (login_host rules blob (first ∷ later) message wall)
    (IsPermittedTo (by_rules rules (Some auth.user) wall) first later)
unfolding denial
signed_has_host rules blob first later message wall auth none is =
    let grounds = by_rules rules (Some auth.user) wall in
    let left = key_before None (first ∷ later) (length later) in
    let newest = (newest_after first later).host_key in
    let good = (signed_login (auth_of message blob) rules wall first later auth is none).0 in
    let leads = first_leads grounds left newest rules (pair_of_newest grounds first later good) in
    subst (λ (host : Option (List ℕ)). IsSomeAnd host (IsPermittedTo grounds first later))
    (sym (login-host rules blob (first ∷ later) message wall auth is))
    (as_record grounds first later (first_to grounds left newest rules) leads)
