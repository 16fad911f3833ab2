-- A key whose only constraint leads from the agent's own host to one host signs for that host alone.
use Rattle.std.proofs.Common.{◌≡◌, ℕ, nat_lt, cond, length, List, [], ◌∷◌, refl, ap, sym, ◌∙◌, Option, Some, None, Bool, true, false, ◌&&◌, ◌||◌, Result, Ok, Err}
use Rattle.agent_msg.specs.Requests.{Signing}
use Rattle.constraint_rec.specs.declared.constraint.Constraint.{Constraint}
use Rattle.userauth_blob.specs.Reading.{auth_of}
use Rattle.userauth_blob.specs.UserAuths.{Login}
use Rattle.userauth_blob.specs.declared.fault.AuthFault.{AuthFault}
use Rattle.dest_rule.specs.Rules.{Grounds, admits, bad_place, denial, denial_of_login, denial_of_place, denial_under, is_hop, leaves}
use Rattle.dest_rule.specs.declared.binding.Binding.{Binding}
use Rattle.dest_rule.specs.declared.denial.Denial.{Denial}
use Rattle.dest_rule.specs.declared.denial.Denial.TheVariants.{LongUser}
use Rattle.dest_rule.proofs.LawLemmas.{every_hop, origin_alone, signed_is_newest, unbound_is_denied}
use Rattle.agent_model.specs.Events.{Timed}
use Rattle.agent_model.specs.Runs.{Stamped, run}
use Rattle.agent_model.specs.State.{Settings, first_state}
use Rattle.agent_laws.specs.Dues.{proved_of}
use Rattle.agent_laws.specs.History.{HasNumbers, IsLoginTo, IsPutBehind, onto}
use Rattle.agent_laws.specs.Past.{PastAddition, last_addition}
use Rattle.agent_laws.proofs.ConsequenceLemmas.{put-permitted}

abbrev grounds_for : Constraint → List ℕ → ℕ → Grounds
grounds_for rule user wall = record { rules = rule ∷ []; user = Some user; wall = wall }

no_place : (place : Option ℕ) (login : Login) (first : Binding) (later : List Binding)
    → denial_of_place place login first later ≡ None → place ≡ None
no_place None login first later is = refl
no_place (Some place) login first later is = absurd (cc)

not_long : (long : Bool) (otherwise : Option Denial) → cond long (Some LongUser) otherwise ≡ None → otherwise ≡ None
not_long true otherwise is = absurd (cc)
not_long false otherwise is = is

-- what is permitted is a login, by a chain that is good for its user
pub record IsLogin (rule : Constraint) (blob message : List ℕ) (wall : ℕ) (first : Binding) (later : List Binding) : Type 0 where
  pub login : Login
  pub names : auth_of message blob ≡ Ok login
  pub good : bad_place (grounds_for rule login.user wall) first later ≡ None

by_auth : (rule : Constraint) (blob message : List ℕ) (wall : ℕ) (first : Binding) (later : List Binding) (auth : Result Login AuthFault)
    → auth_of message blob ≡ auth → denial_of_login auth (rule ∷ []) wall first later ≡ None
    → IsLogin rule blob message wall first later
by_auth rule blob message wall first later (Err fault) is none = absurd (cc)
by_auth rule blob message wall first later (Ok login) is none =
    let place = bad_place (grounds_for rule login.user wall) first later in
    let short = not_long (nat_lt 4096 (length login.user)) (denial_of_place place login first later) none in
    record { login = login; names = is; good = no_place place login first later short }

is_login : (rule : Constraint) (blob message : List ℕ) (wall : ℕ) (first : Binding) (later : List Binding)
    → denial (rule ∷ []) blob (first ∷ later) message wall ≡ None
    → IsLogin rule blob message wall first later
unfolding denial
is_login rule blob message wall first later none =
    by_auth rule blob message wall first later (auth_of message blob) refl none

-- the one constraint has the host key
middle_of : (a b c : Bool) → ((a && b && c) || false) ≡ true → b ≡ true
middle_of true true c is = refl
middle_of true false c is = absurd (cc)
middle_of false b c is = absurd (cc)

one_host : (rule : Constraint) (chain : List Binding) (signing : Signing) (wall : ℕ)
    → rule.from.keys ≡ [] → denial (rule ∷ []) signing.blob chain signing.message wall ≡ None
    → IsLoginTo rule chain signing wall
one_host rule [] signing wall keys none =
    absurd (unbound_is_denied (rule ∷ []) signing.blob signing.message wall none)
one_host rule (first ∷ []) signing wall keys none =
    let is = is_login rule signing.blob signing.message wall first [] none in
    record {
      binding = first;
      only = refl;
      login = is.login;
      names = is.names;
      session = signed_is_newest (rule ∷ []) signing.blob first [] signing.message wall is.login none is.names;
      host = middle_of (leaves rule.from None wall) (is_hop rule.to first.host_key wall) (admits rule.to.user None)
          (every_hop (grounds_for rule is.login.user wall) first [] 0 first is.good refl);
    }
one_host rule (first ∷ next ∷ later) signing wall keys none =
    let is = is_login rule signing.blob signing.message wall first (next ∷ later) none in
    absurd (origin_alone rule (Some is.login.user) wall first next later keys is.good)

pub put-to_host : (before rest : List Stamped) (newest : Stamped) (port : ℕ) (signing : Signing) (settings : Settings) (events : List Timed) (past : PastAddition) (rule : Constraint)
    → HasNumbers (run (first_state settings) events)
    → IsPutBehind before port signing settings events → onto [] before ≡ newest ∷ rest
    → last_addition signing.blob (onto [] before) ≡ Some past
    → past.addition.terms.rules ≡ rule ∷ [] → rule.from.keys ≡ []
    → IsLoginTo rule (proved_of port (onto [] before)) signing newest.moment.wall
put-to_host before rest newest port signing settings events past rule numbers put is last rules keys =
    one_host rule (proved_of port (onto [] before)) signing newest.moment.wall keys
    (ap (λ all. denial_under all signing.blob (proved_of port (onto [] before)) signing.message newest.moment.wall) (sym rules)
    ∙ put-permitted before rest newest port signing settings events past numbers put is last)
