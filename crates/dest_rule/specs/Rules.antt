-- Whether destination constraints permit a chain of bindings, and with it the use of a key (ours,
-- over the records of OpenSSH's PROTOCOL.agent, "restrict-destination-v00@openssh.com key constraint
-- extension").
use Rattle.std.specs.Prelude.{ℕ, suc, Bool, true, false, not, nat_lt, List, [], ◌∷◌, length, Option, Some, None, Result, Ok, Err, is_none, ◌&&◌, ◌||◌, if◌then◌else◌}
use Rattle.std.specs.List.{list_any}
use Rattle.std.specs.Str.{bytes_eq}
use Rattle.pattern_core.specs.Patterns.{is_match, is_nothing}
use Rattle.key_blob.specs.Certificates.{CertificateParts}
use Rattle.key_blob.specs.PublicKeys.{KeyParts, public_key_of}
use Rattle.key_blob.specs.declared.fault.KeyFault.{KeyFault}
use Rattle.constraint_rec.specs.declared.key_spec.KeySpec.{KeySpec}
use Rattle.constraint_rec.specs.declared.constraint.Hop.{Hop}
use Rattle.constraint_rec.specs.declared.constraint.Constraint.{Constraint}
use Rattle.constraint_rec.specs.HopReading.{is_empty}
use Rattle.userauth_blob.specs.UserAuths.{Login}
use Rattle.userauth_blob.specs.Reading.{auth_of}
use Rattle.userauth_blob.specs.declared.fault.AuthFault.{AuthFault}
use Rattle.dest_rule.specs.Chains.{Binding, newest_after}
use Rattle.key_blob.specs.Validity.{is_valid}
-- why an identity under constraints isn't used
pub use Rattle.dest_rule.specs.declared.denial.Denial.{Denial}
pub use Rattle.dest_rule.specs.declared.denial.Denial.TheVariants.{Unbound, NotUserAuth, LongUser, Hop as BadHop, OtherSession, NoHostKey, OtherHostKey}

-- ---- a hop

-- a host key is one of a hop's keys: it is equal, or its certificate is good for the host and of
-- that authority
abbrev pub fits_key : Option CertificateParts → List ℕ → List ℕ → ℕ → KeySpec → Bool
fits_key None host_key host wall key = not key.authority && bytes_eq key.blob host_key
fits_key (Some certificate) host_key host wall key =
    key.authority && bytes_eq key.blob certificate.signer && is_valid certificate host wall

-- a host key that was read is that of the hop's host; one that wasn't read is no host's
abbrev pub fits_hop : Result KeyParts KeyFault → Hop → List ℕ → ℕ → Bool
fits_hop (Ok key) hop host_key wall =
    list_any (fits_key key.certificate host_key hop.host wall) hop.keys
fits_hop (Err fault) hop host_key wall = false

-- the host key is that of the hop's host, at this wall clock
unfoldable pub is_hop : Hop → List ℕ → ℕ → Bool
is_hop hop host_key wall = fits_hop (public_key_of host_key) hop host_key wall

-- ---- a pair of hosts

-- by what a chain is judged: the constraints, the user where one is to log in, and the wall clock
pub record Grounds : Type 0 where
  pub rules : List Constraint
  pub user : Option (List ℕ)
  pub wall : ℕ

-- the hop that is left is the agent's own host, or that of the previous host key
abbrev pub leaves : Hop → Option (List ℕ) → ℕ → Bool
leaves hop None wall = is_empty hop.keys
leaves hop (Some host_key) wall = is_hop hop host_key wall

-- the hop lets the user in, where one is to log in: one without a user lets in any
abbrev pub admits : List ℕ → Option (List ℕ) → Bool
admits pattern None = true
admits pattern (Some user) = is_nothing pattern || is_match user pattern

-- a constraint permits to go from the previous host key, or the agent's own host, to this one
abbrev pub permits_pair : Grounds → Option (List ℕ) → List ℕ → Constraint → Bool
permits_pair grounds previous host_key rule =
    leaves rule.from previous grounds.wall && is_hop rule.to host_key grounds.wall
    && admits rule.to.user grounds.user

-- some constraint permits to go from the previous host key, or the agent's own host, to this one
abbrev pub is_pair : Grounds → Option (List ℕ) → List ℕ → Bool
is_pair grounds previous host_key = list_any (permits_pair grounds previous host_key) grounds.rules

-- ---- a chain

-- the grounds without a user: nobody is to log in on the way
abbrev pub on_the_way : Grounds → Grounds
on_the_way grounds = record grounds { user = None }

-- a binding that others follow is good: it is forwarding, and the way to it is permitted
abbrev pub is_good_between : Grounds → Option (List ℕ) → Binding → Bool
is_good_between grounds previous binding =
    binding.forwarding && is_pair (on_the_way grounds) previous binding.host_key

-- the newest binding may be the last: with a user who is to log in, it isn't forwarding
abbrev pub ends : Option (List ℕ) → Bool → Bool
ends None forwarding = true
ends (Some user) forwarding = not forwarding

-- the newest binding is good: the way to it is permitted, for the user who is to log in
abbrev pub is_good_newest : Grounds → Option (List ℕ) → Binding → Bool
is_good_newest grounds previous binding =
    ends grounds.user binding.forwarding && is_pair grounds previous binding.host_key

-- a binding is good behind the previous host key, by whether it is the newest
abbrev pub is_good : Bool → Grounds → Option (List ℕ) → Binding → Bool
is_good true grounds previous binding = is_good_newest grounds previous binding
is_good false grounds previous binding = is_good_between grounds previous binding

-- the first place that isn't good, counted from this one, of a binding and those behind it
abbrev pub bad_place_from : Grounds → ℕ → Option (List ℕ) → Binding → List Binding → Option ℕ
bad_place_from grounds place previous binding [] =
    if is_good_newest grounds previous binding then None else Some place
bad_place_from grounds place previous binding (next ∷ later) =
    if is_good_between grounds previous binding
    then bad_place_from grounds (suc place) (Some binding.host_key) next later
    else Some place

-- the first place of a chain that isn't good, from 0
unfoldable pub bad_place : Grounds → Binding → List Binding → Option ℕ
bad_place grounds binding later = bad_place_from grounds 0 None binding later

-- the first place that isn't good, from 0, of a chain that may be empty
abbrev pub bad_place_in : Grounds → List Binding → Option ℕ
bad_place_in grounds [] = None
bad_place_in grounds (binding ∷ later) = bad_place grounds binding later

-- some constraint permits to leave the host of this key
abbrev pub leads_on : Grounds → List ℕ → Bool
leads_on grounds host_key = list_any (λ rule. is_hop rule.from host_key grounds.wall) grounds.rules

-- the binding isn't forwarding, or some constraint permits to leave its host
abbrev pub goes_on : Grounds → Binding → Bool
goes_on grounds binding = not binding.forwarding || leads_on grounds binding.host_key

-- every place is good, and the newest host may be left again where the agent is forwarded to it;
-- nobody is to log in
abbrev pub permits_way : Grounds → Binding → List Binding → Bool
permits_way grounds binding later =
    is_none (bad_place grounds binding later) && goes_on grounds (newest_after binding later)

-- ---- what a connection sees, and what it may have signed

-- an identity under constraints is seen by a connection with these bindings, by whether it tried to
-- bind: nothing is seen where every try failed
abbrev pub visible_from : List Constraint → List Binding → Bool → ℕ → Bool
visible_from rules [] attempted wall = not attempted
visible_from rules (binding ∷ later) attempted wall =
    permits_way (record { rules = rules; user = None; wall = wall }) binding later

-- an identity under these constraints is listed to the connection, and may be replaced and removed
-- by it
unfoldable pub visible : List Constraint → List Binding → Bool → ℕ → Bool
visible [] chain attempted wall = true
visible (rule ∷ rules) chain attempted wall = visible_from (rule ∷ rules) chain attempted wall

-- why the host key that a login is bound to isn't permitted: it is the newest host's, or there is none
-- and no other host
abbrev pub denial_of_key : Option (List ℕ) → List ℕ → Bool → Option Denial
denial_of_key (Some host_key) newest is_only =
    if bytes_eq host_key newest then None else Some OtherHostKey
denial_of_key None newest is_only = if is_only then None else Some NoHostKey

-- why a login isn't permitted by the newest binding: its session has to be that binding's, and its
-- host key too, which has to be there where there are other hosts
abbrev pub denial_of_newest : Login → Binding → Bool → Option Denial
denial_of_newest login newest is_only =
    if bytes_eq login.session newest.session
    then denial_of_key login.host_key newest.host_key is_only
    else Some OtherSession

-- why a login isn't permitted, by the first place of its chain that isn't good
abbrev pub denial_of_place : Option ℕ → Login → Binding → List Binding → Option Denial
denial_of_place (Some place) login binding later = Some (BadHop place)
denial_of_place None login binding later =
    denial_of_newest login (newest_after binding later) (is_empty later)

-- why a message that was read isn't permitted: it has to be a login, of a user of at most 4096 bytes (ours)
abbrev pub denial_of_login : Result Login AuthFault → List Constraint → ℕ → Binding → List Binding
    → Option Denial
denial_of_login (Err fault) rules wall binding later = Some (NotUserAuth fault)
denial_of_login (Ok login) rules wall binding later =
    let grounds : Grounds = record { rules = rules; user = Some login.user; wall = wall } in
    if nat_lt 4096 (length login.user) then Some LongUser
    else denial_of_place (bad_place grounds binding later) login binding later

-- why the key of this blob, under these constraints, isn't to sign the message for a connection so
-- bound
unfoldable pub denial : List Constraint → List ℕ → List Binding → List ℕ → ℕ → Option Denial
denial rules blob [] message wall = Some Unbound
denial rules blob (binding ∷ later) message wall =
    denial_of_login (auth_of message blob) rules wall binding later

-- why a key isn't to sign the message for a connection so bound: one without constraints signs any
abbrev pub denial_under : List Constraint → List ℕ → List Binding → List ℕ → ℕ → Option Denial
denial_under [] blob chain message wall = None
denial_under (rule ∷ rules) blob chain message wall = denial (rule ∷ rules) blob chain message wall
