-- Who is at a port, and what an event brings there.
use Rattle.std.proofs.Common.{◌≡◌, ℕ, List, refl, ap, ◌∙◌, Option, Some, None, Bool, true, false, arith, ◌==◌, IsSome}
use Rattle.std.proofs.lemmas.Bool.Decides.{nat_tests}
use Rattle.world_ports.specs.declared.Door.{Door}
use Rattle.world_ports.specs.declared.Door.TheVariants.{Clients, Children}
use Rattle.helper_link.specs.declared.state.LinkState.{LinkState}
use Rattle.helper_link.specs.declared.state.LinkState.TheVariants as states
use Rattle.agent_model.specs.Events.{Ended, Heard, Took}
use Rattle.agent_model.specs.State.{Client, Confirmer, Helper, Port, Role, State, UnderWay, Unnamed, find_port, is_linked_to, is_unnamed, role_by_helper, role_by_link, role_of}
use Rattle.agent_model.specs.Step.{ended_at, ended_by_role, handle, heard_at, heard_by_role, took_at, took_by_role}
use Rattle.std.specs.Option.{option_map}
use Rattle.confirm_desk.specs.Confirmations.{Confirmation, find_linked}
use Rattle.agent_core.specs.declared.role.Role.TheVariants as core
use Rattle.agent_core.specs.Roles.{door_by, is_unnamed_kind, role_by, role_kind}

-- a role stands at a port that is open
pub port_of_role : (found : Option Port) (going : UnderWay) (role : Role) → role_by found going ≡ Some role → (port : Port) × (found ≡ Some port) × (role_of port.door port.number going ≡ role)
port_of_role None going role is = absurd (cc)
port_of_role (Some port) going role is = (port, refl, cc)

-- an event at a port is by who is there
pub heard-as : (number : ℕ) (piece : List ℕ) (port : Port) (role : Role) (state : State) → find_port number state.ports ≡ Some port → role_of port.door port.number state.under_way ≡ role → handle (Heard number piece) state ≡ heard_by_role role port piece state
heard-as number piece port role state found is =
    ap (λ (o : Option Port). heard_at o piece state) found
    ∙ ap (λ (r : Role). heard_by_role r port piece state) is

pub took-as : (number count : ℕ) (port : Port) (role : Role) (state : State) → find_port number state.ports ≡ Some port → role_of port.door port.number state.under_way ≡ role → handle (Took number count) state ≡ took_by_role role port.number count state
took-as number count port role state found is =
    ap (λ (o : Option Port). took_at o count state) found
    ∙ ap (λ (r : Role). took_by_role r port.number count state) is

pub ended-as : (number : ℕ) (port : Port) (role : Role) (state : State) → find_port number state.ports ≡ Some port → role_of port.door port.number state.under_way ≡ role → handle (Ended number) state ≡ ended_by_role role port.number state
ended-as number port role state found is =
    ap (λ (o : Option Port). ended_at o state) found
    ∙ ap (λ (r : Role). ended_by_role r port.number state) is

-- ---- the helper

-- it is at the port that the link names
pub linked_number : (number : ℕ) (state : LinkState) → is_linked_to number state ≡ true → state ≡ states.Linked number
linked_number number states.None is = absurd (cc)
linked_number number (states.Starting job) is = absurd (cc)
linked_number number (states.Linked port) is =
    let same : port ≡ number = grind (arith, nat_tests) in
    ap (λ n. states.Linked n) same

-- only it is the helper
helper_link : (found : Option Confirmation) → role_by_link found ≡ Helper → ⊥
helper_link None is = absurd (cc)
helper_link (Some one) is = absurd (cc)

helper_by : (linked : Bool) (number : ℕ) (confirmations : List Confirmation) → role_by_helper linked number confirmations ≡ Helper → linked ≡ true
helper_by true number confirmations is = refl
helper_by false number confirmations is = absurd (helper_link (find_linked number confirmations) is)

pub linked-as : (door : Door) (number : ℕ) (going : UnderWay) → role_of door number going ≡ Helper → going.link.state ≡ states.Linked number
linked-as Clients number going is = absurd (cc)
linked-as Children number going is =
    linked_number number going.link.state (helper_by (is_linked_to number going.link.state) number going.confirmations is)

-- a confirmer is where its confirmation says
pub confirmer-as : (door : Door) (number : ℕ) (going : UnderWay) (one : Confirmation) → role_of door number going ≡ Confirmer one → find_linked number going.confirmations ≡ Some one
confirmer-as Clients number going one is = absurd (cc)
confirmer-as Children number going one is = by_linked (is_linked_to number going.link.state) is
  where
    by_link : (found : Option Confirmation) → role_by_link found ≡ Confirmer one → found ≡ Some one
    by_link None there = absurd (cc)
    by_link (Some other) there = cc

    by_linked : (linked : Bool) → role_by_helper linked number going.confirmations ≡ Confirmer one → find_linked number going.confirmations ≡ Some one
    by_linked true there = absurd (cc)
    by_linked false there = by_link (find_linked number going.confirmations) there

-- where none has named itself, no confirmation is
pub unnamed-free : (door : Door) (number : ℕ) (going : UnderWay) → role_of door number going ≡ Unnamed → (door ≡ Children) × (find_linked number going.confirmations ≡ None)
unnamed-free Clients number going is = absurd (cc)
unnamed-free Children number going is = (refl, by_linked (is_linked_to number going.link.state) is)
  where
    by_link : (found : Option Confirmation) → role_by_link found ≡ Unnamed → found ≡ None
    by_link None there = refl
    by_link (Some other) there = absurd (cc)

    by_linked : (linked : Bool) → role_by_helper linked number going.confirmations ≡ Unnamed → find_linked number going.confirmations ≡ None
    by_linked true there = absurd (cc)
    by_linked false there = by_link (find_linked number going.confirmations) there

-- ---- who the code says is there

pub client-kind : (role : Option Role) → option_map role_kind role ≡ Some core.Client → role ≡ Some Client
client-kind None is = absurd (cc)
client-kind (Some Client) is = refl
client-kind (Some Unnamed) is = let no : core.Unnamed ≡ core.Client = cc in absurd (cc)
client-kind (Some Helper) is = let no : core.Helper ≡ core.Client = cc in absurd (cc)
client-kind (Some (Confirmer one)) is = let no : core.Confirmer ≡ core.Client = cc in absurd (cc)

pub unnamed-kind : (role : Option Role) → option_map role_kind role ≡ Some core.Unnamed → role ≡ Some Unnamed
unnamed-kind None is = absurd (cc)
unnamed-kind (Some Client) is = let no : core.Client ≡ core.Unnamed = cc in absurd (cc)
unnamed-kind (Some Unnamed) is = refl
unnamed-kind (Some Helper) is = let no : core.Helper ≡ core.Unnamed = cc in absurd (cc)
unnamed-kind (Some (Confirmer one)) is = let no : core.Confirmer ≡ core.Unnamed = cc in absurd (cc)

pub helper-kind : (role : Option Role) → option_map role_kind role ≡ Some core.Helper → role ≡ Some Helper
helper-kind None is = absurd (cc)
helper-kind (Some Client) is = let no : core.Client ≡ core.Helper = cc in absurd (cc)
helper-kind (Some Unnamed) is = let no : core.Unnamed ≡ core.Helper = cc in absurd (cc)
helper-kind (Some Helper) is = refl
helper-kind (Some (Confirmer one)) is = let no : core.Confirmer ≡ core.Helper = cc in absurd (cc)

pub confirmer-kind : (role : Option Role) → option_map role_kind role ≡ Some core.Confirmer → (one : Confirmation) × (role ≡ Some (Confirmer one))
confirmer-kind None is = absurd (cc)
confirmer-kind (Some Client) is = let no : core.Client ≡ core.Confirmer = cc in absurd (cc)
confirmer-kind (Some Unnamed) is = let no : core.Unnamed ≡ core.Confirmer = cc in absurd (cc)
confirmer-kind (Some Helper) is = let no : core.Helper ≡ core.Confirmer = cc in absurd (cc)
confirmer-kind (Some (Confirmer one)) is = (one, refl)

-- where somebody is, a port is open
pub some_of_role : (number : ℕ) (ports : List Port) (going : UnderWay) (role : Role) → role_by (find_port number ports) going ≡ Some role → IsSome (find_port number ports)
some_of_role number ports going role is =
    let there = port_of_role (find_port number ports) going role is in rw there.1 refl

-- where nobody is, no port is open
pub none-kind : (found : Option Port) (going : UnderWay) → option_map role_kind (role_by found going) ≡ None → found ≡ None
none-kind None going is = refl
none-kind (Some port) going is = absurd (cc)

-- whether it has named itself
pub unnamed_of_kind : (role : Role) → is_unnamed_kind (role_kind role) ≡ is_unnamed role
unnamed_of_kind Client = refl
unnamed_of_kind Unnamed = refl
unnamed_of_kind Helper = refl
unnamed_of_kind (Confirmer one) = refl

-- ---- a child process

pub linked_false : (number : ℕ) (state : LinkState) → (state ≡ states.Linked number → ⊥) → is_linked_to number state ≡ false
linked_false number states.None other = refl
linked_false number (states.Starting job) other = refl
linked_false number (states.Linked port) other = by_test (port == number) refl
  where
    by_test : (same : Bool) → (port == number) ≡ same → (port == number) ≡ false
    by_test true is = absurd (other (ap (λ n. states.Linked n) (grind (arith, nat_tests))))
    by_test false is = is

-- its role then
pub role-child : (found : Option Port) (number : ℕ) (going : UnderWay) → ((port : Port) → found ≡ Some port → port.number ≡ number) → door_by found ≡ Some Children → option_map role_kind (role_by found going) ≡ Some (role_kind (role_of Children number going))
role-child None number going same child = absurd (cc)
role-child (Some port) number going same child =
    let door : port.door ≡ Children = cc in
    ap (λ d. Some (role_kind (role_of d port.number going))) door
    ∙ ap (λ n. Some (role_kind (role_of Children n going))) (same port refl)
