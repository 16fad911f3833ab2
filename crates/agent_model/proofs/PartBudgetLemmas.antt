-- The budget of ports: what one port has of it, and what it takes with it.
use Rattle.std.proofs.Common.{◌≡◌, ◌≢◌, ℕ, ◌+◌, ◌<◌, ◌≤◌, List, [], ◌∷◌, length, refl, ap, arith, ◌∙◌, ◌==◌, Option, Some, None, Bool, true, false, if◌then◌else◌}
use Rattle.std.proofs.lemmas.Bool.Decides.{nat_tests}
use Rattle.std.specs.Option.{option_map}
use Rattle.lists.proofs.FirstLemmas.{some_or_later}
use Rattle.lists.proofs.KeyedLemmas.{find_by-change}
use Rattle.world_ports.specs.declared.Door.{Door}
use Rattle.world_ports.specs.declared.Door.TheVariants.{Clients, Children}
use Rattle.confirm_desk.specs.Confirmations.{Confirmation, find_linked}
use Rattle.agent_model.specs.Budget.{port_budget, ports_budget}
use Rattle.agent_model.specs.State.{Helper, Port, Role, UnderWay, change_port, find_port, is_linked_to, is_some_bytes, number_of, owed_as, remove_port, role_by_helper, role_by_link, role_of, is_client}

-- a change of the port of this number changes its part of the budget alone
pub budget-change : (under_way : UnderWay) (number : ℕ) (f : Port → Port) (ports : List Port) (port : Port)
    → find_port number ports ≡ Some port
    → ports_budget under_way (change_port number f ports) + port_budget under_way port ≡ ports_budget under_way ports + port_budget under_way (f port)
budget-change under_way number f [] port found = absurd (cc)
budget-change under_way number f (first ∷ ports) port found =
    let later = budget-change under_way number f ports port in
    grind (arith, nat_tests)

-- the port of this number takes its part of the budget with it
pub budget-remove : (under_way : UnderWay) (number : ℕ) (ports : List Port)
    → ports_budget under_way (remove_port number ports) ≤ ports_budget under_way ports
budget-remove under_way number [] = omega arith
budget-remove under_way number (first ∷ ports) =
    let later : ports_budget under_way (remove_port number ports) ≤ ports_budget under_way ports = budget-remove under_way number ports in
    grind (arith, nat_tests)

-- exactly that, where it is there
pub budget-removed : (under_way : UnderWay) (number : ℕ) (ports : List Port) (port : Port)
    → find_port number ports ≡ Some port
    → ports_budget under_way (remove_port number ports) + port_budget under_way port ≡ ports_budget under_way ports
budget-removed under_way number [] port found = absurd (cc)
budget-removed under_way number (first ∷ ports) port found =
    let later = budget-removed under_way number ports port in
    grind (arith, nat_tests)

-- the port that was changed is found so, where its number stays
pub found_changed : (number : ℕ) (f : Port → Port) (ports : List Port) (port : Port)
    → ((p : Port) → (f p).number ≡ p.number) → find_port number ports ≡ Some port
    → find_port number (change_port number f ports) ≡ Some (f port)
found_changed number f ports port keeps found =
    find_by-change number_of number f ports keeps ∙ ap (option_map f) found

-- what a client has of the budget
pub client_budget : (under_way : UnderWay) (port : Port) → port.door ≡ Clients
    → port_budget under_way port ≡ length port.heard + (if is_some_bytes port.owed then 1 else 0)
client_budget under_way port door =
    ap (λ d. (if is_client d then length port.heard else 0) + (if is_some_bytes (owed_as (role_of d port.number under_way) port under_way) then 1 else 0)) door

pub one_or_none : (b : Bool) → (if b then 1 else 0) ≤ 1
one_or_none true = omega arith
one_or_none false = omega arith

-- what a port is owed counts as one, by its door
abbrev pub unit_as : Door → Port → UnderWay → ℕ
unit_as door port under_way =
    if is_some_bytes (owed_as (role_of door port.number under_way) port under_way) then 1 else 0

-- who is at a child process's port, by whether it is the helper and by the confirmation that is linked to it
abbrev pub by_helper : Bool → Option Confirmation → Role
by_helper true found = Helper
by_helper false found = role_by_link found

pub role-by : (linked : Bool) (number : ℕ) (confirmations : List Confirmation)
    → role_by_helper linked number confirmations ≡ by_helper linked (find_linked number confirmations)
role-by true number confirmations = refl
role-by false number confirmations = refl

pub role-children : (number : ℕ) (under_way : UnderWay)
    → role_of Children number under_way ≡ by_helper (is_linked_to number under_way.link.state) (find_linked number under_way.confirmations)
role-children number under_way =
    role-by (is_linked_to number under_way.link.state) number under_way.confirmations

-- ---- ports whose parts fall

-- where no port's part is higher the whole isn't
pub all_lower : (ports : List Port) (old new : UnderWay)
    → ((port : Port) → port_budget new port ≤ port_budget old port)
    → ports_budget new ports ≤ ports_budget old ports
all_lower [] old new lower = omega arith
all_lower (port ∷ ports) old new lower = omega (arith, lower port, all_lower ports old new lower)

-- and it falls where one port's part does
pub one_lower : (number : ℕ) (ports : List Port) (port : Port) (old new : UnderWay)
    → ((p : Port) → port_budget new p ≤ port_budget old p) → find_port number ports ≡ Some port
    → port_budget new port < port_budget old port → ports_budget new ports < ports_budget old ports
one_lower number [] port old new all found lower = absurd (cc)
one_lower number (first ∷ ports) port old new all found lower =
    let here = all first in
    let others = all_lower ports old new all in
    let later = one_lower number ports port old new all in
    grind (arith, nat_tests)

apart_not_same : {a b : ℕ} → (a == b) ≡ false → b ≡ a → ⊥
apart_not_same {a} {b} apart same =
    let equal : (a == b) ≡ true = grind (arith, nat_tests) in absurd (cc)

-- where no port has this number, the budget doesn't rise if the part of no other port does
pub all_lower_but : (number : ℕ) (ports : List Port) (old new : UnderWay)
    → find_port number ports ≡ None
    → ((port : Port) → number ≢ port.number → port_budget new port ≤ port_budget old port)
    → ports_budget new ports ≤ ports_budget old ports
all_lower_but number [] old new absent lower = omega arith
all_lower_but number (port ∷ ports) old new absent lower =
    let both = some_or_later (port.number == number) port (find_port number ports) absent in
    let apart : (port.number == number) ≡ false = both.0 in
    let other : number ≢ port.number = λ same. apart_not_same apart same in
    omega (arith, lower port other, all_lower_but number ports old new both.1 lower)
