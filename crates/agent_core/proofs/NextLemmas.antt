-- The next port that is owed bytes: a client, or the helper.
use Rattle.std.proofs.Common.{◌≡◌, ℕ, ◌<◌, List, [], ◌∷◌, refl, ap, sym, ◌∙◌, Option, Some, None, Bool, true, false, arith, nat_lt, ◌==◌, ◌&&◌, if◌then◌else◌}
use Rattle.std.specs.Option.{IfSome}
use Rattle.std.proofs.lemmas.Bool.Decides.{nat_tests}
use Rattle.world_ports.specs.declared.Door.{Door}
use Rattle.world_ports.specs.declared.Door.TheVariants.{Clients, Children}
use Rattle.helper_link.specs.declared.state.LinkState.{LinkState}
use Rattle.helper_link.specs.declared.state.LinkState.TheVariants as states
use Rattle.helper_link.specs.HelperLink.{sendable}
use Rattle.agent_model.specs.Sound.{IsRising}
use Rattle.agent_model.proofs.PortsLemmas.{find_port-below, found_above}
use Rattle.agent_model.specs.State.{Port, UnderWay, find_port, is_client, is_linked_to, is_some_bytes, next_owed_in, owed_as, owed_by_port, role_by_helper, role_of}
use Rattle.lists.specs.Rising.{IsRisingNumbers}
use Rattle.agent_core.specs.Roles.{door_by, helper_owed, helper_owed_if, next_of, owed_helper, owed_helper_by}
use Rattle.agent_core.specs.Slots.{first_above, is_owing, owing_of}
use Rattle.agent_core.proofs.OwingLemmas.{rising_numbers}
use Rattle.agent_core.proofs.RoleLemmas.{linked_number}

-- ---- one port, and then the others

-- a number that is found is above those that the list rises from
above_first : (low after : ℕ) (xs : List ℕ) → IsRisingNumbers low xs → IfSome (first_above after xs) (λ m. low < m)
above_first low after [] rising = tt
above_first low after (x ∷ xs) rising = by_test (nat_lt after x) (first_above after xs) rising.0 (above_first x after xs rising.1)
  where
    by_test : (test : Bool) (later : Option ℕ) → low < x → IfSome later (λ m. x < m) → IfSome (if test then Some x else later) (λ m. low < m)
    by_test true later below is = below
    by_test false None below is = tt
    by_test false (Some m) below is = omega (arith, below, is)

-- so is the helper's
above_door : (low high number : ℕ) (owed : List ℕ) (ports : List Port) (found : Option Port) → IsRising low high ports → find_port number ports ≡ found → IfSome (helper_owed (door_by found) number owed) (λ m. low < m)
above_door low high number owed ports None rising is = tt
above_door low high number owed ports (Some port) rising is = by_door port.door (is_some_bytes owed)
  where
    by_door : (door : Door) (some : Bool) → IfSome (helper_owed_if door some number) (λ m. low < m)
    by_door Clients some = tt
    by_door Children true = found_above number low high ports port rising is
    by_door Children false = tt

above_helper : (low high : ℕ) (owed : List ℕ) (state : LinkState) (ports : List Port) → IsRising low high ports → IfSome (owed_helper_by state owed ports) (λ m. low < m)
above_helper low high owed states.None ports rising = tt
above_helper low high owed (states.Starting job) ports rising = tt
above_helper low high owed (states.Linked number) ports rising = above_door low high number owed ports (find_port number ports) rising refl

-- a client is the next, or the next of the others is
client_case : (after n : ℕ) (below owes : Bool) (xs : List ℕ) (next helper : Option ℕ) → nat_lt after n ≡ below → next ≡ next_of after (first_above after xs) helper → IfSome helper (λ h. n < h) → (if below && owes then Some n else next) ≡ next_of after (first_above after (if owes then n ∷ xs else xs)) helper
client_case after n true true xs next None below is above = rw below refl
client_case after n true true xs next (Some h) below is above = grind (arith, nat_tests)
client_case after n false true xs next helper below is above = rw below is
client_case after n true false xs next helper below is above = is
client_case after n false false xs next helper below is above = is

-- the helper is the next, or a client is
helper_case : (after n : ℕ) (below owes : Bool) (next client : Option ℕ) → nat_lt after n ≡ below → next ≡ client → IfSome client (λ m. n < m) → (if below && owes then Some n else next) ≡ next_of after client (if owes then Some n else None)
helper_case after n true true next None below is above = rw below refl
helper_case after n true true next (Some m) below is above = grind (arith, nat_tests)
helper_case after n false true next None below is above = rw below is
helper_case after n false true next (Some m) below is above = rw below is
helper_case after n true false next client below is above = is
helper_case after n false false next client below is above = is

-- ---- what a port is owed

client_owed : (port : Port) (going : UnderWay) → port.door ≡ Clients → owed_by_port port going ≡ port.owed
client_owed port going client = ap (λ d. owed_as (role_of d port.number going) port going) client

client_owing : (port : Port) → port.door ≡ Clients → is_owing port ≡ is_some_bytes port.owed
unfolding is_owing
client_owing port client = ap (λ d. is_client d && is_some_bytes port.owed) client

child_owing : (port : Port) → port.door ≡ Children → is_owing port ≡ false
unfolding is_owing
child_owing port child = ap (λ d. is_client d && is_some_bytes port.owed) child

-- a child process that isn't the helper is owed nothing
child_owed : (linked : Bool) (port : Port) (going : UnderWay) → going.confirmations ≡ [] → port.door ≡ Children → is_linked_to port.number going.link.state ≡ linked → owed_by_port port going ≡ (if linked then sendable going.link.state going.link.owed else [])
child_owed linked port going alone child is =
    ap (λ d. owed_as (role_of d port.number going) port going) child
    ∙ ap (λ l. owed_as (role_by_helper l port.number going.confirmations) port going) is
    ∙ ap (λ cs. owed_as (role_by_helper linked port.number cs) port going) alone
    ∙ by_linked linked
  where
    by_linked : (l : Bool) → owed_as (role_by_helper l port.number []) port going ≡ (if l then sendable going.link.state going.link.owed else [])
    by_linked true = refl
    by_linked false = refl

-- ---- where the helper is

none_open : (state : LinkState) (owed : List ℕ) → owed_helper_by state owed [] ≡ None
none_open states.None owed = refl
none_open (states.Starting job) owed = refl
none_open (states.Linked number) owed = refl

-- behind a client
behind_client : (low high : ℕ) (state : LinkState) (owed : List ℕ) (port : Port) (ports : List Port) → port.door ≡ Clients → IsRising port.number high ports → owed_helper_by state owed (port ∷ ports) ≡ owed_helper_by state owed ports
behind_client low high states.None owed port ports client rising = refl
behind_client low high (states.Starting job) owed port ports client rising = refl
behind_client low high (states.Linked number) owed port ports client rising = by_test (port.number == number) refl
  where
    by_test : (same : Bool) → (port.number == number) ≡ same → helper_owed (door_by (if same then Some port else find_port number ports)) number owed ≡ helper_owed (door_by (find_port number ports)) number owed
    by_test true is =
        ap (λ d. helper_owed (Some d) number owed) client
        ∙ ap (λ f. helper_owed (door_by f) number owed) (sym (find_port-below number port.number high ports (grind (arith, nat_tests)) rising))
    by_test false is = refl

-- behind a child process that isn't the helper
behind_other : (state : LinkState) (owed : List ℕ) (port : Port) (ports : List Port) → is_linked_to port.number state ≡ false → owed_helper_by state owed (port ∷ ports) ≡ owed_helper_by state owed ports
behind_other states.None owed port ports is = refl
behind_other (states.Starting job) owed port ports is = refl
behind_other (states.Linked number) owed port ports is =
    let not_it : (number == port.number) ≡ false = is in
    let turned : (port.number == number) ≡ false = grind (arith, nat_tests) in
    ap (λ (same : Bool). helper_owed (door_by (if same then Some port else find_port number ports)) number owed) turned

-- the helper itself
helper_here : (high : ℕ) (state : LinkState) (owed : List ℕ) (port : Port) (ports : List Port) → port.door ≡ Children → state ≡ states.Linked port.number → IsRising port.number high ports → (owed_helper_by state owed (port ∷ ports) ≡ (if is_some_bytes owed then Some port.number else None)) × (owed_helper_by state owed ports ≡ None) × (sendable state owed ≡ owed)
helper_here high state owed port ports child linked rising =
    let here : (port.number == port.number) ≡ true = grind (arith, nat_tests) in (
      ap (λ s. owed_helper_by s owed (port ∷ ports)) linked
          ∙ ap (λ (same : Bool). helper_owed (door_by (if same then Some port else find_port port.number ports)) port.number owed) here
          ∙ ap (λ d. helper_owed (Some d) port.number owed) child,
      ap (λ s. owed_helper_by s owed ports) linked
          ∙ ap (λ f. helper_owed (door_by f) port.number owed) (find_port-below port.number port.number high ports (omega arith) rising),
      ap (λ s. sendable s owed) linked,
    )

-- ---- all ports

pub next-is : (after low high : ℕ) (ports : List Port) (going : UnderWay) → going.confirmations ≡ [] → IsRising low high ports → next_owed_in after ports going ≡ next_of after (first_above after (owing_of ports)) (owed_helper going ports)
next-is after low high [] going alone rising = ap (λ h. next_of after None h) (sym (none_open going.link.state going.link.owed))
next-is after low high (port ∷ ports) going alone rising = by_door (next-is after port.number high ports going alone rising.1) port.door refl
  where
    of_clients : next_owed_in after ports going ≡ next_of after (first_above after (owing_of ports)) (owed_helper going ports) → owed_helper going (port ∷ ports) ≡ owed_helper going ports → (owes : Bool) → is_some_bytes (owed_by_port port going) ≡ owes → is_owing port ≡ owes → next_owed_in after (port ∷ ports) going ≡ next_of after (first_above after (owing_of (port ∷ ports))) (owed_helper going (port ∷ ports))
    of_clients rest same owes owed listed =
        ap (λ (o : Bool). if nat_lt after port.number && o then Some port.number else next_owed_in after ports going) owed
        ∙ client_case after port.number (nat_lt after port.number) owes (owing_of ports) (next_owed_in after ports going) (owed_helper going ports) refl rest (above_helper port.number high going.link.owed going.link.state ports rising.1)
        ∙ ap (λ (o : Bool). next_of after (first_above after (if o then port.number ∷ owing_of ports else owing_of ports)) (owed_helper going ports)) (sym listed)
        ∙ ap (next_of after (first_above after (owing_of (port ∷ ports)))) (sym same)

    of_helper : next_owed_in after ports going ≡ next_of after (first_above after (owing_of ports)) (owed_helper going ports) → going.link.state ≡ states.Linked port.number → port.door ≡ Children → is_linked_to port.number going.link.state ≡ true → next_owed_in after (port ∷ ports) going ≡ next_of after (first_above after (owing_of (port ∷ ports))) (owed_helper going (port ∷ ports))
    of_helper rest linked child is =
        let here = helper_here high going.link.state going.link.owed port ports child linked rising.1 in
        let owed : is_some_bytes (owed_by_port port going) ≡ is_some_bytes going.link.owed = ap is_some_bytes (child_owed true port going alone child is ∙ here.2) in
        ap (λ (o : Bool). if nat_lt after port.number && o then Some port.number else next_owed_in after ports going) owed
        ∙ helper_case after port.number (nat_lt after port.number) (is_some_bytes going.link.owed) (next_owed_in after ports going) (first_above after (owing_of ports)) refl (rest ∙ ap (next_of after (first_above after (owing_of ports))) here.1) (above_first port.number after (owing_of ports) (rising_numbers port.number high ports rising.1))
        ∙ ap (λ (o : Bool). next_of after (first_above after (if o then port.number ∷ owing_of ports else owing_of ports)) (if is_some_bytes going.link.owed then Some port.number else None)) (sym (child_owing port child))
        ∙ ap (next_of after (first_above after (owing_of (port ∷ ports)))) (sym here.0)

    by_link : next_owed_in after ports going ≡ next_of after (first_above after (owing_of ports)) (owed_helper going ports) → (linked : Bool) → port.door ≡ Children → is_linked_to port.number going.link.state ≡ linked → next_owed_in after (port ∷ ports) going ≡ next_of after (first_above after (owing_of (port ∷ ports))) (owed_helper going (port ∷ ports))
    by_link rest true child is = of_helper rest (linked_number port.number going.link.state is) child is
    by_link rest false child is = of_clients rest (behind_other going.link.state going.link.owed port ports is) false (ap is_some_bytes (child_owed false port going alone child is)) (child_owing port child)

    by_door : next_owed_in after ports going ≡ next_of after (first_above after (owing_of ports)) (owed_helper going ports) → (door : Door) → port.door ≡ door → next_owed_in after (port ∷ ports) going ≡ next_of after (first_above after (owing_of (port ∷ ports))) (owed_helper going (port ∷ ports))
    by_door rest Clients is = of_clients rest (behind_client low high going.link.state going.link.owed port ports is rising.1) (is_some_bytes port.owed) (ap is_some_bytes (client_owed port going is)) (client_owing port is)
    by_door rest Children is = by_link rest (is_linked_to port.number going.link.state) is refl
