-- A taking of all that a port is owed lowers the budget, at any moment.
use Rattle.std.proofs.Common.{drop, inl, inr, ◌≡◌, ℕ, ◌+◌, ◌<◌, ◌≤◌, List, [], ◌∷◌, length, refl, ap, sym, arith, ◌∙◌, Option, Some, None, Bool, true, false, if◌then◌else◌, length-drop, ◌⊎◌}
use Rattle.std.proofs.Math.Seq.{drop-length}
use Rattle.std.proofs.lemmas.Bool.Decides.{nat_tests}
use Rattle.std.proofs.lemmas.List.{drop_all}
use Rattle.std.specs.Option.{option_map}
use Rattle.lists.specs.Keyed.{has_key}
use Rattle.lists.proofs.FirstLemmas.{length-change}
use Rattle.world_ports.specs.declared.Door.{Door}
use Rattle.world_ports.specs.declared.Door.TheVariants.{Clients, Children}
use Rattle.world_ports.specs.declared.events.Moment.{Moment}
use Rattle.wire_text.specs.Frames.{Front, front_body, Whole, Bad, More}
use Rattle.wire_text.proofs.FrontLemmas.{front_says}
use Rattle.confirm_desk.specs.Confirmations.{Confirmation, find_linked, job_of, took}
use Rattle.confirm_desk.specs.Confirmations as desk
use Rattle.helper_link.specs.HelperLink.{sendable, sent}
use Rattle.helper_link.specs.declared.state.LinkState.{LinkState}
use Rattle.helper_link.specs.declared.state.LinkState.TheVariants as states
use Rattle.agent_model.specs.Actions.{Outcome}
use Rattle.agent_model.specs.Budget.{budget, port_budget, ports_budget}
use Rattle.agent_model.specs.Children.{changed}
use Rattle.agent_model.specs.Dispatch.{Served}
use Rattle.agent_model.specs.Events.{Happening, Took}
use Rattle.wire_text.specs.Bounds.{longest_body}
use Rattle.agent_model.specs.Looks.{due, due_front, due_by}
use Rattle.agent_model.specs.Sound.{IsRising, IsSteady}
use Rattle.agent_model.specs.State.{Client, Confirmer, Helper, Nothing, OnAsk, OnConfirmation, Port, Role, State, UnderWay, Unnamed, Waits, change_port, find_port, is_linked_to, is_some_bytes, owed_as, owed_by, owed_by_port, owed_of, role_of, is_client}
use Rattle.agent_model.specs.Step.{asker_at, attempts, handle, looked, step, take_frame, took_at, took_by_role, took_some}
use Rattle.agent_model.specs.Time.{at_moment}
use Rattle.agent_model.specs.Verdicts.{tell}
use Rattle.agent_model.proofs.ClientLemmas.{handle-took, looked-bad, looked-stays, looked-whole, served_at}
use Rattle.agent_model.proofs.GrowLemmas.{AsksMore, asks_more}
use Rattle.agent_model.proofs.JobLemmas.{linked-change, linked-changed}
use Rattle.agent_model.proofs.MakeLemmas.{role-client}
use Rattle.agent_model.proofs.NumberLemmas.{step-grows}
use Rattle.agent_model.proofs.PartBudgetLemmas.{all_lower, budget-change, budget-remove, by_helper, client_budget, found_changed, one_lower, one_or_none, role-children, unit_as}
use Rattle.agent_model.proofs.PortsLemmas.{found_number, rising-change_port}
use Rattle.agent_model.proofs.RunLemmas.{step_keeps-rising}
use Rattle.agent_model.proofs.ServeLemmas.{serve-ends}
use Rattle.agent_model.proofs.TimeBudgetLemmas.{Ends, time_ends}

-- a whole frame that is to be taken has four bytes of length
due_whole : (waits : Waits) (owed heard : List ℕ) (body_len : ℕ)
    → due_front waits owed heard ≡ Whole body_len → 4 ≤ length heard
due_whole Nothing [] heard body_len is =
    (front_says longest_body heard (Whole body_len) is).0.header
due_whole Nothing (byte ∷ bytes) heard body_len is = absurd (cc)
due_whole (OnAsk ask) owed heard body_len is = absurd (cc)
due_whole (OnConfirmation job) owed heard body_len is = absurd (cc)

-- ---- what an ask adds: the helper's port is owed bytes

-- one where the helper is at the port
abbrev helper_unit : ℕ → LinkState → ℕ
helper_unit number state = if is_linked_to number state then 1 else 0

-- the helper's ports
abbrev helpers : LinkState → List Port → ℕ
helpers state [] = 0
helpers state (port ∷ ports) = helper_unit port.number state + helpers state ports

no_helper-above : (low high number : ℕ) (ports : List Port) → number ≤ low → IsRising low high ports
    → helpers (states.Linked number) ports ≡ 0
no_helper-above low high number [] below rising = refl
no_helper-above low high number (port ∷ ports) below rising =
    let rest : helpers (states.Linked number) ports ≡ 0 = no_helper-above port.number high number ports (omega (arith, rising.0)) rising.1 in
    let above : low < port.number = rising.0 in
    grind (arith, nat_tests)

one_helper-linked : (low high number : ℕ) (ports : List Port) → IsRising low high ports
    → helpers (states.Linked number) ports ≤ 1
one_helper-linked low high number [] rising = omega arith
one_helper-linked low high number (port ∷ ports) rising =
    let none : number ≡ port.number → helpers (states.Linked number) ports ≡ 0 = λ here. no_helper-above port.number high number ports (omega (arith, here)) rising.1 in
    let rest = one_helper-linked port.number high number ports rising.1 in
    grind (arith, nat_tests)

no_helpers : (state : LinkState) (ports : List Port)
    → ((number : ℕ) → is_linked_to number state ≡ false) → helpers state ports ≡ 0
no_helpers state [] none = refl
no_helpers state (port ∷ ports) none =
    let rest : helpers state ports ≡ 0 = no_helpers state ports none in
    let here : helper_unit port.number state ≡ 0 = ap (λ b. if b then 1 else 0) (none port.number) in
    omega (arith, rest, here)

-- at most one port is the helper's
one_helper : (state : LinkState) (low high : ℕ) (ports : List Port) → IsRising low high ports
    → helpers state ports ≤ 1
one_helper states.None low high ports rising =
    omega (arith, no_helpers states.None ports (λ n. refl))
one_helper (states.Starting job) low high ports rising =
    omega (arith, no_helpers (states.Starting job) ports (λ n. refl))
one_helper (states.Linked number) low high ports rising =
    one_helper-linked low high number ports rising

-- what an ask adds to a child process's part
child_adds : (linked : Bool) (found : Option Confirmation) (port : Port) (old new : UnderWay)
    → (if is_some_bytes (owed_as (by_helper linked found) port new) then 1 else 0) ≤ (if is_some_bytes (owed_as (by_helper linked found) port old) then 1 else 0) + (if linked then 1 else 0)
child_adds true found port old new =
    omega (arith, one_or_none (is_some_bytes (owed_as Helper port new)))
child_adds false None port old new = omega arith
child_adds false (Some confirmation) port old new = omega arith

-- by the door
adds_by : (door : Door) (port : Port) (old new : UnderWay) → AsksMore old new
    → unit_as door port new ≤ unit_as door port old + helper_unit port.number old.link.state
adds_by Clients port old new more = omega arith
adds_by Children port old new more =
    let role : role_of Children port.number new ≡ by_helper (is_linked_to port.number old.link.state) (find_linked port.number old.confirmations) =
    role-children port.number new ∙ ap (λ b. by_helper b (find_linked port.number new.confirmations)) (more.helper port.number) ∙ ap (by_helper (is_linked_to port.number old.link.state)) (more.confirmers port.number) in
    let before : role_of Children port.number old ≡ by_helper (is_linked_to port.number old.link.state) (find_linked port.number old.confirmations) = role-children port.number old in
    let a : unit_as Children port new ≡ (if is_some_bytes (owed_as (by_helper (is_linked_to port.number old.link.state) (find_linked port.number old.confirmations)) port new) then 1 else 0) = ap (λ r. if is_some_bytes (owed_as r port new) then 1 else 0) role in
    let b : unit_as Children port old ≡ (if is_some_bytes (owed_as (by_helper (is_linked_to port.number old.link.state) (find_linked port.number old.confirmations)) port old) then 1 else 0) = ap (λ r. if is_some_bytes (owed_as r port old) then 1 else 0) before in
    omega (arith, a, b, child_adds (is_linked_to port.number old.link.state) (find_linked port.number old.confirmations) port old new)

-- over all ports
adds_helpers : (ports : List Port) (old new : UnderWay) → AsksMore old new
    → ports_budget new ports ≤ ports_budget old ports + helpers old.link.state ports
adds_helpers [] old new more = omega arith
adds_helpers (port ∷ ports) old new more =
    omega (arith, adds_by port.door port old new more, adds_helpers ports old new more)

-- ---- bytes that are left

-- what isn't there counts for nothing
nothing_counts : (some : Bool) (most : ℕ) → some ≡ false → (if some then 1 else 0) ≤ most
nothing_counts true most none = absurd (cc)
nothing_counts false most none = omega arith

-- fewer bytes are no more
fewer_some : (count : ℕ) (bytes : List ℕ)
    → (if is_some_bytes (drop count bytes) then 1 else 0) ≤ (if is_some_bytes bytes then 1 else 0)
fewer_some count [] = nothing_counts (is_some_bytes (drop count [])) _ (ap is_some_bytes (drop_all count [] (omega arith)))
fewer_some count (byte ∷ bytes) =
    let some : is_some_bytes (byte ∷ bytes) ≡ true = grind (arith, nat_tests) in
    omega (arith, ap {B = ℕ} (λ b. if b then 1 else 0) some, one_or_none (is_some_bytes (drop count (byte ∷ bytes))))

-- ---- a client

-- by what is to be taken of a client that is owed nothing
look_lowers : (number : ℕ) (port : Port) (state : State) (at : Front)
    → IsRising 0 state.last_port state.ports → port.door ≡ Clients
    → find_port number state.ports ≡ Some port → due port ≡ at
    → budget (looked number state).state ≤ budget state
look_lowers number port state (Whole body_len) rising door found is =
    let served : Served = served_at body_len port state in
    let f : Port → Port = λ p. tell served.work.verdict (take_frame body_len (attempts state.held.lock (front_body body_len port.heard)) p) in
    let more = asks_more (serve-ends (asker_at state.moment port) state.held state.under_way (front_body body_len port.heard)) in
    let after : budget (looked number state).state ≡ ports_budget served.work.under_way (change_port number f state.ports) + (length served.work.under_way.link.asks + length served.work.under_way.confirmations) = ap budget (looked-whole number body_len port state found is) in
    let changed_rising = rising-change_port number 0 state.last_port f state.ports (λ p. refl) rising in
    let added = adds_helpers (change_port number f state.ports) state.under_way served.work.under_way more in
    let one = one_helper state.under_way.link.state 0 state.last_port (change_port number f state.ports) changed_rising in
    let change = budget-change state.under_way number f state.ports port found in
    let had = client_budget state.under_way port door in
    let has = client_budget state.under_way (f port) door in
    let most = one_or_none (is_some_bytes (f port).owed) in
    let some : 4 ≤ length port.heard = due_whole port.waits port.owed port.heard body_len is in
    let shorter = length-drop (4 + body_len) port.heard in
    let left : length (f port).heard + 4 ≤ length port.heard = omega arith in
    omega (arith, after, added, one, change, had, has, most, left, more.few)
look_lowers number port state (Bad announced) rising door found is =
    omega (arith, ap budget (looked-bad number announced port state found is), budget-remove state.under_way number state.ports)
look_lowers number port state More rising door found is =
    omega (arith, ap budget (looked-stays number state (ap (λ (o : Option Port). due_by o) found ∙ is)))

-- a client takes all that it is owed: the budget falls
client_lowers : (number : ℕ) (port : Port) (state : State) → IsRising 0 state.last_port state.ports
    → port.door ≡ Clients → find_port number state.ports ≡ Some port
    → is_some_bytes port.owed ≡ true
    → budget (handle (Took number (length (owed_of number state))) state).state < budget state
client_lowers number port state rising door found some =
    let count = length (owed_of number state) in
    let owed_is : owed_by_port port state.under_way ≡ port.owed = ap (λ d. owed_as (role_of d port.number state.under_way) port state.under_way) door in
    let count_is : count ≡ length port.owed = ap (λ (o : Option Port). length (owed_by o state.under_way)) found ∙ ap length owed_is in
    let after : Port = took_some count port in
    let mid : State = changed number (took_some count) state in
    let nothing_owed : after.owed ≡ [] = rw count_is (drop-length port.owed) in
    let change = budget-change state.under_way number (took_some count) state.ports port found in
    let there = found_changed number (took_some count) state.ports port (λ q. refl) found in
    let mid_rising = rising-change_port number 0 state.last_port (took_some count) state.ports (λ q. refl) rising in
    let look = look_lowers number after mid (due after) mid_rising door there refl in
    let handled = handle-took number count port state found door in
    let stepped : budget (handle (Took number count) state).state ≡ budget (looked number mid).state = ap (λ (o : Outcome). budget o.state) handled in
    let had : port_budget state.under_way port ≡ length port.heard + 1 = client_budget state.under_way port door ∙ ap (λ b. length port.heard + (if b then 1 else 0)) some in
    let has : port_budget state.under_way after ≡ length port.heard + 0 = client_budget state.under_way after door ∙ ap (λ bytes. length port.heard + (if is_some_bytes bytes then 1 else 0)) nothing_owed in
    omega (arith, look, stepped, change, had, has)

-- ---- the helper

-- the helper took so many bytes
abbrev paid : ℕ → UnderWay → UnderWay
paid count under_way = record under_way { link = sent count under_way.link }

nothing_left : (state : LinkState) (owed : List ℕ)
    → sendable state (drop (length (sendable state owed)) owed) ≡ []
nothing_left states.None owed = refl
nothing_left (states.Starting job) owed = refl
nothing_left (states.Linked port) owed = drop-length owed

-- what it is owed is no more then
fewer_sent : (state : LinkState) (count : ℕ) (owed : List ℕ)
    → (if is_some_bytes (sendable state (drop count owed)) then 1 else 0) ≤ (if is_some_bytes (sendable state owed) then 1 else 0)
fewer_sent states.None count owed = omega arith
fewer_sent (states.Starting job) count owed = omega arith
fewer_sent (states.Linked port) count owed = fewer_some count owed

-- then it is owed no more, and every other port what it was owed
child_pays : (linked : Bool) (found : Option Confirmation) (port : Port) (count : ℕ) (under_way : UnderWay) → (if is_some_bytes (owed_as (by_helper linked found) port (paid count under_way)) then 1 else 0) ≤ (if is_some_bytes (owed_as (by_helper linked found) port under_way) then 1 else 0)
child_pays true found port count under_way =
    fewer_sent under_way.link.state count under_way.link.owed
child_pays false None port count under_way = omega arith
child_pays false (Some confirmation) port count under_way = omega arith

pays_by : (door : Door) (port : Port) (count : ℕ) (under_way : UnderWay)
    → unit_as door port (paid count under_way) ≤ unit_as door port under_way
pays_by Clients port count under_way = omega arith
pays_by Children port count under_way =
    let role = role-children port.number under_way in
    let new_role : role_of Children port.number (paid count under_way) ≡ by_helper (is_linked_to port.number under_way.link.state) (find_linked port.number under_way.confirmations) = role-children port.number (paid count under_way) in
    let a : unit_as Children port (paid count under_way) ≡ (if is_some_bytes (owed_as (by_helper (is_linked_to port.number under_way.link.state) (find_linked port.number under_way.confirmations)) port (paid count under_way)) then 1 else 0) = ap (λ r. if is_some_bytes (owed_as r port (paid count under_way)) then 1 else 0) new_role in
    let b : unit_as Children port under_way ≡ (if is_some_bytes (owed_as (by_helper (is_linked_to port.number under_way.link.state) (find_linked port.number under_way.confirmations)) port under_way) then 1 else 0) = ap (λ r. if is_some_bytes (owed_as r port under_way) then 1 else 0) role in
    omega (arith, a, b, child_pays (is_linked_to port.number under_way.link.state) (find_linked port.number under_way.confirmations) port count under_way)

pays : (port : Port) (count : ℕ) (under_way : UnderWay)
    → port_budget (paid count under_way) port ≤ port_budget under_way port
pays port count under_way = omega (arith, pays_by port.door port count under_way)

counts_less : (bytes : ℕ) (new old : Bool) → new ≡ false → old ≡ true
    → bytes + (if new then 1 else 0) < bytes + (if old then 1 else 0)
counts_less bytes true old none some = absurd (cc)
counts_less bytes false true none some = omega arith
counts_less bytes false false none some = absurd (cc)

-- who is at the helper's port
helper_role : (port : Port) (under_way : UnderWay) → port.door ≡ Children
    → is_linked_to port.number under_way.link.state ≡ true
    → role_of port.door port.number under_way ≡ Helper
helper_role port under_way door linked =
    ap (λ d. role_of d port.number under_way) door ∙ role-children port.number under_way
    ∙ ap (λ b. by_helper b (find_linked port.number under_way.confirmations)) linked

-- the helper takes all that it is owed: the budget falls
helper_lowers : (number : ℕ) (port : Port) (state : State) → port.door ≡ Children
    → is_linked_to port.number state.under_way.link.state ≡ true
    → find_port number state.ports ≡ Some port
    → is_some_bytes (owed_by_port port state.under_way) ≡ true
    → budget (handle (Took number (length (owed_of number state))) state).state < budget state
helper_lowers number port state door linked found some =
    let uw : UnderWay = state.under_way in
    let all : ℕ = length (sendable uw.link.state uw.link.owed) in
    let role = helper_role port uw door linked in
    let new_role = helper_role port (paid all uw) door linked in
    let owed_is : owed_by_port port uw ≡ sendable uw.link.state uw.link.owed = ap (λ r. owed_as r port uw) role in
    let count_is : length (owed_of number state) ≡ length (sendable uw.link.state uw.link.owed) = ap (λ (o : Option Port). length (owed_by o uw)) found ∙ ap length owed_is in
    let handled : budget (handle (Took number (length (owed_of number state))) state).state ≡ ports_budget (paid all uw) state.ports + (length uw.link.asks + length uw.confirmations) =
    ap (λ (o : Option Port). budget (took_at o (length (owed_of number state)) state).state) found
    ∙ ap (λ r. budget (took_by_role r port.number (length (owed_of number state)) state).state) role
    ∙ ap (λ n. ports_budget (paid n uw) state.ports + (length uw.link.asks + length uw.confirmations)) count_is in
    let left : is_some_bytes (owed_by_port port (paid all uw)) ≡ false =
    ap (λ r. is_some_bytes (owed_as r port (paid all uw))) new_role ∙ ap is_some_bytes (nothing_left uw.link.state uw.link.owed) in
    omega (arith, handled, one_lower number state.ports port uw (paid all uw) (λ p. pays p all uw) found (counts_less (if is_client port.door then length port.heard else 0) (is_some_bytes (owed_by_port port (paid all uw))) (is_some_bytes (owed_by_port port uw)) left some))

-- ---- a confirmer

-- the confirmer of this job took bytes
abbrev served : ℕ → ℕ → UnderWay → UnderWay
served job count under_way =
    record under_way { confirmations = took job count under_way.confirmations }

confirmer_pays : (linked : Bool) (found after : Option Confirmation) (port : Port) (job count : ℕ) (under_way : UnderWay)
    → (after ≡ found) ⊎ (after ≡ option_map (desk.took_some count) found)
    → (if is_some_bytes (owed_as (by_helper linked after) port (served job count under_way)) then 1 else 0) ≤ (if is_some_bytes (owed_as (by_helper linked found) port under_way) then 1 else 0)
confirmer_pays true found after port job count under_way how = omega arith
confirmer_pays false None after port job count under_way (inl same) =
    omega (arith, ap {B = ℕ} (λ f. if is_some_bytes (owed_as (by_helper false f) port (served job count under_way)) then 1 else 0) same)
confirmer_pays false None after port job count under_way (inr same) =
    omega (arith, ap {B = ℕ} (λ f. if is_some_bytes (owed_as (by_helper false f) port (served job count under_way)) then 1 else 0) same)
confirmer_pays false (Some confirmation) after port job count under_way (inl same) =
    omega (arith, ap {B = ℕ} (λ f. if is_some_bytes (owed_as (by_helper false f) port (served job count under_way)) then 1 else 0) same)
confirmer_pays false (Some confirmation) after port job count under_way (inr same) =
    omega (arith, ap {B = ℕ} (λ f. if is_some_bytes (owed_as (by_helper false f) port (served job count under_way)) then 1 else 0) same, fewer_some count confirmation.owed)

served_by : (door : Door) (port : Port) (job count : ℕ) (under_way : UnderWay)
    → unit_as door port (served job count under_way) ≤ unit_as door port under_way
served_by Clients port job count under_way = omega arith
served_by Children port job count under_way =
    let linked : Bool = is_linked_to port.number under_way.link.state in
    let found : Option Confirmation = find_linked port.number under_way.confirmations in
    let after : Option Confirmation = find_linked port.number (took job count under_way.confirmations) in
    let new_role : role_of Children port.number (served job count under_way) ≡ by_helper linked after = role-children port.number (served job count under_way) in
    let role : role_of Children port.number under_way ≡ by_helper linked found = role-children port.number under_way in
    let a : unit_as Children port (served job count under_way) ≡ (if is_some_bytes (owed_as (by_helper linked after) port (served job count under_way)) then 1 else 0) = ap (λ r. if is_some_bytes (owed_as r port (served job count under_way)) then 1 else 0) new_role in
    let b : unit_as Children port under_way ≡ (if is_some_bytes (owed_as (by_helper linked found) port under_way) then 1 else 0) = ap (λ r. if is_some_bytes (owed_as r port under_way) then 1 else 0) role in
    omega (arith, a, b, confirmer_pays linked found after port job count under_way (linked-change port.number job (desk.took_some count) under_way.confirmations (λ c. refl)))

served_pays : (port : Port) (job count : ℕ) (under_way : UnderWay)
    → port_budget (served job count under_way) port ≤ port_budget under_way port
served_pays port job count under_way = omega (arith, served_by port.door port job count under_way)

-- who is at the port of a confirmer
pub confirmer_role : (port : Port) (under_way : UnderWay) (confirmation : Confirmation)
    → port.door ≡ Children → is_linked_to port.number under_way.link.state ≡ false
    → find_linked port.number under_way.confirmations ≡ Some confirmation
    → role_of port.door port.number under_way ≡ Confirmer confirmation
confirmer_role port under_way confirmation door linked found =
    ap (λ d. role_of d port.number under_way) door ∙ role-children port.number under_way
    ∙ ap (λ b. by_helper b (find_linked port.number under_way.confirmations)) linked ∙ ap (by_helper false) found

-- a confirmer takes all that it is owed: the budget falls
confirmer_lowers : (number : ℕ) (port : Port) (state : State) (confirmation : Confirmation)
    → IsSteady state → port.door ≡ Children
    → is_linked_to port.number state.under_way.link.state ≡ false
    → find_linked port.number state.under_way.confirmations ≡ Some confirmation
    → find_port number state.ports ≡ Some port
    → is_some_bytes (owed_by_port port state.under_way) ≡ true
    → budget (handle (Took number (length (owed_of number state))) state).state < budget state
confirmer_lowers number port state confirmation steady door linked at found some =
    let uw : UnderWay = state.under_way in
    let count : ℕ = length confirmation.owed in
    let new : UnderWay = served confirmation.job count uw in
    let role = confirmer_role port uw confirmation door linked at in
    let new_role = confirmer_role port new (desk.took_some count confirmation) door linked (linked-changed port.number 0 (desk.took_some count) uw.confirmations uw.last_job confirmation (λ c. refl) steady.order at) in
    let count_is : length (owed_of number state) ≡ count = ap (λ (o : Option Port). length (owed_by o uw)) found ∙ ap (λ r. length (owed_as r port uw)) role in
    let handled : budget (handle (Took number (length (owed_of number state))) state).state ≡ ports_budget new state.ports + (length uw.link.asks + length new.confirmations) =
    ap (λ (o : Option Port). budget (took_at o (length (owed_of number state)) state).state) found
    ∙ ap (λ r. budget (took_by_role r port.number (length (owed_of number state)) state).state) role
    ∙ ap (λ n. ports_budget (served confirmation.job n uw) state.ports + (length uw.link.asks + length (served confirmation.job n uw).confirmations)) count_is in
    let as_many : length new.confirmations ≡ length uw.confirmations = length-change (has_key job_of confirmation.job) (desk.took_some count) uw.confirmations in
    let left : is_some_bytes (owed_by_port port new) ≡ false =
    ap (λ r. is_some_bytes (owed_as r port new)) new_role ∙ ap is_some_bytes (drop-length confirmation.owed) in
    omega (arith, handled, as_many, one_lower number state.ports port uw new (λ p. served_pays p confirmation.job count uw) found (counts_less (if is_client port.door then length port.heard else 0) (is_some_bytes (owed_by_port port new)) (is_some_bytes (owed_by_port port uw)) left some))

-- ---- any port

-- a child process is the helper, or a confirmer, or owed nothing
unnamed_lowers : (at : Option Confirmation) (number : ℕ) (port : Port) (state : State)
    → find_linked port.number state.under_way.confirmations ≡ at
    → is_linked_to port.number state.under_way.link.state ≡ false → IsSteady state
    → port.door ≡ Children → find_port number state.ports ≡ Some port
    → is_some_bytes (owed_by_port port state.under_way) ≡ true
    → budget (handle (Took number (length (owed_of number state))) state).state < budget state
unnamed_lowers None number port state at linked steady door found some =
    let unnamed : owed_by_port port state.under_way ≡ [] =
    ap (λ d. owed_as (role_of d port.number state.under_way) port state.under_way) door
    ∙ ap (λ r. owed_as r port state.under_way) (role-children port.number state.under_way ∙ ap (λ b. by_helper b (find_linked port.number state.under_way.confirmations)) linked ∙ ap (by_helper false) at) in
    let no : false ≡ true = sym (ap is_some_bytes unnamed) ∙ some in
    absurd (cc)
unnamed_lowers (Some confirmation) number port state at linked steady door found some =
    confirmer_lowers number port state confirmation steady door linked at found some

child_lowers : (linked : Bool) (number : ℕ) (port : Port) (state : State)
    → is_linked_to port.number state.under_way.link.state ≡ linked → IsSteady state
    → port.door ≡ Children → find_port number state.ports ≡ Some port
    → is_some_bytes (owed_by_port port state.under_way) ≡ true
    → budget (handle (Took number (length (owed_of number state))) state).state < budget state
child_lowers true number port state linked steady door found some =
    helper_lowers number port state door linked found some
child_lowers false number port state linked steady door found some =
    unnamed_lowers (find_linked port.number state.under_way.confirmations) number port state refl linked steady door found some

by_door : (door : Door) (number : ℕ) (port : Port) (state : State) → IsSteady state
    → port.door ≡ door → find_port number state.ports ≡ Some port
    → is_some_bytes (owed_by_port port state.under_way) ≡ true
    → budget (handle (Took number (length (owed_of number state))) state).state < budget state
by_door Clients number port state steady door found some =
    client_lowers number port state steady.rising door found
    (ap is_some_bytes (sym (ap (λ d. owed_as (role_of d port.number state.under_way) port state.under_way) door)) ∙ some)
by_door Children number port state steady door found some =
    child_lowers (is_linked_to port.number state.under_way.link.state) number port state refl steady door found some

-- however many bytes are taken, the budget doesn't rise
took_most : (role : Role) (port : Port) (count : ℕ) (state : State) → IsSteady state
    → find_port port.number state.ports ≡ Some port
    → role_of port.door port.number state.under_way ≡ role
    → budget (took_by_role role port.number count state).state ≤ budget state
took_most Client port count state steady found is =
    let door : port.door ≡ Clients = role-client port.door port.number state.under_way is in
    let after : Port = took_some count port in
    let mid : State = changed port.number (took_some count) state in
    let change = budget-change state.under_way port.number (took_some count) state.ports port found in
    let there = found_changed port.number (took_some count) state.ports port (λ q. refl) found in
    let mid_rising = rising-change_port port.number 0 state.last_port (took_some count) state.ports (λ q. refl) steady.rising in
    let look = look_lowers port.number after mid (due after) mid_rising door there refl in
    omega (arith, look, change, client_budget state.under_way port door, client_budget state.under_way after door, fewer_some count port.owed)
took_most Unnamed port count state steady found is = omega arith
took_most Helper port count state steady found is =
    omega (arith, all_lower state.ports state.under_way (paid count state.under_way) (λ p. pays p count state.under_way))
took_most (Confirmer confirmation) port count state steady found is =
    omega (
      arith,
      all_lower state.ports state.under_way (served confirmation.job count state.under_way) (λ p. served_pays p confirmation.job count state.under_way),
      length-change (has_key job_of confirmation.job) (desk.took_some count) state.under_way.confirmations,
    )

any_taking : (number count : ℕ) (found : Option Port) (state : State) → IsSteady state
    → find_port number state.ports ≡ found → budget (took_at found count state).state ≤ budget state
any_taking number count None state steady is = omega arith
any_taking number count (Some port) state steady is =
    took_most (role_of port.door port.number state.under_way) port count state steady (ap (λ n. find_port n state.ports) (found_number number state.ports port is) ∙ is) refl

-- a port takes all that it is owed: the budget falls, be it by what the moment ends
pub taking_lowers : (number : ℕ) (port : Port) (moment : Moment) (state : State) → IsSteady state
    → find_port number state.ports ≡ Some port
    → is_some_bytes (owed_by_port port state.under_way) ≡ true
    → budget (step state moment (Took number (length (owed_of number state)))).state < budget state
taking_lowers number port moment state steady found some = elim (ends.port steady number port found some) [
  | inl spared ↦
      (let same : length (owed_of number state) ≡ length (owed_of number opened) =
      ap (λ (o : Option Port). length (owed_by o state.under_way)) found ∙ ap length (sym spared.1)
      ∙ ap (λ (o : Option Port). length (owed_by o opened.under_way)) (sym spared.0) in
      omega (
        arith,
        ap (λ n. budget (handle (Took number n) opened).state) same,
        ends.most steady,
        by_door port.door number port opened (ends.steady steady) refl spared.0 (ap is_some_bytes spared.1 ∙ some),
      ))
  | inr less ↦
      omega (arith, less, any_taking number (length (owed_of number state)) (find_port number opened.ports) opened (ends.steady steady) refl)
]
  where
    opened : State
    opened = at_moment moment state

    ends : Ends state (at_moment moment state)
    ends = time_ends moment state

-- every event keeps a state steady
pub step_keeps-steady : (state : State) (moment : Moment) (event : Happening) → IsSteady state
    → IsSteady (step state moment event).state
step_keeps-steady state moment event steady = record {
  rising = step_keeps-rising state moment event steady.rising;
  order = (step-grows state moment event).order steady.order;
}
