-- What can be served stays so, unless its own service brought the event, or it was closed.
use Rattle.std.proofs.Common.{◌≡◌, ◌∙◌, ℕ, ◌-◌, ◌^◌, suc, Bool, true, false, List, Option, Some, None, is_some, nat_lt, not, refl, sym, ap, ◌==◌}
use Rattle.world_ports.specs.declared.events.Moment.{Moment}
use Rattle.agent_model.specs.Events.{Happening}
use Rattle.agent_model.specs.Sound.{IsRising}
use Rattle.agent_model.specs.State.{Port, State, find_port, is_client, is_open, is_some_bytes, owed_of}
use Rattle.agent_model.specs.Step.{handle, has_room, step}
use Rattle.agent_model.specs.Time.{at_moment}
use Rattle.agent_model.proofs.LeadLemmas.{follows-makes, same}
use Rattle.agent_model.proofs.MakeLemmas.{by_event_as}
use Rattle.agent_model.proofs.RunLemmas.{at_moment-follows, handle-follows, leads-found}
use Rattle.loop_model.specs.Elsewhere.{is_child, is_clients, is_joining, may_end, stands, takes_bytes}
use Rattle.loop_model.specs.Orderly.{IsOrderly}
use Rattle.loop_model.specs.Servable.{is_servable}
use Rattle.loop_model.specs.declared.thing.Thing.TheVariants.{Accept, Read, Write}
use Rattle.loop_model.specs.declared.thing.Thing.{Thing}
use Rattle.loop_model.proofs.ElsewhereLemmas.{find-admitted}
use Rattle.loop_model.proofs.LeftLemmas.{door_at, never_joins, wanted_after, wanted_at}
use Rattle.loop_model.proofs.ClientOwedLemmas.{owed_after, owed_at}
use Rattle.loop_model.proofs.MomentLemmas.{rising-moment}
use Rattle.loop_model.proofs.OwedLemmas.{child_owed_after, child_owed_at, orderly_at}
use Rattle.loop_model.proofs.RoundLemmas.{open_owed, open_wants}
use Rattle.loop_model.proofs.ThingLemmas.{false_by}

-- ---- the last number

last_left : (event : Happening) (state : State) → is_joining event ≡ false
    → (handle event state).state.last_port ≡ state.last_port
last_left event state other =
    (handle-follows event state (λ door is. let no : true ≡ false = sym (ap is_joining is) ∙ other in absurd (cc))).last

-- ---- a client stays one, and a child process does

clients_kept : (after before : Option Port)
    → ((at : Port) → after ≡ Some at → (was : Port) × (before ≡ Some was) × (at.door ≡ was.door))
    → is_some after ≡ true → is_clients after ≡ is_clients before
clients_kept None before kept opened = absurd (cc)
clients_kept (Some at) before kept opened =
    let was = kept at refl in
    ap is_client was.2 ∙ sym (ap is_clients was.1)

child_kept : (after before : Option Port)
    → ((at : Port) → after ≡ Some at → (was : Port) × (before ≡ Some was) × (at.door ≡ was.door))
    → is_some after ≡ true → is_child after ≡ is_child before
child_kept None before kept opened = absurd (cc)
child_kept (Some at) before kept opened =
    let was = kept at refl in
    ap (λ d. not (is_client d)) was.2 ∙ sym (ap is_child was.1)

-- a port that is open isn't the next that joins
never_next : (port last : ℕ) (ports : List Port) → IsRising 0 last ports
    → is_some (find_port port ports) ≡ true
    → (suc last == port) ≡ false
never_next port last ports rising opened =
    let one = some_port (find_port port ports) opened in
    false_by (suc last == port) (λ is. never_joins port last ports one.0 rising is one.1)
  where
    some_port : (here : Option Port) → is_some here ≡ true → (one : Port) × (here ≡ Some one)
    some_port None some = absurd (cc)
    some_port (Some one) some = (one, refl)

-- the port was open with the same door
kept_by : (event : Happening) (state : State) (port : ℕ) → IsRising 0 state.last_port state.ports
    → (suc state.last_port == port) ≡ false → (at : Port)
    → find_port port (handle event state).state.ports ≡ Some at
    → (was : Port) × (find_port port state.ports ≡ Some was) × (at.door ≡ was.door)
kept_by event state port rising other =
    by_event_as
    (λ outcome. (at : Port) → find_port port outcome.state.ports ≡ Some at → (was : Port) × (find_port port state.ports ≡ Some was) × (at.door ≡ was.door)) event state
    (λ door is at found.
    (at, sym (find-admitted (has_room door state.ports state.under_way) port (suc state.last_port) door state.ports other) ∙ found, refl))
    (λ outcome makes at found.
    leads-found port 0 state.last_port state.ports at (follows-makes event state makes record { last = refl; ports = same }).ports
    rising found)

-- so it was open
opened_before : (event : Happening) (state : State) (port : ℕ)
    → IsRising 0 state.last_port state.ports
    → (suc state.last_port == port) ≡ false → is_open port (handle event state).state ≡ true
    → is_open port state ≡ true
opened_before event state port rising other opened =
    by (find_port port (handle event state).state.ports) (kept_by event state port rising other) opened
  where
    by : (after : Option Port)
        → ((at : Port) → after ≡ Some at
        → (was : Port) × (find_port port state.ports ≡ Some was) × (at.door ≡ was.door))
        → is_some after ≡ true → is_some (find_port port state.ports) ≡ true
    by None kept opened = absurd (cc)
    by (Some at) kept opened = ap is_some (kept at refl).1

-- ---- what is owed

child_or : (found : Option Port) → is_some found ≡ true → is_clients found ≡ false
    → is_child found ≡ true
child_or None opened other = absurd (cc)
child_or (Some at) opened other = ap not other

owed_either : (client : Bool) (state : State) (event : Happening) (port : ℕ) → IsOrderly state
    → takes_bytes event port ≡ false → is_clients (find_port port state.ports) ≡ client
    → is_some_bytes (owed_of port state) ≡ true → is_open port (handle event state).state ≡ true
    → is_some_bytes (owed_of port (handle event state).state) ≡ true
owed_either true state event port orderly silent client some opened =
    let was = open_owed (find_port port state.ports) state.under_way some in
    let kept = clients_kept (find_port port (handle event state).state.ports) (find_port port state.ports)
    (kept_by event state port orderly.sound.rising
    (never_next port state.last_port state.ports orderly.sound.rising was)) opened in
    owed_after state event port orderly.sound.rising silent client some (kept ∙ client)
owed_either false state event port orderly silent client some opened =
    let was = open_owed (find_port port state.ports) state.under_way some in
    let kept = child_kept (find_port port (handle event state).state.ports) (find_port port state.ports)
    (kept_by event state port orderly.sound.rising
    (never_next port state.last_port state.ports orderly.sound.rising was)) opened in
    let child = child_or (find_port port state.ports) was client in
    child_owed_after state event port orderly silent child some (kept ∙ child)

-- ---- every thing, after an event

servable_handled : (state : State) (event : Happening) (thing : Thing) → IsOrderly state
    → may_end event thing ≡ false → is_servable state thing ≡ true → stands thing (handle event state).state ≡ true
    → is_servable (handle event state).state thing ≡ true
servable_handled state event (Accept door) orderly never able opened =
    ap (λ n. nat_lt n (2 ^ 64 - 1)) (last_left event state never) ∙ able
servable_handled state event (Read port) orderly never able opened =
    wanted_after state event port orderly.tied never able opened
servable_handled state event (Write port) orderly never able opened =
    owed_either (is_clients (find_port port state.ports)) state event port orderly never refl able opened

-- ---- and at a moment, before its event

has_door : (client : Bool) (found : Option Port) → is_clients found ≡ client → (at : Port)
    → found ≡ Some at
    → is_client at.door ≡ client
has_door client None is at found = absurd (cc)
has_door client (Some one) is at found =
    let same : one ≡ at = cc in ap (λ (p : Port). is_client p.door) (sym same) ∙ is

clients_by : (client : Bool) (found : Option Port)
    → ((at : Port) → found ≡ Some at → is_client at.door ≡ client)
    → is_some found ≡ true → is_clients found ≡ client
clients_by client None door opened = absurd (cc)
clients_by client (Some at) door opened = door at refl

owed_either_at : (client : Bool) (state : State) (moment : Moment) (port : ℕ) → IsOrderly state
    → is_clients (find_port port state.ports) ≡ client → is_some_bytes (owed_of port state) ≡ true
    → is_open port (at_moment moment state) ≡ true → is_some_bytes (owed_of port (at_moment moment state)) ≡ true
owed_either_at true state moment port orderly client some opened =
    let kept = clients_by true (find_port port (at_moment moment state).ports)
    (door_at true state moment port orderly.sound.rising (has_door true (find_port port state.ports) client)) opened in
    owed_at state moment port orderly.sound.rising client some kept
owed_either_at false state moment port orderly client some opened =
    let was = open_owed (find_port port state.ports) state.under_way some in
    let kept = clients_by false (find_port port (at_moment moment state).ports)
    (door_at false state moment port orderly.sound.rising (has_door false (find_port port state.ports) client)) opened in
    child_owed_at state moment port orderly (child_or (find_port port state.ports) was client) some
    (child_or (find_port port (at_moment moment state).ports) opened kept)

servable_at : (state : State) (moment : Moment) (thing : Thing) → IsOrderly state
    → is_servable state thing ≡ true
    → stands thing (at_moment moment state) ≡ true → is_servable (at_moment moment state) thing ≡ true
servable_at state moment (Accept door) orderly able opened =
    ap (λ n. nat_lt n (2 ^ 64 - 1)) (at_moment-follows moment state).last ∙ able
servable_at state moment (Read port) orderly able opened =
    wanted_at state moment port orderly.tied able opened
servable_at state moment (Write port) orderly able opened =
    owed_either_at (is_clients (find_port port state.ports)) state moment port orderly refl able opened

-- ---- both

-- what stands after the event of a moment stood before it
stood-port : (state : State) (moment : Moment) (event : Happening) (port : ℕ) → IsOrderly state
    → is_open port state ≡ true → is_open port (step state moment event).state ≡ true
    → is_open port (at_moment moment state) ≡ true
stood-port state moment event port orderly was opened =
    opened_before event (at_moment moment state) port (rising-moment moment state orderly.sound.rising)
    (ap (λ n. suc n == port) (at_moment-follows moment state).last
    ∙ never_next port state.last_port state.ports orderly.sound.rising was) opened

stood : (state : State) (moment : Moment) (event : Happening) (thing : Thing) → IsOrderly state
    → is_servable state thing ≡ true → stands thing (step state moment event).state ≡ true
    → stands thing (at_moment moment state) ≡ true
stood state moment event (Accept door) orderly able opened = refl
stood state moment event (Read port) orderly able opened =
    stood-port state moment event port orderly (open_wants (find_port port state.ports) able) opened
stood state moment event (Write port) orderly able opened =
    stood-port state moment event port orderly (open_owed (find_port port state.ports) state.under_way able) opened

pub servable_after : (state : State) (moment : Moment) (event : Happening) (thing : Thing)
    → IsOrderly state
    → may_end event thing ≡ false → is_servable state thing ≡ true → stands thing (step state moment event).state ≡ true
    → is_servable (step state moment event).state thing ≡ true
servable_after state moment event thing orderly never able opened =
    servable_handled (at_moment moment state) event thing (orderly_at state moment orderly) never
    (servable_at state moment thing orderly able (stood state moment event thing orderly able opened)) opened
