-- The agent stays orderly, and child processes that were owed bytes are owed some yet.
use Rattle.std.proofs.Common.{◌≡◌, ◌≢◌, ℕ, suc, ◌<◌, Bool, true, false, Option, Some, None, is_some, refl, sym, ap, ◌∙◌, ◌==◌, subst, arith, not}
use Rattle.std.proofs.lemmas.Bool.{eq-eqb}
use Rattle.world_ports.specs.declared.events.Door.TheVariants.{Children, Clients}
use Rattle.world_ports.specs.declared.events.Door.{Door}
use Rattle.world_ports.specs.declared.events.Moment.{Moment}
use Rattle.confirm_desk.specs.Confirmations.{Confirmation, find_linked}
use Rattle.helper_link.specs.HelperLink.{sendable}
use Rattle.helper_link.specs.declared.state.LinkState.TheVariants as states
use Rattle.helper_link.specs.declared.state.LinkState.{LinkState}
use Rattle.agent_model.specs.Events.{Happening, Joined, Tick, Took}
use Rattle.agent_model.specs.Sound.{IsRising}
use Rattle.agent_model.specs.State.{Port, Settings, State, UnderWay, find_port, first_state, is_client, is_linked_to, is_some_bytes, owed_as, owed_by, owed_of, role_by_helper, role_by_link, role_of}
use Rattle.agent_model.specs.Step.{handle, has_room, step}
use Rattle.agent_model.specs.Time.{at_moment}
use Rattle.agent_model.proofs.FatedLemmas.{first-tied, step-fated, tied-opened}
use Rattle.agent_model.proofs.MakeLemmas.{by_event_as, role-helper}
use Rattle.agent_model.proofs.PortsLemmas.{find_port-below, found_above, found_number}
use Rattle.agent_model.proofs.RunLemmas.{first_is_sound, step_keeps-sound}
use Rattle.loop_model.specs.Elsewhere.{is_child, takes_bytes}
use Rattle.loop_model.specs.Orderly.{IsOrderly, IsStaffed}
use Rattle.loop_model.proofs.ChildEventLemmas.{keeps-makes, keeps-moment}
use Rattle.loop_model.proofs.ChildLemmas.{Owes, by_desk, by_link}
use Rattle.loop_model.proofs.ElsewhereLemmas.{find-admitted}
use Rattle.loop_model.proofs.LeftLemmas.{never_joins}
use Rattle.loop_model.proofs.ThingLemmas.{false_by}

-- ---- the agent stays orderly

-- a port of number 0 isn't open
none-zero : (state : State) → IsRising 0 state.last_port state.ports
    → is_some (find_port 0 state.ports) ≡ true → ⊥
none-zero state rising opened =
    let none : find_port 0 state.ports ≡ None = find_port-below 0 0 state.last_port state.ports (omega arith) rising in
    let no : false ≡ true = sym (ap is_some none) ∙ opened in
    absurd (cc)

staffed_by : (event : Happening) (state : State) → IsRising 0 state.last_port state.ports
    → IsStaffed state.under_way
    → IsStaffed (handle event state).state.under_way
staffed_by event state rising staffed =
    by_event_as (λ outcome. IsStaffed outcome.state.under_way) event state (λ door is. staffed)
    (λ outcome makes.
    (keeps-makes 0 state.last_port makes
    (λ other count at is found none.
    let above : 0 < other = found_above other 0 state.last_port state.ports at rising found in omega (arith, above, none))
    record {
      rising = rising;
      staffed = staffed;
      owes = λ opened. absurd (none-zero state rising opened);
    }).staffed)

pub orderly_at : (state : State) (moment : Moment) → IsOrderly state
    → IsOrderly (at_moment moment state)
orderly_at state moment orderly = record {
  sound = step_keeps-sound state moment Tick orderly.sound;
  staffed = (keeps-moment 0 state.last_port moment state record {
    rising = orderly.sound.rising;
    staffed = orderly.staffed;
    owes = λ opened. absurd (none-zero state orderly.sound.rising opened);
  }).staffed;
  tied = tied-opened moment state orderly.tied;
}

pub orderly_after : (state : State) (moment : Moment) (event : Happening) → IsOrderly state
    → IsOrderly (step state moment event).state
orderly_after state moment event orderly =
    let begun = orderly_at state moment orderly in
    record {
      sound = step_keeps-sound state moment event orderly.sound;
      staffed = staffed_by event (at_moment moment state) begun.sound.rising begun.staffed;
      tied = (step-fated state moment event orderly.tied).tied;
    }

pub orderly_first : (settings : Settings) → IsOrderly (first_state settings)
orderly_first settings = record {
  sound = first_is_sound settings;
  staffed = record {
    jobs = record { order = omega arith; to_start = tt; started = tt; apart = λ number job found. absurd (cc) };
    coming = tt;
  };
  tied = first-tied settings;
}

-- ---- what a child process is owed, as its port tells

linked_is : (port : ℕ) (u : UnderWay) → is_linked_to port u.link.state ≡ true
    → u.link.state ≡ states.Linked port
linked_is port u is =
    role-helper Children port u (ap (λ b. role_by_helper b port u.confirmations) is)

not_linked_is : (port : ℕ) (u : UnderWay) → is_linked_to port u.link.state ≡ false
    → u.link.state ≢ states.Linked port
not_linked_is port u is linked =
    let there : is_linked_to port u.link.state ≡ (port == port) = ap (is_linked_to port) linked in
    let here : (port == port) ≡ true = eq-eqb port port refl in
    let no : false ≡ true = sym is ∙ there ∙ here in
    absurd (cc)

owes_desk : (found : Option Confirmation) (port : ℕ) (at : Port) (u : UnderWay)
    → find_linked port u.confirmations ≡ found
    → u.link.state ≢ states.Linked port → is_some_bytes (owed_as (role_by_link found) at u) ≡ true → Owes port u
owes_desk None port at u is other some = absurd (cc)
owes_desk (Some one) port at u is other some = by_desk one is some other

owes_child : (linked : Bool) (port : ℕ) (at : Port) (u : UnderWay)
    → is_linked_to port u.link.state ≡ linked
    → is_some_bytes (owed_as (role_by_helper linked port u.confirmations) at u) ≡ true → Owes port u
owes_child true port at u is some =
    let linked = linked_is port u is in
    by_link linked (sym (ap (λ (s : LinkState). is_some_bytes (sendable s u.link.owed)) linked) ∙ some)
owes_child false port at u is some =
    owes_desk (find_linked port u.confirmations) port at u refl (not_linked_is port u is) some

owes_port : (door : Door) (port : ℕ) (at : Port) (u : UnderWay) → is_client door ≡ false
    → is_some_bytes (owed_as (role_of door port u) at u) ≡ true → Owes port u
owes_port Clients port at u child some = absurd (cc)
owes_port Children port at u child some =
    owes_child (is_linked_to port u.link.state) port at u refl some

owed_desk : (found : Option Confirmation) (port : ℕ) (at : Port) (u : UnderWay) (one : Confirmation)
    → found ≡ Some one
    → is_some_bytes one.owed ≡ true → is_some_bytes (owed_as (role_by_link found) at u) ≡ true
owed_desk None port at u one is some = absurd (cc)
owed_desk (Some other) port at u one is some =
    let equal : other ≡ one = cc in ap (λ (c : Confirmation). is_some_bytes c.owed) equal ∙ some

owed_child : (linked : Bool) (port : ℕ) (at : Port) (u : UnderWay)
    → is_linked_to port u.link.state ≡ linked → Owes port u
    → is_some_bytes (owed_as (role_by_helper linked port u.confirmations) at u) ≡ true
owed_child true port at u is (by_link linked some) =
    ap (λ (s : LinkState). is_some_bytes (sendable s u.link.owed)) linked ∙ some
owed_child true port at u is (by_desk one found some other) = absurd (other (linked_is port u is))
owed_child false port at u is (by_link linked some) = absurd (not_linked_is port u is linked)
owed_child false port at u is (by_desk one found some other) =
    owed_desk (find_linked port u.confirmations) port at u one found some

owed_port : (door : Door) (port : ℕ) (at : Port) (u : UnderWay) → is_client door ≡ false
    → Owes port u
    → is_some_bytes (owed_as (role_of door port u) at u) ≡ true
owed_port Clients port at u child owes = absurd (cc)
owed_port Children port at u child owes =
    owed_child (is_linked_to port u.link.state) port at u refl owes

-- ---- a child process that was owed bytes is owed some yet

not_client : (door : Door) → not (is_client door) ≡ true → is_client door ≡ false
not_client Clients child = absurd (cc)
not_client Children child = refl

child_before : (found : Option Port) (u : UnderWay) (port : ℕ)
    → ((at : Port) → found ≡ Some at → at.number ≡ port)
    → is_child found ≡ true → is_some_bytes (owed_by found u) ≡ true → Owes port u
child_before None u port number child some = absurd (cc)
child_before (Some at) u port number child some =
    owes_port at.door port at u (not_client at.door child)
    (subst (λ n. is_some_bytes (owed_as (role_of at.door n u) at u) ≡ true) (number at refl) some)

child_after : (found : Option Port) (u : UnderWay) (port : ℕ)
    → ((at : Port) → found ≡ Some at → at.number ≡ port)
    → is_child found ≡ true → Owes port u → is_some_bytes (owed_by found u) ≡ true
child_after None u port number child owes = absurd (cc)
child_after (Some at) u port number child owes =
    subst (λ n. is_some_bytes (owed_as (role_of at.door n u) at u) ≡ true) (sym (number at refl))
    (owed_port at.door port at u (not_client at.door child) owes)

child_open : (found : Option Port) → is_child found ≡ true → is_some found ≡ true
child_open None child = absurd (cc)
child_open (Some at) child = refl

child_joined : (door : Door) (state : State) (port : ℕ) → IsRising 0 state.last_port state.ports
    → is_child (find_port port state.ports) ≡ true → is_some_bytes (owed_of port state) ≡ true
    → is_some_bytes (owed_of port (handle (Joined door) state).state) ≡ true
child_joined door state port rising child some =
    let is_in = has_room door state.ports state.under_way in
    let other : (suc state.last_port == port) ≡ false = false_by (suc state.last_port == port) (λ is.
    let at = some_child (find_port port state.ports) child in
    never_joins port state.last_port state.ports at.0 rising is at.1) in
    ap (λ f. is_some_bytes (owed_by f state.under_way))
    (find-admitted is_in port (suc state.last_port) door state.ports other) ∙ some
  where
    some_child : (found : Option Port) → is_child found ≡ true → (at : Port) × (found ≡ Some at)
    some_child None child = absurd (cc)
    some_child (Some at) child = (at, refl)

pub child_owed_after : (state : State) (event : Happening) (port : ℕ) → IsOrderly state
    → takes_bytes event port ≡ false → is_child (find_port port state.ports) ≡ true
    → is_some_bytes (owed_of port state) ≡ true → is_child (find_port port (handle event state).state.ports) ≡ true
    → is_some_bytes (owed_of port (handle event state).state) ≡ true
child_owed_after state event port orderly silent child some =
    let owes = child_before (find_port port state.ports) state.under_way port
    (λ at found. found_number port state.ports at found) child some in
    by_event_as (λ outcome. is_child (find_port port outcome.state.ports) ≡ true → is_some_bytes (owed_of port outcome.state) ≡ true) event state
    (λ door is still. child_joined door state port orderly.sound.rising child some) (λ outcome makes still.
    let keeps = keeps-makes port state.last_port makes
    (λ other count at is found here.
    let takes : takes_bytes (Took other count) port ≡ false = ap (λ e. takes_bytes e port) (sym is) ∙ silent in
    let same_port : (other == port) ≡ true = eq-eqb other port here in
    let no : false ≡ true = sym takes ∙ same_port in
    absurd (cc))
    record { rising = orderly.sound.rising; staffed = orderly.staffed; owes = λ opened. owes } in
    child_after (find_port port outcome.state.ports) outcome.state.under_way port
    (λ at found. found_number port outcome.state.ports at found) still
    (keeps.owes (child_open (find_port port outcome.state.ports) still)))

-- a child process that was owed bytes is owed some at a moment, before its event, while it is open
pub child_owed_at : (state : State) (moment : Moment) (port : ℕ) → IsOrderly state
    → is_child (find_port port state.ports) ≡ true → is_some_bytes (owed_of port state) ≡ true
    → is_child (find_port port (at_moment moment state).ports) ≡ true
    → is_some_bytes (owed_of port (at_moment moment state)) ≡ true
child_owed_at state moment port orderly child some still =
    let begun = at_moment moment state in
    let owes = child_before (find_port port state.ports) state.under_way port
    (λ at found. found_number port state.ports at found) child some in
    let keeps = keeps-moment port state.last_port moment state
    record { rising = orderly.sound.rising; staffed = orderly.staffed; owes = λ opened. owes } in
    child_after (find_port port begun.ports) begun.under_way port (λ at found. found_number port begun.ports at found)
    still (keeps.owes (child_open (find_port port begun.ports) still))
