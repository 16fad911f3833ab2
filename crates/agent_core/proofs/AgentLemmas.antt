-- What a change of the agent's parts is in its state.
use Rattle.std.proofs.Common.{◌≡◌, ℕ, List, [], length, drop, refl, ap, sym, ◌∙◌, Option, Some, None, IsSome, Bool, true, false, max, min}
use Rattle.world_ports.specs.declared.Moment.{Moment}
use Rattle.agent_model.specs.NumberLists.{put_all}
use Rattle.wire_text.specs.Frames.{Bad, More, Whole, front_body}
use Rattle.helper_link.specs.HelperLink.{sendable, sent}
use Rattle.helper_link.specs.declared.state.LinkState.TheVariants as states
use Rattle.agent_model.specs.Children.{changed, heard_more, remove_to_start, shut, unnamed_heard}
use Rattle.agent_model.specs.Actions.{Outcome, Stepped, stay, stepped}
use Rattle.agent_model.specs.Answers.{lose_where}
use Rattle.agent_model.specs.Dispatch.{Served}
use Rattle.agent_model.specs.Events.{Happening, Heard, Tick, Took}
use Rattle.agent_model.specs.KeyStates.{KeyState, expired}
use Rattle.agent_model.specs.Looks.{due, due_front, due_by}
use Rattle.agent_model.specs.State.{Client, Confirmer, Helper, Nothing, OnAsk, OnConfirmation, Port, State, UnderWay, Unnamed, Waits, change_port, find_port, remove_port, role_of}
use Rattle.agent_model.specs.Step.{asker_at, attempts, handle, look_port, looked, step, take_frame}
use Rattle.agent_model.specs.Step.{took_some as port_took}
use Rattle.agent_model.specs.Time.{end_late, is_helper_late, lose_late, taken_in, time_passes}
use Rattle.agent_model.specs.Verdicts.{tell}
use Rattle.agent_model.proofs.ClientLemmas.{looked-found, looked-whole}
use Rattle.agent_model.proofs.PortsLemmas.{found_number}
use Rattle.agent_model.proofs.SecondLemmas.{second-serve}
use Rattle.agent_core.specs.Parts.{after, parts_of, state_of}
use Rattle.lists.specs.Keyed.{has_key}
use Rattle.lists.specs.Rising.{inserted}
use Rattle.lists.proofs.FirstLemmas.{change-agree}
use Rattle.agent_core.specs.Roles.{role_by}
use Rattle.agent_core.specs.Served.{served_at}
use Rattle.agent_core.specs.Slots.{OpenPorts}
use Rattle.std.proofs.lemmas.List.{drop_min}
use Rattle.confirm_desk.specs.Calls.{took_at, took_by}
use Rattle.confirm_desk.specs.Confirmations.{Confirmation, find_asker, find_job, find_linked, job_of, took_some}
use Rattle.agent_model.specs.Sound.{IsTied}
use Rattle.agent_model.proofs.FatedMakeLemmas.{fated-makes}
use Rattle.agent_model.proofs.TiedLemmas.{tied-quiet}
use Rattle.agent_model.proofs.JobLemmas.{asker_own, in-by_asker, in-found}
use Rattle.agent_model.proofs.MakeLemmas.{alters, hears, loses, takes}
use Rattle.agent_core.specs.Bound.{AreHeldFor, IsBound, IsAtRest}
use Rattle.agent_core.proofs.ConfirmerLemmas.{quiet-asking}
use Rattle.agent_core.proofs.HelperLemmas.{closing-open}
use Rattle.agent_core.proofs.LateLemmas.{after-behind}
use Rattle.agent_core.proofs.RoleLemmas.{confirmer-as, heard-as, linked-as, port_of_role, took-as, unnamed-free}

-- ---- a client is looked at

-- it is told what comes of its request
pub agent_served : (wall : ℕ) (keys kept : KeyState) (going left : UnderWay) (old new : OpenPorts) (number body_len : ℕ)
    (port : Port) → find_port number old.ports ≡ Some port → due port ≡ Whole body_len
    → kept ≡ (served_at body_len wall port keys going).held
    → left ≡ (served_at body_len wall port keys going).work.under_way → new ≡ record old {
      ports = change_port number (λ p. tell (served_at body_len wall port keys going).work.verdict
          (take_frame body_len (attempts keys.lock (front_body body_len port.heard)) p)) old.ports;
    } → parts_of wall kept left new ≡ after old.closed (looked number (state_of wall keys going old))
agent_served wall keys kept going left old new number body_len port found whole kept_is left_is new_is =
    let state : State = state_of wall keys going old in
    let asked : Served = served_at body_len wall port keys going in
    let moment : Moment = record { mono = keys.table.greatest; wall = wall } in
    let at : KeyState → UnderWay → List Port → ℕ → ℕ → State = λ held under_way ports last mono. record {
      held = held;
      under_way = under_way;
      ports = ports;
      last_port = last;
      moment = record { mono = mono; wall = wall };
    } in
    let told : List Port = change_port number (λ p. tell asked.work.verdict
    (take_frame body_len (attempts keys.lock (front_body body_len port.heard)) p)) old.ports in
    let same : state_of wall kept left new ≡ (looked number state).state =
    ap (λ (held : KeyState). at held left new.ports new.last held.table.greatest) kept_is
    ∙ ap (λ under_way. at asked.held under_way new.ports new.last asked.held.table.greatest) left_is
    ∙ ap (λ (v : OpenPorts). at asked.held asked.work.under_way v.ports v.last asked.held.table.greatest) new_is
    ∙ ap (λ mono. at asked.held asked.work.under_way told old.last mono) (second-serve (front_body body_len port.heard) (asker_at moment port) keys going refl)
    ∙ sym (looked-whole number body_len port state found whole) in
    let none : new.closed ≡ put_all old.closed (looked number state).closes =
    ap (λ (v : OpenPorts). v.closed) new_is
    ∙ sym (ap (λ (o : Outcome). put_all old.closed o.closes) (looked-found number port state (Whole body_len) found whole)) in
    let to : State → List ℕ → Stepped = λ s cs. record { state = s; closes = cs } in
    ap (λ s. to s new.closed) same ∙ ap (λ cs. to (looked number state).state cs) none

-- an open port is closed
pub shut_parts : (wall : ℕ) (keys : KeyState) (going : UnderWay) (old new : OpenPorts) (number : ℕ)
    → IsSome (find_port number old.ports) → new ≡ record old {
      ports = remove_port number old.ports;
      closed = inserted number old.closed;
    } → parts_of wall keys going new ≡ after old.closed (shut number (state_of wall keys going old))
shut_parts wall keys going old new number some new_is =
    let to : List ℕ → Stepped = λ cs. parts_of wall keys going (record old {
      ports = remove_port number old.ports;
      closed = put_all old.closed cs;
    }) in
    ap (λ (v : OpenPorts). parts_of wall keys going v) new_is
    ∙ ap to (sym (closing-open number old.ports [] some))

-- it is closed
pub agent_closed : (wall : ℕ) (keys : KeyState) (going : UnderWay) (old new : OpenPorts) (number announced : ℕ) (port : Port)
    → find_port number old.ports ≡ Some port → due port ≡ Bad announced → new ≡ record old {
      ports = remove_port number old.ports;
      closed = inserted number old.closed;
    } → parts_of wall keys going new ≡ after old.closed (looked number (state_of wall keys going old))
agent_closed wall keys going old new number announced port found bad new_is =
    let state : State = state_of wall keys going old in
    shut_parts wall keys going old new number (rw found refl) new_is
    ∙ ap (λ n. after old.closed (shut n state)) (sym (found_number number old.ports port found))
    ∙ ap (after old.closed) (sym (looked-found number port state (Bad announced) found bad))

-- nothing is taken of it
looked-nothing : (number : ℕ) (found : Option Port) (state : State) → find_port number state.ports ≡ found
    → due_by found ≡ More → looked number state ≡ stay state
looked-nothing number None state absent is = ap (λ (o : Option Port). look_port o state) absent
looked-nothing number (Some port) state found is = looked-found number port state More found is

pub agent_waits : (wall : ℕ) (keys : KeyState) (going : UnderWay) (ports : OpenPorts) (number : ℕ)
    → due_by (find_port number ports.ports) ≡ More
    → parts_of wall keys going ports ≡ after ports.closed (looked number (state_of wall keys going ports))
agent_waits wall keys going ports number more =
    let state : State = state_of wall keys going ports in
    ap (after ports.closed) (sym (looked-nothing number (find_port number ports.ports) state refl more))

-- ---- a port sent more, or took some

-- a client sent more, and is looked at
pub agent_hears : (number : ℕ) (piece : List ℕ) (state : State)
    → role_by (find_port number state.ports) state.under_way ≡ Some Client
    → looked number (changed number (heard_more piece) state) ≡ handle (Heard number piece) state
agent_hears number piece state is =
    let there = port_of_role (find_port number state.ports) state.under_way Client is in
    ap (λ n. looked n (changed n (heard_more piece) state)) (sym (found_number number state.ports there.0 there.1))
    ∙ sym (heard-as number piece there.0 Client state there.1 there.2)

-- a client took some of what it is owed, and is looked at
pub agent_sends : (wall : ℕ) (keys : KeyState) (going : UnderWay) (old mid : OpenPorts) (number count : ℕ)
    → role_by (find_port number old.ports) going ≡ Some Client
    → mid ≡ record old { ports = change_port number (port_took count) old.ports }
    → after mid.closed (looked number (state_of wall keys going mid))
    ≡ after old.closed (handle (Took number count) (state_of wall keys going old))
agent_sends wall keys going old mid number count is mid_is =
    let there = port_of_role (find_port number old.ports) going Client is in
    let state : State = state_of wall keys going old in
    ap (λ (v : OpenPorts). after v.closed (looked number (state_of wall keys going v))) mid_is
    ∙ ap (λ n. after old.closed (looked n (changed n (port_took count) state))) (sym (found_number number old.ports there.0 there.1))
    ∙ ap (after old.closed) (sym (took-as number count there.0 Client state there.1 there.2))

-- a child process that hasn't named itself sent more
pub agent_unnamed : (number : ℕ) (piece : List ℕ) (port : Port) (state : State) → find_port number state.ports ≡ Some port
    → role_of port.door port.number state.under_way ≡ Unnamed
    → unnamed_heard port.heard piece number state ≡ handle (Heard number piece) state
agent_unnamed number piece port state found role =
    ap (λ n. unnamed_heard port.heard piece n state) (sym (found_number number state.ports port found))
    ∙ sym (heard-as number piece port Unnamed state found role)

-- the helper took some of what it is owed, or all
pub agent_pays : (wall : ℕ) (keys : KeyState) (going left : UnderWay) (ports : OpenPorts) (number count least : ℕ)
    → role_by (find_port number ports.ports) going ≡ Some Helper → going.link.state ≡ states.Linked number
    → least ≡ min count (length (sendable going.link.state going.link.owed)) → left ≡ record going { link = sent least going.link }
    → parts_of wall keys left ports ≡ after ports.closed (handle (Took number count) (state_of wall keys going ports))
agent_pays wall keys going left ports number count least is linked least_is left_is =
    let there = port_of_role (find_port number ports.ports) going Helper is in
    let all : drop least going.link.owed ≡ drop count going.link.owed =
    ap (λ n. drop n going.link.owed) (least_is ∙ ap (λ l. min count (length (sendable l going.link.owed))) linked)
    ∙ drop_min count going.link.owed in
    ap (λ (u : UnderWay). parts_of wall keys u ports) left_is
    ∙ ap (λ bytes. parts_of wall keys (record going { link = record going.link { owed = bytes } }) ports) all
    ∙ ap (after ports.closed) (sym (took-as number count there.0 Helper (state_of wall keys going ports) there.1 there.2))

-- the helper is at its port
pub agent_linked : (number : ℕ) (ports : List Port) (going : UnderWay) → role_by (find_port number ports) going ≡ Some Helper → going.link.state ≡ states.Linked number
agent_linked number ports going is =
    let there = port_of_role (find_port number ports) going Helper is in
    linked-as there.0.door there.0.number going there.2 ∙ ap (λ n. states.Linked n) (found_number number ports there.0 there.1)

-- so is a child process that asks the user
pub agent_asks : (number : ℕ) (ports : List Port) (going : UnderWay) (one : Confirmation) → role_by (find_port number ports) going ≡ Some (Confirmer one) → find_linked number going.confirmations ≡ Some one
agent_asks number ports going one is =
    let there = port_of_role (find_port number ports) going (Confirmer one) is in
    ap (λ n. find_linked n going.confirmations) (sym (found_number number ports there.0 there.1)) ∙ confirmer-as there.0.door there.0.number going one there.2

-- none does where a child process hasn't named itself
pub agent_free : (number : ℕ) (ports : List Port) (going : UnderWay) → role_by (find_port number ports) going ≡ Some Unnamed → find_linked number going.confirmations ≡ None
agent_free number ports going is =
    let there = port_of_role (find_port number ports) going Unnamed is in
    ap (λ n. find_linked n going.confirmations) (sym (found_number number ports there.0 there.1)) ∙ (unnamed-free there.0.door there.0.number going there.2).1

-- a confirmer took some of what it is owed, or all
took_less : (count least : ℕ) (one : Confirmation) → least ≡ min count (length one.owed) → took_some least one ≡ took_some count one
took_less count least one is = ap (λ bytes. record one { owed = bytes }) (ap (λ n. drop n one.owed) is ∙ drop_min count one.owed)

pub agent_asked : (wall : ℕ) (keys : KeyState) (going left : UnderWay) (ports : OpenPorts) (number count least : ℕ)
    (one : Confirmation) → role_by (find_port number ports.ports) going ≡ Some (Confirmer one)
    → find_job one.job going.confirmations ≡ Some one → least ≡ min count (length one.owed)
    → left ≡ record going { confirmations = took_at number least going.confirmations }
    → parts_of wall keys left ports ≡ after ports.closed (handle (Took number count) (state_of wall keys going ports))
agent_asked wall keys going left ports number count least one is there_is least_is left_is =
    let there = port_of_role (find_port number ports.ports) going (Confirmer one) is in
    ap (λ (u : UnderWay). parts_of wall keys u ports) left_is
    ∙ ap (λ f. parts_of wall keys (record going { confirmations = took_by f least going.confirmations }) ports) (agent_asks number ports.ports going one is)
    ∙ ap (λ cs. parts_of wall keys (record going { confirmations = cs }) ports)
    (change-agree (has_key job_of one.job) (took_some least) (took_some count) going.confirmations one there_is (took_less count least one least_is))
    ∙ ap (after ports.closed) (sym (took-as number count there.0 (Confirmer one) (state_of wall keys going ports) there.1 there.2))

-- ---- what holds in between

-- nobody waits for consent who is served
due_waits : (waits : Waits) (owed heard : List ℕ) (body_len : ℕ) → due_front waits owed heard ≡ Whole body_len → waits ≡ Nothing
due_waits Nothing owed heard body_len is = refl
due_waits (OnAsk ask) owed heard body_len is = absurd (cc)
due_waits (OnConfirmation job) owed heard body_len is = absurd (cc)

pub none_asked : (number body_len : ℕ) (port : Port) (state : State) → IsTied state → find_port number state.ports ≡ Some port → due port ≡ Whole body_len → find_asker number state.under_way.confirmations ≡ None
none_asked number body_len port state tied found whole = by_found (find_asker number state.under_way.confirmations) refl
  where
    by_found : (own : Option Confirmation) → find_asker number state.under_way.confirmations ≡ own → own ≡ None
    by_found None is = refl
    by_found (Some one) is =
        let there = in-found one 0 state.under_way.last_job tied.raised.order (in-by_asker number state.under_way.confirmations one is) in
        let asker : one.asker ≡ number = asker_own number state.under_way.confirmations one is in
        let waits : port.waits ≡ OnConfirmation one.job = tied.raised.asking.asks one.job one port there (ap (λ n. find_port n state.ports) asker ∙ found) in
        let nothing : port.waits ≡ Nothing = due_waits port.waits port.owed port.heard body_len whole in
        let no : Nothing ≡ OnConfirmation one.job = sym nothing ∙ waits in
        absurd (cc)

-- who waits stays tied where more is heard of a port, or some of what it is owed was taken
pub tied-heard : (number : ℕ) (piece : List ℕ) (state : State) → IsTied state → IsTied (changed number (heard_more piece) state)
tied-heard number piece state tied =
    tied-quiet {event = Heard number piece} (alters number (heard_more piece) (hears piece refl)) tied

pub tied-took : (number count : ℕ) (state : State) → IsTied state → IsTied (changed number (port_took count) state)
tied-took number count state tied =
    tied-quiet {event = Took number count} (alters number (port_took count) (takes count refl)) tied

-- what holds of the agent holds of its ports
pub bound_of : (state : State) → IsAtRest state → IsBound state.ports state.under_way
bound_of state calm = record { order = calm.tied.order; tied = calm.tied.tied; judged = calm.judged.verified }

pub bound-taken : (moment : Moment) (state : State) → IsAtRest state → IsBound state.ports (taken_in moment state).under_way
bound-taken moment state calm = record { order = calm.tied.order; tied = calm.tied.tied; judged = calm.judged.verified }

pub bound-left : (job : ℕ) (state : State) → IsAtRest state
    → IsBound state.ports (record state.under_way { to_start = remove_to_start job state.under_way.to_start })
bound-left job state calm = record { order = calm.tied.order; tied = calm.tied.tied; judged = calm.judged.verified }

pub held_of_all : (state : State) → IsAtRest state → AreHeldFor state.under_way.confirmations state.ports
held_of_all state calm = λ job one found. record {
  is_open = calm.attended.askers job one found;
  silent = λ port at. quiet-asking state.ports state.under_way.confirmations calm.tied.raised.asking job one port found at;
}

-- ---- what is to be taken

-- a port with a whole request is open
pub whole_port : (found : Option Port) (body_len : ℕ) → due_by found ≡ Whole body_len → (port : Port) × (found ≡ Some port) × (due port ≡ Whole body_len)
whole_port None body_len is = absurd (cc)
whole_port (Some port) body_len is = (port, refl, is)

-- and so is one with a bad length
pub bad_port : (found : Option Port) (announced : ℕ) → due_by found ≡ Bad announced → (port : Port) × (found ≡ Some port) × (due port ≡ Bad announced)
bad_port None announced is = absurd (cc)
bad_port (Some port) announced is = (port, refl, is)

-- ---- a step

-- the moment is taken in
pub agent_begins : (moment : Moment) (wall now : ℕ) (keys kept : KeyState) (going left : UnderWay) (old new : OpenPorts)
    → now ≡ max keys.table.greatest moment.mono → kept ≡ expired now keys → left ≡ record going { second = now }
    → new ≡ record old { closed = [] }
    → parts_of moment.wall kept left new ≡ record { state = taken_in moment (state_of wall keys going old); closes = [] }
agent_begins moment wall now keys kept going left old new now_is kept_is left_is new_is =
    ap (λ (k : KeyState). parts_of moment.wall k left new) kept_is
    ∙ ap (λ (u : UnderWay). parts_of moment.wall (expired now keys) u new) left_is
    ∙ ap (λ (v : OpenPorts). parts_of moment.wall (expired now keys) (record going { second = now }) v) new_is
    ∙ ap (λ n. parts_of moment.wall (expired n keys) (record going { second = n }) (record old { closed = [] })) now_is

-- then waits end
pub agent_passed : (moment : Moment) (state : State) (first second third : Stepped)
    → first ≡ record { state = taken_in moment state; closes = [] }
    → second ≡ after first.closes (lose_late first.state) → third ≡ after second.closes (end_late second.state)
    → third ≡ after [] (time_passes moment state)
agent_passed moment state first second third first_is second_is third_is =
    let lost = second_is ∙ ap (λ (s : Stepped). after s.closes (lose_late s.state)) first_is in
    third_is ∙ ap (λ (s : Stepped). after s.closes (end_late s.state)) lost
    ∙ sym (after-behind [] (lose_late (taken_in moment state)) end_late)

-- and then the event is handled
pub agent_steps : (moment : Moment) (event : Happening) (state : State) (passed new : Stepped)
    → passed ≡ after [] (time_passes moment state) → new ≡ after passed.closes (handle event passed.state)
    → new ≡ stepped (step state moment event)
agent_steps moment event state passed new passed_is new_is =
    new_is ∙ ap (λ (s : Stepped). after s.closes (handle event s.state)) passed_is
    ∙ sym (after-behind [] (time_passes moment state) (handle event))

-- the helper is lost where it is late
pub tied-lost : (state : State) → IsTied state → IsTied (lose_late state).state
tied-lost state tied = by_late (is_helper_late state.under_way)
  where
    by_late : (is : Bool) → IsTied (lose_where is state).state
    by_late true = (fated-makes {event = Tick} (loses state) tied).tied
    by_late false = tied
