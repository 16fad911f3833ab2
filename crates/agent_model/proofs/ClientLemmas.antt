-- What an event brings at a client's port.
use Rattle.std.proofs.Common.{◌≡◌, ℕ, List, [], ◌∷◌, refl, ap, sym, ◌∙◌, Option, Some, None}
use Rattle.std.specs.Option.{option_map}
use Rattle.world_ports.specs.declared.Door.{Door}
use Rattle.world_ports.specs.declared.Door.TheVariants.{Clients, Children}
use Rattle.wire_text.specs.Frames.{Front, Whole, Bad, More, front_body}
use Rattle.agent_model.specs.Binds.{agent_request_of}
use Rattle.agent_model.specs.Actions.{Outcome}
use Rattle.agent_model.specs.Children.{changed, closed, heard_more}
use Rattle.agent_model.specs.Dispatch.{Served, serve}
use Rattle.agent_model.specs.Events.{Heard, Took}
use Rattle.agent_model.specs.Looks.{due, due_by}
use Rattle.agent_model.specs.State.{Client, Confirmer, Helper, Nothing, OnAsk, OnConfirmation, Port, Role, State, Unnamed, Waits, change_port, find_port, role_of}
use Rattle.agent_model.specs.Step.{asker_at, attempts, handle, heard_at, heard_by_role, look_front, look_port, look_waits, looked, take_frame, took_at, took_by_role, took_some}
use Rattle.agent_model.specs.Verdicts.{tell}
use Rattle.agent_model.proofs.MakeLemmas.{role-client}
use Rattle.agent_model.proofs.PortsLemmas.{change_port-twice, find_port-change_port, found_number}

-- a client is looked at by what is to be taken of it
looked_by_due : (waits : Waits) (owed : List ℕ) (port : Port) (state : State) → port.waits ≡ waits
    → port.owed ≡ owed → look_waits port.waits port.owed port state ≡ look_front (due port) port state
looked_by_due Nothing [] port state waits owed = rw (waits, owed)
looked_by_due Nothing (byte ∷ bytes) port state waits owed = rw (waits, owed)
looked_by_due (OnAsk ask) owed port state waits is = rw waits
looked_by_due (OnConfirmation job) owed port state waits is = rw waits

-- among all ports
pub looked-found : (number : ℕ) (port : Port) (state : State) (answer : Front)
    → find_port number state.ports ≡ Some port → due port ≡ answer
    → looked number state ≡ look_front answer port state
looked-found number port state answer found is =
    ap (λ (o : Option Port). look_port o state) found ∙ looked_by_due port.waits port.owed port state refl refl ∙ ap (λ (f : Front). look_front f port state) is

-- what comes of a request, of the client of this port at the front of whose bytes it stands
abbrev pub served_at : ℕ → Port → State → Served
served_at body_len port state =
    serve (agent_request_of (front_body body_len port.heard)) (asker_at state.moment port) state.held state.under_way

-- a client with a request to be taken is told what comes of it
pub looked-whole : (number body_len : ℕ) (port : Port) (state : State) → find_port number state.ports ≡ Some port → due port ≡ Whole body_len → (looked number state).state ≡ record state {
  held = (served_at body_len port state).held;
  under_way = (served_at body_len port state).work.under_way;
  ports = change_port number (λ p. tell (served_at body_len port state).work.verdict (take_frame body_len (attempts state.held.lock (front_body body_len port.heard)) p)) state.ports;
}
looked-whole number body_len port state found is =
    let same : port.number ≡ number = found_number number state.ports port found in
    let served : Served = served_at body_len port state in
    let take : Port → Port = take_frame body_len (attempts state.held.lock (front_body body_len port.heard)) in
    let twice : change_port number (tell served.work.verdict) (change_port number take state.ports) ≡ change_port number (λ p. tell served.work.verdict (take p)) state.ports =
    change_port-twice number take (tell served.work.verdict) state.ports (λ p. refl) in
    let to : List Port → State = λ ports. record state { held = served.held; under_way = served.work.under_way; ports = ports } in
    ap (λ (o : Outcome). o.state) (looked-found number port state (Whole body_len) found is)
    ∙ ap (λ (n : ℕ). to (change_port n (tell served.work.verdict) (change_port n take state.ports))) same
    ∙ ap to twice

-- one with a bad length is closed
pub looked-bad : (number announced : ℕ) (port : Port) (state : State)
    → find_port number state.ports ≡ Some port → due port ≡ Bad announced
    → (looked number state).state ≡ closed number state
looked-bad number announced port state found is =
    ap (λ (o : Outcome). o.state) (looked-found number port state (Bad announced) found is)
    ∙ ap (λ (n : ℕ). closed n state) (found_number number state.ports port found)

-- and of any other nothing is taken
looked-more : (number : ℕ) (found : Option Port) (state : State)
    → find_port number state.ports ≡ found → due_by found ≡ More
    → (looked number state).state ≡ state
looked-more number None state absent is = ap (λ (o : Option Port). (look_port o state).state) absent
looked-more number (Some port) state found is =
    ap (λ (o : Outcome). o.state) (looked-found number port state More found is)

pub looked-stays : (number : ℕ) (state : State) → due_by (find_port number state.ports) ≡ More
    → (looked number state).state ≡ state
looked-stays number state is = looked-more number (find_port number state.ports) state refl is

-- ---- events at a client's port

-- a client sent more
pub handle-heard : (number : ℕ) (piece : List ℕ) (port : Port) (state : State)
    → find_port number state.ports ≡ Some port → port.door ≡ Clients
    → handle (Heard number piece) state ≡ looked number (changed number (heard_more piece) state)
handle-heard number piece port state found is =
    ap (λ (o : Option Port). heard_at o piece state) found
    ∙ ap (λ (d : Door). heard_by_role (role_of d port.number state.under_way) port piece state) is
    ∙ ap (λ (n : ℕ). looked n (changed n (heard_more piece) state)) (found_number number state.ports port found)

-- a client took bytes
pub handle-took : (number count : ℕ) (port : Port) (state : State)
    → find_port number state.ports ≡ Some port → port.door ≡ Clients
    → handle (Took number count) state ≡ looked number (changed number (took_some count) state)
handle-took number count port state found is =
    ap (λ (o : Option Port). took_at o count state) found
    ∙ ap (λ (d : Door). took_by_role (role_of d port.number state.under_way) port.number count state) is
    ∙ ap (λ (n : ℕ). looked n (changed n (took_some count) state)) (found_number number state.ports port found)

-- where nothing is to be taken of it then, it is only changed
pub changed-found : (number : ℕ) (port : Port) (f : Port → Port) (state : State)
    → ((p : Port) → (f p).number ≡ p.number) → find_port number state.ports ≡ Some port
    → due (f port) ≡ More
    → find_port number (looked number (changed number f state)).state.ports ≡ Some (f port)
changed-found number port f state keeps found is =
    let made : find_port number (change_port number f state.ports) ≡ Some (f port) = find_port-change_port number f state.ports keeps ∙ ap (option_map f) found in
    ap (λ (s : State). find_port number s.ports) (looked-stays number (changed number f state) (ap due_by made ∙ is)) ∙ made

-- what a child process takes leaves the ports
pub took-child : (number count : ℕ) (state : State)
    → ((port : Port) → find_port number state.ports ≡ Some port → port.door ≡ Children)
    → (handle (Took number count) state).state.ports ≡ state.ports
took-child number count state child = by_found (find_port number state.ports) child
  where
    by_role : (role : Role) (at : ℕ) → (role ≡ Client → ⊥)
        → (took_by_role role at count state).state.ports ≡ state.ports
    by_role Client at other = absurd (other refl)
    by_role Unnamed at other = refl
    by_role Helper at other = refl
    by_role (Confirmer confirmation) at other = refl

    by_found : (found : Option Port) → ((port : Port) → found ≡ Some port → port.door ≡ Children)
        → (took_at found count state).state.ports ≡ state.ports
    by_found None is = refl
    by_found (Some port) is =
        by_role (role_of port.door port.number state.under_way) port.number (λ client.
        let both : Clients ≡ Children = sym (role-client port.door port.number state.under_way client) ∙ is port refl in
        absurd (cc))
