-- A piece of a client's bytes, whole and in two parts.
use Rattle.std.proofs.Common.{◌≡◌, ℕ, List, ◌++◌, refl, ap, sym, ◌∙◌, max, Some, None}
use Rattle.std.proofs.Math.Nat.{max-eq_left, le-max_right}
use Rattle.std.proofs.lemmas.List.{append-nil, append_assoc}
use Rattle.std.specs.Option.{option_map}
use Rattle.wire_text.specs.Frames.{More}
use Rattle.world_ports.specs.declared.Moment.{Moment}
use Rattle.world_ports.specs.declared.Door.TheVariants.{Clients}
use Rattle.agent_model.specs.Actions.{Outcome, and_then, stay}
use Rattle.agent_model.specs.Children.{changed, heard_more}
use Rattle.agent_model.specs.Events.{Heard}
use Rattle.agent_model.specs.KeyStates.{KeyState, expired}
use Rattle.agent_model.specs.Looks.{due}
use Rattle.agent_model.specs.Pieces.{Agree}
use Rattle.agent_model.specs.State.{Port, State, change_port, find_port}
use Rattle.agent_model.specs.Step.{handle, heard_at, in_order, looked, step}
use Rattle.agent_model.specs.Time.{GiveTime, at_moment, end_late, lose_late, taken_in, time_passes}
use Rattle.agent_model.proofs.ClientLemmas.{handle-heard, looked-found}
use Rattle.agent_model.proofs.PortsLemmas.{change_port-by, change_port-twice, find_port-change_port}
use Rattle.agent_model.proofs.HeldLemmas.{expired-twice}
use Rattle.agent_model.proofs.PromptLemmas.{step-on_time}
use Rattle.agent_model.proofs.TimeLemmas.{on_time-step}

-- ---- a moment that is taken in again

taken_in-twice : (moment : Moment) (state : State)
    → taken_in moment (taken_in moment state) ≡ taken_in moment state
taken_in-twice moment state =
    let t = max state.moment.mono moment.mono in
    let once : max t moment.mono ≡ t = max-eq_left (le-max_right state.moment.mono moment.mono) in
    let put : ℕ → KeyState → State = λ n k. record state {
      moment = record { mono = n; wall = moment.wall };
      held = k;
      under_way = record state.under_way { second = n };
    } in
    ap (λ n. put n (expired n (expired t state.held))) once ∙ ap (put t) (expired-twice t state.held)

-- brings nothing more
pub at_moment-taken_in : (moment : Moment) (state : State)
    → at_moment moment (taken_in moment state) ≡ at_moment moment state
at_moment-taken_in moment state =
    ap (λ s. (and_then (lose_late s) end_late).state) (taken_in-twice moment state)

-- ---- two ways to agree

module _ (moment : Moment) (number : ℕ) (b : List ℕ) where
  -- the second part, at the moment of the first, when nothing is late
  abbrev pub heard_next : State → Outcome
  heard_next state = handle (Heard number b) (taken_in moment state)

  -- nothing comes of the first part, and the second brings what the whole brings
  pub agree-waits : (whole first : Outcome) (next : State) → first ≡ stay next →
      taken_in moment next ≡ next → whole ≡ handle (Heard number b) next →
      Agree moment whole first (heard_next first.state)
  agree-waits whole first next first_is same whole_is =
      let second : whole ≡ heard_next first.state =
      whole_is ∙ ap (handle (Heard number b)) (sym same)
      ∙ ap (λ (o : Outcome). heard_next o.state) (sym first_is) in
      record {
        state = ap (λ (o : Outcome). at_moment moment o.state) second;
        actions = ap (λ (o : Outcome). o.actions) second
            ∙ ap (λ (o : Outcome). o.actions ++ (heard_next first.state).actions) (sym first_is);
        put = ap (λ (o : Outcome). o.put) second
            ∙ ap (λ (o : Outcome). o.put ++ (heard_next first.state).put) (sym first_is);
      }

  -- the first part brings what the whole brings, and the port is closed
  pub agree-over : (whole first : Outcome) → whole ≡ first →
      find_port number first.state.ports ≡ None →
      Agree moment whole first (heard_next first.state)
  agree-over whole first is gone =
      let second : heard_next first.state ≡ stay (taken_in moment first.state) =
      ap (λ o. heard_at o b (taken_in moment first.state)) gone in
      record {
        state = ap (λ (o : Outcome). at_moment moment o.state) is
            ∙ sym (at_moment-taken_in moment first.state)
            ∙ ap (λ (o : Outcome). at_moment moment o.state) (sym second);
        actions = ap (λ (o : Outcome). o.actions) is ∙ sym (append-nil first.actions)
            ∙ ap (λ (o : Outcome). first.actions ++ o.actions) (sym second);
        put = ap (λ (o : Outcome). o.put) is ∙ sym (append-nil first.put)
            ∙ ap (λ (o : Outcome). first.put ++ o.put) (sym second);
      }

-- ---- two events at one moment

-- parts that agree behind the moment agree, as nothing is late as the second one comes
pub agree-stepped : (state : State) (moment : Moment) (number : ℕ) (a b : List ℕ)
    → GiveTime state.under_way.limits →
    Agree moment (handle (Heard number (a ++ b)) (at_moment moment state)) (handle (Heard number a) (at_moment moment state))
    (heard_next moment number b (handle (Heard number a) (at_moment moment state)).state) →
    Agree moment (step state moment (Heard number (a ++ b))) (step state moment (Heard number a))
    (step (step state moment (Heard number a)).state moment (Heard number b))
agree-stepped state moment number a b time parts =
    let passed : Outcome = time_passes moment state in
    let first : Outcome = handle (Heard number a) passed.state in
    let later : Outcome = heard_next moment number b first.state in
    let second : step (step state moment (Heard number a)).state moment (Heard number b) ≡ in_order later =
    on_time-step moment first.state (Heard number b) (step-on_time moment state (Heard number a) time) in
    record {
      state = parts.state ∙ ap (λ (o : Outcome). at_moment moment o.state) (sym second);
      actions = ap (λ actions. passed.actions ++ actions) parts.actions ∙ sym (append_assoc passed.actions first.actions later.actions)
          ∙ ap (λ (o : Outcome). (passed.actions ++ first.actions) ++ o.actions) (sym second);
      put = ap (λ bodies. passed.put ++ bodies) parts.put ∙ sym (append_assoc passed.put first.put later.put)
          ∙ ap (λ (o : Outcome). (passed.put ++ first.put) ++ o.put) (sym second);
    }

-- ---- one port

-- two parts, one after the other, are heard as one
heard-twice : (a b : List ℕ) (port : Port)
    → heard_more b (heard_more a port) ≡ heard_more (a ++ b) port
heard-twice a b port =
    ap (λ bytes. let q : Port = record port { heard = bytes } in q) (append_assoc port.heard a b)

-- among all ports
ports-twice : (number : ℕ) (a b : List ℕ) (ports : List Port) (port : Port)
    → find_port number ports ≡ Some port
    → change_port number (heard_more b) (change_port number (heard_more a) ports) ≡ change_port number (heard_more (a ++ b)) ports
ports-twice number a b ports port found =
    change_port-twice number (heard_more a) (heard_more b) ports (λ p. refl)
    ∙ change_port-by number (λ p. heard_more b (heard_more a p)) (heard_more (a ++ b)) ports port found (heard-twice a b port)

pub found_more : (number : ℕ) (piece : List ℕ) (ports : List Port) (port : Port)
    → find_port number ports ≡ Some port
    → find_port number (change_port number (heard_more piece) ports) ≡ Some (heard_more piece port)
found_more number piece ports port found =
    find_port-change_port number (heard_more piece) ports (λ p. refl) ∙ ap (option_map (heard_more piece)) found

-- ---- nothing comes of the first part

pub after_nothing : (moment : Moment) (state : State) (number : ℕ) (a b : List ℕ) (port : Port) →
    taken_in moment state ≡ state → find_port number state.ports ≡ Some port →
    port.door ≡ Clients → due (heard_more a port) ≡ More →
    Agree moment (handle (Heard number (a ++ b)) state) (handle (Heard number a) state)
    (heard_next moment number b (handle (Heard number a) state).state)
after_nothing moment state number a b port same found door more =
    let next : State = changed number (heard_more a) state in
    agree-waits moment number b _ _ next
    (handle-heard number a port state found door
    ∙ looked-found number (heard_more a port) next More
    (found_more number a state.ports port found) more)
    (ap (λ (s : State). let t : State = record s { ports = next.ports } in t) same)
    (handle-heard number (a ++ b) port state found door
    ∙ ap (λ (ps : List Port). looked number (record state { ports = ps }))
    (sym (ports-twice number a b state.ports port found))
    ∙ sym (handle-heard number b (heard_more a port) next
    (found_more number a state.ports port found) door))
