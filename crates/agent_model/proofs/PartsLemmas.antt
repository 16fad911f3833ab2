-- A piece of a client's bytes whose first part holds a whole request, or a bad length.
use Rattle.std.proofs.Common.{◌≡◌, ℕ, List, [], ◌∷◌, ◌++◌, refl, ap, sym, ◌∙◌, Option, Some, None, is_some, if◌then◌else◌}
use Rattle.std.proofs.lemmas.List.{append-nil, append_assoc}
use Rattle.std.specs.Option.{IfSome, option_map}
use Rattle.wire_text.specs.Frames.{Front, front, front_body, after_front, Whole, Bad, More}
use Rattle.wire_text.proofs.FrontLemmas.{front-append_bad, front-append_whole}
use Rattle.wire_text.proofs.SplitLemmas.{after_front-append, front_body-append}
use Rattle.world_ports.specs.declared.Moment.{Moment}
use Rattle.world_ports.specs.declared.Door.TheVariants.{Clients}
use Rattle.agent_model.specs.Binds.{agent_request_of}
use Rattle.agent_model.specs.Actions.{Outcome, closing, stay}
use Rattle.agent_model.specs.Children.{changed, heard_more, shut}
use Rattle.agent_model.specs.Dispatch.{Served, serve}
use Rattle.agent_model.specs.Events.{Heard}
use Rattle.wire_text.specs.Bounds.{longest_body}
use Rattle.agent_model.specs.Looks.{due, due_front}
use Rattle.agent_model.specs.Sound.{IsRising, IsSound}
use Rattle.agent_model.specs.State.{Nothing, OnAsk, OnConfirmation, Port, State, Waits, change_port, find_port, remove_port}
use Rattle.agent_model.specs.Step.{step, asker_at, attempts, handle, heard_at, take_frame, taken}
use Rattle.agent_model.specs.Time.{GiveTime, at_moment, taken_in}
use Rattle.agent_model.specs.Verdicts.{tell, verdict_text}
use Rattle.agent_model.proofs.ClientLemmas.{handle-heard, looked-found}
use Rattle.agent_model.proofs.PortsLemmas.{change_port-by, change_port-twice, find_port-change_port, find_port-remove_port, found_number, remove_port-change_port}
use Rattle.agent_model.proofs.OnTimeLemmas.{taken_in-at_moment}
use Rattle.agent_model.proofs.ServeLemmas.{serve-ends}
use Rattle.agent_model.proofs.ToldLemmas.{told_more}
use Rattle.agent_model.specs.Pieces.{Agree}
use Rattle.agent_model.proofs.PiecesLemmas.{after_nothing, agree-over, agree-stepped, at_moment-taken_in, found_more, heard_next}

-- ---- the first part holds a whole request

-- it is the same whatever follows
whole_longer : (heard a b : List ℕ) (body_len : ℕ)
    → front longest_body (heard ++ a) ≡ Whole body_len
    → front longest_body (heard ++ (a ++ b)) ≡ Whole body_len
whole_longer heard a b body_len whole =
    ap (front longest_body) (sym (append_assoc heard a b)) ∙ front-append_whole longest_body (heard ++ a) b body_len whole

bad_longer : (heard a b : List ℕ) (announced : ℕ) → front longest_body (heard ++ a) ≡ Bad announced
    → front longest_body (heard ++ (a ++ b)) ≡ Bad announced
bad_longer heard a b announced bad =
    ap (front longest_body) (sym (append_assoc heard a b)) ∙ front-append_bad longest_body (heard ++ a) b announced bad

-- nothing else is to be taken of a client that waits for nothing and is owed nothing
due-idle : (port : Port) → port.waits ≡ Nothing → port.owed ≡ []
    → due port ≡ front longest_body port.heard
due-idle port waits owed = ap (λ (w : Waits). due_front w port.owed port.heard) waits ∙ ap (λ (bytes : List ℕ). due_front Nothing bytes port.heard) owed

after_request : (moment : Moment) (state : State) (number : ℕ) (a b : List ℕ) (port : Port) (body_len : ℕ)
    → find_port number state.ports ≡ Some port → port.door ≡ Clients → port.waits ≡ Nothing
    → port.owed ≡ [] → front longest_body (port.heard ++ a) ≡ Whole body_len →
    Agree moment (handle (Heard number (a ++ b)) state) (handle (Heard number a) state)
    (heard_next moment number b (handle (Heard number a) state).state)
after_request moment state number a b port body_len found door waits owed whole =
    let body : List ℕ = front_body body_len (port.heard ++ a) in
    let served : Served = serve (agent_request_of body) (asker_at state.moment port) state.held state.under_way in
    let take_first : Port → Port = take_frame body_len (attempts state.held.lock body) in
    let told : Port → Port = tell served.work.verdict in
    let is_number : port.number ≡ number = found_number number state.ports port found in
    let first : handle (Heard number a) state ≡ taken body_len body (heard_more a port) (changed number (heard_more a) state) =
    handle-heard number a port state found door
    ∙ looked-found number (heard_more a port) (changed number (heard_more a) state) (Whole body_len) (found_more number a state.ports port found)
    (due-idle (heard_more a port) waits owed ∙ whole) in
    let one : List Port → State = λ ports. record state { held = served.held; under_way = served.work.under_way; ports = ports } in
    let gave : Port → Port = λ p. told (take_first (heard_more a p)) in
    let first_ports : change_port port.number told (change_port port.number take_first (change_port number (heard_more a) state.ports)) ≡ change_port number gave state.ports =
    ap (λ (n : ℕ). change_port n told (change_port n take_first (change_port number (heard_more a) state.ports))) is_number
    ∙ ap (change_port number told) (change_port-twice number (heard_more a) take_first state.ports (λ p. refl))
    ∙ change_port-twice number (λ p. take_first (heard_more a p)) told state.ports (λ p. refl) in
    let left : State = one (change_port number gave state.ports) in
    let first_state_is : (handle (Heard number a) state).state ≡ left = ap (λ (o : Outcome). o.state) first ∙ ap one first_ports in
    let next : State = taken_in moment left in
    let begun : taken_in moment (handle (Heard number a) state).state ≡ next = ap (taken_in moment) first_state_is in
    let there : find_port number next.ports ≡ Some (gave port) =
    find_port-change_port number gave state.ports (λ p. refl) ∙ ap (option_map gave) found in
    let still : due (heard_more b (gave port)) ≡ More =
    ap (λ (bytes : List ℕ). due_front (gave port).waits (bytes ++ verdict_text served.work.verdict) ((gave port).heard ++ b)) owed
    ∙ told_more (serve-ends (asker_at state.moment port) state.held state.under_way body) ((gave port).heard ++ b) in
    let second : handle (Heard number b) next ≡ stay (changed number (heard_more b) next) =
    handle-heard number b (gave port) next there door
    ∙ looked-found number (heard_more b (gave port)) (changed number (heard_more b) next) More (found_more number b next.ports (gave port) there) still in
    let later : heard_next moment number b (handle (Heard number a) state).state ≡ stay (changed number (heard_more b) next) =
    ap (handle (Heard number b)) begun ∙ second in
    let all : handle (Heard number (a ++ b)) state ≡ taken body_len body (heard_more (a ++ b) port) (changed number (heard_more (a ++ b)) state) =
    handle-heard number (a ++ b) port state found door
    ∙ looked-found number (heard_more (a ++ b) port) (changed number (heard_more (a ++ b)) state) (Whole body_len) (found_more number (a ++ b) state.ports port found)
    (due-idle (heard_more (a ++ b) port) waits owed ∙ whole_longer port.heard a b body_len whole)
    ∙ ap (λ (bytes : List ℕ). taken body_len bytes (heard_more (a ++ b) port) (changed number (heard_more (a ++ b)) state))
    (ap (front_body body_len) (sym (append_assoc port.heard a b)) ∙ front_body-append longest_body (port.heard ++ a) b body_len whole) in
    let at_port : told (take_first (heard_more (a ++ b) port)) ≡ heard_more b (gave port) =
    ap (λ (bytes : List ℕ). let q : Port = record (told (take_first port)) { heard = bytes } in q)
    (ap (after_front body_len) (sym (append_assoc port.heard a b)) ∙ after_front-append longest_body (port.heard ++ a) b body_len whole) in
    let all_ports : change_port port.number told (change_port port.number take_first (change_port number (heard_more (a ++ b)) state.ports)) ≡ change_port number (heard_more b) (change_port number gave state.ports) =
    ap (λ (n : ℕ). change_port n told (change_port n take_first (change_port number (heard_more (a ++ b)) state.ports))) is_number
    ∙ ap (change_port number told) (change_port-twice number (heard_more (a ++ b)) take_first state.ports (λ p. refl))
    ∙ change_port-twice number (λ p. take_first (heard_more (a ++ b) p)) told state.ports (λ p. refl)
    ∙ change_port-by number (λ p. told (take_first (heard_more (a ++ b) p))) (λ p. heard_more b (gave p)) state.ports port found at_port
    ∙ sym (change_port-twice number gave (heard_more b) state.ports (λ p. refl)) in
    let parts : State = one (change_port number (heard_more b) (change_port number gave state.ports)) in
    record {
      state = ap (λ (o : Outcome). at_moment moment o.state) all
          ∙ ap (λ (ps : List Port). at_moment moment (one ps)) all_ports
          ∙ sym (at_moment-taken_in moment parts)
          ∙ ap (λ (o : Outcome). at_moment moment o.state) (sym later);
      actions = ap (λ (o : Outcome). o.actions) all
          ∙ sym (append-nil (taken body_len body (heard_more a port) (changed number (heard_more a) state)).actions)
          ∙ ap (λ (o : Outcome). o.actions ++ []) (sym first)
          ∙ ap (λ (o : Outcome). (handle (Heard number a) state).actions ++ o.actions) (sym later);
      put = ap (λ (o : Outcome). o.put) all
          ∙ sym (append-nil (taken body_len body (heard_more a port) (changed number (heard_more a) state)).put)
          ∙ ap (λ (o : Outcome). o.put ++ []) (sym first)
          ∙ ap (λ (o : Outcome). (handle (Heard number a) state).put ++ o.put) (sym later);
    }

-- ---- the first part holds a bad length

after_bad : (moment : Moment) (state : State) (number last : ℕ) (a b : List ℕ) (port : Port) (announced : ℕ)
    → IsRising 0 last state.ports → find_port number state.ports ≡ Some port → port.door ≡ Clients
    → port.waits ≡ Nothing → port.owed ≡ [] → front longest_body (port.heard ++ a) ≡ Bad announced →
    Agree moment (handle (Heard number (a ++ b)) state) (handle (Heard number a) state)
    (heard_next moment number b (handle (Heard number a) state).state)
after_bad moment state number last a b port announced rising found door waits owed bad =
    let is_number : port.number ≡ number = found_number number state.ports port found in
    let left : State = record state { ports = remove_port number state.ports } in
    let shuts : (piece : List ℕ) → front longest_body (port.heard ++ piece) ≡ Bad announced → handle (Heard number piece) state ≡ record (stay left) { closes = number ∷ [] } =
    λ piece is. handle-heard number piece port state found door
    ∙ looked-found number (heard_more piece port) (changed number (heard_more piece) state) (Bad announced) (found_more number piece state.ports port found)
    (due-idle (heard_more piece port) waits owed ∙ is)
    ∙ ap (λ (n : ℕ). shut n (changed number (heard_more piece) state)) is_number
    ∙ ap (λ (ps : List Port). let o : Outcome = record (stay (record state { ports = ps })) { closes = closing number (change_port number (heard_more piece) state.ports) [] } in o) (remove_port-change_port number (heard_more piece) state.ports (λ p. refl))
    ∙ ap (λ (found : Option Port). let o : Outcome = record (stay left) { closes = if is_some found then number ∷ [] else [] } in o) (found_more number piece state.ports port found) in
    agree-over moment number b _ _
    (shuts (a ++ b) (bad_longer port.heard a b announced bad) ∙ sym (shuts a bad))
    (ap (λ (o : Outcome). find_port number o.state.ports) (shuts a bad)
    ∙ find_port-remove_port number 0 last state.ports rising)

-- ---- all of them

-- by what stands at the front of a client's bytes that waits for nothing and is owed nothing
by_front : (answer : Front) (moment : Moment) (state : State) (number last : ℕ) (a b : List ℕ) (port : Port)
    → taken_in moment state ≡ state → IsRising 0 last state.ports
    → find_port number state.ports ≡ Some port → port.door ≡ Clients → port.waits ≡ Nothing
    → port.owed ≡ [] → front longest_body (port.heard ++ a) ≡ answer →
    Agree moment (handle (Heard number (a ++ b)) state) (handle (Heard number a) state)
    (heard_next moment number b (handle (Heard number a) state).state)
by_front (Whole body_len) moment state number last a b port same rising found door waits owed is =
    after_request moment state number a b port body_len found door waits owed is
by_front (Bad announced) moment state number last a b port same rising found door waits owed is =
    after_bad moment state number last a b port announced rising found door waits owed is
by_front More moment state number last a b port same rising found door waits owed is =
    after_nothing moment state number a b port same found door (due-idle (heard_more a port) waits owed ∙ is)

-- by what it waits for and is owed
by_port : (waits : Waits) (owed : List ℕ) (moment : Moment) (state : State) (number last : ℕ) (a b : List ℕ) (port : Port)
    → taken_in moment state ≡ state → IsRising 0 last state.ports
    → find_port number state.ports ≡ Some port → port.door ≡ Clients → port.waits ≡ waits
    → port.owed ≡ owed →
    Agree moment (handle (Heard number (a ++ b)) state) (handle (Heard number a) state)
    (heard_next moment number b (handle (Heard number a) state).state)
by_port Nothing [] moment state number last a b port same rising found door waits owed =
    by_front (front longest_body (port.heard ++ a)) moment state number last a b port same rising found door waits owed refl
by_port Nothing (byte ∷ bytes) moment state number last a b port same rising found door waits owed =
    after_nothing moment state number a b port same found door
    (ap (λ (w : Waits). due_front w port.owed (port.heard ++ a)) waits ∙ ap (λ (o : List ℕ). due_front Nothing o (port.heard ++ a)) owed)
by_port (OnAsk ask) owed moment state number last a b port same rising found door waits is =
    after_nothing moment state number a b port same found door (ap (λ (w : Waits). due_front w port.owed (port.heard ++ a)) waits)
by_port (OnConfirmation job) owed moment state number last a b port same rising found door waits is =
    after_nothing moment state number a b port same found door (ap (λ (w : Waits). due_front w port.owed (port.heard ++ a)) waits)

-- a port that isn't open hears nothing
by_found : (is : Option Port) (moment : Moment) (state : State) (number last : ℕ) (a b : List ℕ)
    → taken_in moment state ≡ state → IsRising 0 last state.ports
    → find_port number state.ports ≡ is → IfSome is (λ port. port.door ≡ Clients) →
    Agree moment (handle (Heard number (a ++ b)) state) (handle (Heard number a) state)
    (heard_next moment number b (handle (Heard number a) state).state)
by_found None moment state number last a b same rising found door =
    let nothing : (piece : List ℕ) → handle (Heard number piece) state ≡ stay state =
    λ piece. ap (λ (o : Option Port). heard_at o piece state) found in
    agree-over moment number b _ _ (nothing (a ++ b) ∙ sym (nothing a))
    (ap (λ (o : Outcome). find_port number o.state.ports) (nothing a) ∙ found)
by_found (Some port) moment state number last a b same rising found door =
    by_port port.waits port.owed moment state number last a b port same rising found door refl refl

-- two parts of a client's piece are the piece
pub parts_agree : (state : State) (moment : Moment) (number : ℕ) (a b : List ℕ)
    → GiveTime state.under_way.limits → IsSound (at_moment moment state)
    → IfSome (find_port number (at_moment moment state).ports) (λ port. port.door ≡ Clients) →
    Agree moment (step state moment (Heard number (a ++ b))) (step state moment (Heard number a))
    (step (step state moment (Heard number a)).state moment (Heard number b))
parts_agree state moment number a b time sound door =
    let start : State = at_moment moment state in
    agree-stepped state moment number a b time
    (by_found (find_port number start.ports) moment start number start.last_port a b (taken_in-at_moment moment state) sound.rising refl door)
