-- A client that is looked at in two runs.
use Rattle.std.proofs.Common.{◌≡◌, ℕ, ◌+◌, List, [], ◌∷◌, length, drop, refl, sym, ap, subst, ◌∙◌, Bool, ◌||◌, Some, Result}
use Rattle.world_ports.specs.declared.Door.{Door}
use Rattle.world_ports.specs.declared.Door.TheVariants.{Clients, Children}
use Rattle.wire_text.specs.Frames.{Front, front, front_body}
use Rattle.agent_msg.specs.declared.fault.MsgFault.{MsgFault}
use Rattle.agent_msg.specs.Requests.{ClientRequest}
use Rattle.agent_model.specs.Actions.{Outcome}
use Rattle.agent_model.specs.Binds.{agent_request_of}
use Rattle.agent_model.specs.Children.{changed, shut}
use Rattle.agent_model.specs.Dispatch.{Served, serve}
use Rattle.wire_text.specs.Bounds.{longest_body}
use Rattle.agent_model.specs.Looks.{due, due_front}
use Rattle.agent_model.specs.State.{Nothing, OnAsk, OnConfirmation, Port, State, Waits, change_port, find_port}
use Rattle.agent_model.specs.Step.{asker_at, attempts, concluded, look_front, looked, take_frame, taken}
use Rattle.agent_model.specs.Verdicts.{tell}
use Rattle.agent_model.proofs.ClientLemmas.{looked-found}
use Rattle.agent_secrecy.specs.Secrets.{blank}
use Rattle.agent_secrecy.specs.Hiding.{Seen, SeenServed, bare, hide_heard, hide_held, hide_port, hide_read, hide_state, hide_under_way, seen, served_bare, served_seen}
use Rattle.agent_secrecy.specs.Secrets.{hidden}
use Rattle.agent_secrecy.specs.Alike.{AreAlikeBodies}
use Rattle.agent_secrecy.proofs.BlankLemmas.{blank-drop}
use Rattle.agent_secrecy.proofs.BodyLemmas.{bodies_attempt, bodies_read}
use Rattle.agent_secrecy.proofs.PortLemmas.{tell-hidden}
use Rattle.agent_secrecy.proofs.ServeLemmas.{serve-hidden}
use Rattle.agent_secrecy.proofs.StateLemmas.{changed-hidden, exactly, shut-hidden}
use Rattle.agent_secrecy.proofs.StreamLemmas.{AreAlikeFronts, both_bad, both_more, both_whole}

-- what clients sent, blanked
abbrev pub blanked : ℕ → List ℕ → List ℕ
blanked number bytes = blank bytes

-- what comes of a request that was served, in a state without secrets
abbrev pub concluded_seen : ℕ → SeenServed → State → Seen
concluded_seen number served state = record {
  state = record state {
    held = served.held;
    under_way = served.work.under_way;
    ports = change_port number (tell served.work.verdict) state.ports;
  };
  put = served.work.put;
  closes = [];
}

-- what comes of a request that was served, of what isn't secret alone
abbrev pub taken_of : ℕ → Result ClientRequest MsgFault → Bool → Port → State → Seen
taken_of body_len read attempt port state =
    concluded_seen port.number (served_bare (serve read (asker_at state.moment port) state.held state.under_way))
    (changed port.number (take_frame body_len attempt) state)

module _ (keeps : (bytes : List ℕ) → length (hidden bytes) ≡ length bytes) where
  abbrev pub without_secrets : State → State
  without_secrets state = hide_state hidden blanked state

  abbrev pub seen_of : Outcome → Seen
  seen_of outcome = seen hidden blanked outcome

  -- ---- a request that is taken

  -- a frame leaves what was heard, blanked or not
  frame_by : (door : Door) (number count : ℕ) (bytes : List ℕ)
      → drop count (hide_heard blanked door number bytes) ≡ hide_heard blanked door number (drop count bytes)
  frame_by Clients number count bytes = blank-drop count bytes
  frame_by Children number count bytes = refl

  take_frame-hidden : (body_len : ℕ) (attempt : Bool) (port : Port)
      → take_frame body_len attempt (hide_port blanked port) ≡ hide_port blanked (take_frame body_len attempt port)
  take_frame-hidden body_len attempt port =
      ap (λ bytes. let p : Port = record port { heard = bytes; attempted = port.attempted || attempt } in p) (frame_by port.door port.number (4 + body_len) port.heard)

  module _ (heard : ℕ → List ℕ → List ℕ) where
    pub concluded-seen : (number : ℕ) (body : List ℕ) (served : Served) (state : State)
        → seen hidden heard (concluded number body served state) ≡ concluded_seen number (served_seen hidden served) (hide_state hidden heard state)
    concluded-seen number body served state =
        ap (λ ports. let new : Seen = record (seen hidden heard (concluded number body served state)) { state = record (hide_state hidden heard (concluded number body served state).state) { ports = ports } } in new)
        (sym (tell-hidden heard number served.work.verdict state.ports))

    -- a request that is taken, where a frame of another length goes in the other run
    pub taken-seen : (body_len other_len : ℕ) (attempt : Bool) (body : List ℕ) (read : Result ClientRequest MsgFault) (port : Port) (state : State) → ((one : Port) → find_port port.number state.ports ≡ Some one → take_frame other_len attempt (hide_port heard one) ≡ hide_port heard (take_frame body_len attempt one)) → seen hidden heard (concluded port.number body (serve read (asker_at state.moment port) state.held state.under_way) (changed port.number (take_frame body_len attempt) state)) ≡ taken_of other_len (hide_read hidden read) attempt (hide_port heard port) (hide_state hidden heard state)
    taken-seen body_len other_len attempt body read port state goes =
        concluded-seen port.number body (serve read (asker_at state.moment port) state.held state.under_way) (changed port.number (take_frame body_len attempt) state)
        ∙ ap (λ served. concluded_seen port.number served (hide_state hidden heard (changed port.number (take_frame body_len attempt) state))) (sym (serve-hidden hidden keeps read (asker_at state.moment port) state.held state.under_way))
        ∙ ap (concluded_seen port.number (served_bare (serve (hide_read hidden read) (asker_at state.moment port) (hide_held hidden state.held) (hide_under_way state.under_way))))
        (sym (changed-hidden hidden keeps heard port.number (take_frame body_len attempt) (take_frame other_len attempt) state goes))

    pub shut-seen : (number : ℕ) (state : State)
        → seen hidden heard (shut number state) ≡ bare (shut number (hide_state hidden heard state))
    shut-seen number state = sym (exactly hidden keeps heard (shut number state) _ (shut-hidden hidden keeps heard number state))

  taken-blanked : (body_len : ℕ) (body : List ℕ) (port : Port) (state : State)
      → seen_of (taken body_len body port state) ≡ taken_of body_len (hide_read hidden (agent_request_of body)) (attempts state.held.lock body) (hide_port blanked port) (without_secrets state)
  taken-blanked body_len body port state =
      let attempt = attempts state.held.lock body in
      taken-seen blanked body_len body_len attempt body (agent_request_of body) port state (λ one found. take_frame-hidden body_len attempt one)

  module _ (p q : Port) (s t : State) (same_port : hide_port blanked p ≡ hide_port blanked q) (same : without_secrets s ≡ without_secrets t) where
    taken-alike : (body_len : ℕ) (one other : List ℕ) → AreAlikeBodies one other
        → seen_of (taken body_len one p s) ≡ seen_of (taken body_len other q t)
    taken-alike body_len one other alike =
        taken-blanked body_len one p s
        ∙ ap (λ read. taken_of body_len read (attempts s.held.lock one) (hide_port blanked p) (without_secrets s)) (bodies_read one other alike)
        ∙ ap (λ attempt. taken_of body_len (hide_read hidden (agent_request_of other)) attempt (hide_port blanked p) (without_secrets s))
        (bodies_attempt s.held.lock one other alike ∙ ap (λ (x : State). attempts x.held.lock other) same)
        ∙ ap (λ port. taken_of body_len (hide_read hidden (agent_request_of other)) (attempts t.held.lock other) port (without_secrets s)) same_port
        ∙ ap (taken_of body_len (hide_read hidden (agent_request_of other)) (attempts t.held.lock other) (hide_port blanked q)) same
        ∙ sym (taken-blanked body_len other q t)

    closed-alike : seen_of (shut p.number s) ≡ seen_of (shut q.number t)
    closed-alike =
        shut-seen blanked p.number s
        ∙ ap (λ (port : Port). bare (shut port.number (without_secrets s))) same_port
        ∙ ap (λ state. bare (shut q.number state)) same
        ∙ sym (shut-seen blanked q.number t)

    pub look_front-alike : {f g : List ℕ} (one other : Front)
        → AreAlikeFronts p.heard q.heard f g one other
        → seen_of (look_front one p s) ≡ seen_of (look_front other q t)
    look_front-alike one other (both_whole body_len bodies streams) =
        taken-alike body_len (front_body body_len p.heard) (front_body body_len q.heard) bodies
    look_front-alike one other (both_bad first second) = closed-alike
    look_front-alike one other both_more =
        ap (λ state. let new : Seen = record { state = state; put = []; closes = [] } in new) same

    -- what is due is the same, by whether the client waits and is owed bytes
    due_by : {f g : List ℕ} (waits : Waits) (owed : List ℕ)
        → AreAlikeFronts p.heard q.heard f g (front longest_body p.heard) (front longest_body q.heard)
        → AreAlikeFronts p.heard q.heard f g (due_front waits owed p.heard) (due_front waits owed q.heard)
    due_by Nothing [] fronts = fronts
    due_by Nothing (byte ∷ bytes) fronts = both_more
    due_by (OnAsk ask) owed fronts = both_more
    due_by (OnConfirmation job) owed fronts = both_more

    pub due-alike : {f g : List ℕ}
        → AreAlikeFronts p.heard q.heard f g (front longest_body p.heard) (front longest_body q.heard)
        → AreAlikeFronts p.heard q.heard f g (due p) (due q)
    due-alike {f} {g} fronts =
        subst (λ (port : Port). AreAlikeFronts p.heard q.heard f g (due p) (due_front port.waits port.owed q.heard)) same_port (due_by p.waits p.owed fronts)

    pub looked-alike : {f g : List ℕ} (number : ℕ) → find_port number s.ports ≡ Some p
        → find_port number t.ports ≡ Some q
        → AreAlikeFronts p.heard q.heard f g (front longest_body p.heard) (front longest_body q.heard)
        → seen_of (looked number s) ≡ seen_of (looked number t)
    looked-alike number here there fronts =
        ap seen_of (looked-found number p s (due p) here refl)
        ∙ look_front-alike (due p) (due q) (due-alike fronts)
        ∙ sym (ap seen_of (looked-found number q t (due q) there refl))
