-- A client that is looked at, in a run and in that of what is told of it.
use Rattle.std.proofs.Common.{◌≡◌, ℕ, List, [], ◌∷◌, refl, sym, ap, subst, ◌∙◌, Bool, ◌||◌, Option, Some, None, Result}
use Rattle.std.specs.Option.{option_map}
use Rattle.world_ports.specs.declared.Door.{Door}
use Rattle.world_ports.specs.declared.Door.TheVariants.{Clients, Children}
use Rattle.wire_text.specs.Bounds.{longest_body}
use Rattle.wire_text.specs.Frames.{Bad, Front, More, Whole, after_front, front, front_body}
use Rattle.agent_msg.specs.declared.fault.MsgFault.{MsgFault}
use Rattle.agent_msg.specs.Requests.{ClientRequest, names_bind}
use Rattle.agent_model.specs.Binds.{agent_request_of}
use Rattle.agent_model.specs.Children.{changed, shut}
use Rattle.agent_model.specs.Dispatch.{Served, refuses, serve, unread}
use Rattle.agent_model.specs.Looks.{due, due_front}
use Rattle.agent_model.specs.State.{Nothing, OnAsk, OnConfirmation, Port, State, Waits, change_port, find_port}
use Rattle.agent_model.specs.Step.{asker_at, attempts, concluded, look_front, looked, take_frame, taken}
use Rattle.agent_model.specs.Verdicts.{Locked, Refuses, tell}
use Rattle.agent_model.proofs.ClientLemmas.{looked-found}
use Rattle.agent_secrecy.specs.Hiding.{Seen, bare, hide_heard, hide_held, hide_port, hide_read, hide_state, hide_under_way, seen, served_bare, served_seen}
use Rattle.agent_secrecy.specs.Secrets.{hidden}
use Rattle.agent_secrecy.proofs.LengthLemmas.{length-hidden_bytes}
use Rattle.agent_secrecy.proofs.LookLemmas.{concluded-seen, concluded_seen, shut-seen, taken-seen, taken_of}
use Rattle.agent_secrecy.proofs.PortLemmas.{tell-hidden}
use Rattle.agent_secrecy.proofs.ServeLemmas.{serve-hidden}
use Rattle.agent_secrecy.proofs.StateLemmas.{changed-hidden, exactly, shut-hidden}
use Rattle.replay_laws.specs.Redacting.{IsRenaming, as_is, blanked_seen, blanked_state, redacted_seen, redacted_state, relocked_outcome, relocked_state, renamed_read, told_at}
use Rattle.replay_laws.proofs.ReadLemmas.{Reads, as_read, unread_both}
use Rattle.replay_laws.proofs.RelockedLemmas.{serve-relocked}

-- ---- what comes of a request, in a state without secrets

-- a body that isn't read is refused, whatever is wrong with it
abbrev refused_of : ℕ → Bool → Port → State → Seen
refused_of body_len attempt port state = record {
  state = record (changed port.number (take_frame body_len attempt) state) {
    ports =
        change_port port.number (tell (Refuses Locked)) (changed port.number (take_frame body_len attempt) state).ports;
  };
  put = [];
  closes = [];
}

module _ (heard : ℕ → List ℕ → List ℕ) where
  refused-seen : (body_len other_len : ℕ) (attempt : Bool) (body : List ℕ) (what : MsgFault) (port : Port) (state : State)
      → ((one : Port) → find_port port.number state.ports ≡ Some one → take_frame other_len attempt (hide_port heard one) ≡ hide_port heard (take_frame body_len attempt one)) →
      seen hidden heard
      (concluded port.number body (refuses (unread what state.held.lock) state.held state.under_way) (changed port.number (take_frame body_len attempt) state))
      ≡ refused_of other_len attempt (hide_port heard port) (hide_state hidden heard state)
  refused-seen body_len other_len attempt body what port state goes =
      concluded-seen length-hidden_bytes heard port.number body (refuses (unread what state.held.lock) state.held state.under_way)
      (changed port.number (take_frame body_len attempt) state)
      ∙ ap
      (λ (left : State). concluded_seen port.number (served_seen hidden (refuses (unread what state.held.lock) state.held state.under_way)) left)
      (sym (changed-hidden hidden length-hidden_bytes heard port.number (take_frame body_len attempt) (take_frame other_len attempt) state goes))

-- a frame goes of what was heard as it is
stays : (body_len : ℕ) (attempt : Bool) (port : Port)
    → take_frame body_len attempt (hide_port as_is port) ≡ hide_port as_is (take_frame body_len attempt port)
stays body_len attempt port =
    ap (λ bytes. let p : Port = record port { heard = bytes; attempted = port.attempted || attempt } in p)
    (by_door port.door port.number port.heard)
  where
    by_door : (door : Door) (number : ℕ) (bytes : List ℕ)
        → after_front body_len (hide_heard as_is door number bytes)
        ≡ hide_heard as_is door number (after_front body_len bytes)
    by_door Clients number bytes = refl
    by_door Children number bytes = refl

attempts_renamed : (rename : List ℕ → List ℕ) (lock : Option (List ℕ)) (one other : List ℕ)
    → names_bind other ≡ names_bind one → attempts (option_map rename lock) other ≡ attempts lock one
attempts_renamed rename None one other same = same
attempts_renamed rename (Some passphrase) one other same = refl

module _ (rename : List ℕ → List ℕ) (renaming : IsRenaming rename) (told : List ℕ → List ℕ) where
  -- what stands at the front of these bytes, and of what is told of them
  pub data AreToldFronts (bytes : List ℕ) : Front → Front → Type 0 where
    both_whole : (body_len other_len : ℕ)
        → Reads rename (front_body body_len bytes) (front_body other_len (told bytes))
        → names_bind (front_body other_len (told bytes)) ≡ names_bind (front_body body_len bytes)
        → after_front other_len (told bytes) ≡ told (after_front body_len bytes)
        → AreToldFronts bytes (Whole body_len) (Whole other_len)
    both_bad : (one other : ℕ) → AreToldFronts bytes (Bad one) (Bad other)
    both_more : AreToldFronts bytes More More

  abbrev h : ℕ → List ℕ → List ℕ
  h number bytes = told bytes

  module _ (p q : Port) (s t : State) (same_port : hide_port (told_at told) p ≡ hide_port as_is q)
      (same : redacted_state rename told s ≡ blanked_state t) (client : p.door ≡ Clients)
      (found : find_port p.number s.ports ≡ Some p) where
    -- a frame goes of what is told as one goes of what was heard
    goes : (body_len other_len : ℕ) (attempt : Bool)
        → after_front other_len (told p.heard) ≡ told (after_front body_len p.heard) → (one : Port)
        → find_port p.number s.ports ≡ Some one
        → take_frame other_len attempt (hide_port (told_at told) one)
        ≡ hide_port (told_at told) (take_frame body_len attempt one)
    goes body_len other_len attempt after one there =
        let is : p ≡ one = (let both : Some p ≡ Some one = sym found ∙ there in cc) in
        subst
        (λ (x : Port). take_frame other_len attempt (hide_port (told_at told) x) ≡ hide_port (told_at told) (take_frame body_len attempt x)) is
        (ap (λ bytes. let new : Port = record p { heard = bytes; attempted = p.attempted || attempt } in new) (by_door p.door client))
      where
        by_door : (door : Door) → door ≡ Clients
            → after_front other_len (hide_heard (told_at told) door p.number p.heard)
            ≡ hide_heard (told_at told) door p.number (after_front body_len p.heard)
        by_door Clients is = after
        by_door Children is = absurd (cc)

    same_attempt : (one other : List ℕ) → names_bind other ≡ names_bind one
        → attempts t.held.lock other ≡ attempts s.held.lock one
    same_attempt one other names =
        ap (λ (x : State). attempts x.held.lock other) (sym same) ∙ attempts_renamed rename s.held.lock one other names

    taken-told : (body_len other_len : ℕ) (one other : List ℕ) → Reads rename one other
        → names_bind other ≡ names_bind one
        → after_front other_len (told p.heard) ≡ told (after_front body_len p.heard) →
        redacted_seen rename told (taken body_len one p s) ≡ blanked_seen (taken other_len other q t)
    taken-told body_len other_len one other (as_read reads) names after =
        let attempt = attempts s.held.lock one in
        ap
        (λ (served : Served). seen hidden (told_at told) (concluded p.number one served (changed p.number (take_frame body_len attempt) (relocked_state rename s))))
        (sym (serve-relocked rename renaming (agent_request_of one) (asker_at s.moment p) s.held s.under_way))
        ∙ taken-seen length-hidden_bytes (told_at told) body_len other_len attempt one (renamed_read rename (agent_request_of one)) p
        (relocked_state rename s) (goes body_len other_len attempt after)
        ∙ ap (λ read. taken_of other_len read attempt (hide_port (told_at told) p) (redacted_state rename told s))
        (sym reads)
        ∙ ap
        (λ a. taken_of other_len (hide_read hidden (agent_request_of other)) a (hide_port (told_at told) p) (redacted_state rename told s))
        (sym (same_attempt one other names))
        ∙ ap
        (λ port. taken_of other_len (hide_read hidden (agent_request_of other)) (attempts t.held.lock other) port (redacted_state rename told s)) same_port
        ∙ ap
        (taken_of other_len (hide_read hidden (agent_request_of other)) (attempts t.held.lock other) (hide_port as_is q)) same
        ∙ sym
        (taken-seen length-hidden_bytes as_is other_len other_len (attempts t.held.lock other) other (agent_request_of other) q t (λ port there. stays other_len (attempts t.held.lock other) port))
    taken-told body_len other_len one other (unread_both what whatever one_is other_is) names after =
        let attempt = attempts s.held.lock one in
        ap
        (λ read. seen hidden (told_at told) (relocked_outcome rename (concluded p.number one (serve read (asker_at s.moment p) s.held s.under_way) (changed p.number (take_frame body_len attempt) s)))) one_is
        ∙ refused-seen (told_at told) body_len other_len attempt one what p (relocked_state rename s)
        (goes body_len other_len attempt after)
        ∙ ap (λ a. refused_of other_len a (hide_port (told_at told) p) (redacted_state rename told s))
        (sym (same_attempt one other names))
        ∙ ap (λ port. refused_of other_len (attempts t.held.lock other) port (redacted_state rename told s)) same_port
        ∙ ap (refused_of other_len (attempts t.held.lock other) (hide_port as_is q)) same
        ∙ sym
        (refused-seen as_is other_len other_len (attempts t.held.lock other) other whatever q t (λ port there. stays other_len (attempts t.held.lock other) port))
        ∙ sym
        (ap (λ read. blanked_seen (concluded q.number other (serve read (asker_at t.moment q) t.held t.under_way) (changed q.number (take_frame other_len (attempts t.held.lock other)) t))) other_is)

    closed-told : redacted_seen rename told (shut p.number s) ≡ blanked_seen (shut q.number t)
    closed-told =
        shut-seen length-hidden_bytes (told_at told) p.number (relocked_state rename s)
        ∙ ap (λ (port : Port). bare (shut port.number (redacted_state rename told s))) same_port
        ∙ ap (λ state. bare (shut q.number state)) same
        ∙ sym (shut-seen length-hidden_bytes as_is q.number t)

    heard_is : q.heard ≡ told p.heard
    heard_is =
        sym (by_door as_is q.door q.number q.heard)
        ∙ sym (ap (λ (port : Port). port.heard) same_port)
        ∙ ap (λ door. hide_heard (told_at told) door p.number p.heard) client
      where
        by_door : (heard : ℕ → List ℕ → List ℕ) (door : Door) (number : ℕ) (bytes : List ℕ)
            → hide_heard as_is door number bytes ≡ bytes
        by_door heard Clients number bytes = refl
        by_door heard Children number bytes = refl

    look_front-told : (one other : Front) → AreToldFronts p.heard one other
        → redacted_seen rename told (look_front one p s) ≡ blanked_seen (look_front other q t)
    look_front-told one other (both_whole body_len other_len reads names after) =
        taken-told body_len other_len (front_body body_len p.heard)
        (front_body other_len (told p.heard)) reads names after
        ∙ ap (λ bytes. blanked_seen (taken other_len (front_body other_len bytes) q t)) (sym heard_is)
    look_front-told one other (both_bad first second) = closed-told
    look_front-told one other both_more =
        ap (λ state. let new : Seen = record { state = state; put = []; closes = [] } in new) same

    due_told_by : (waits : Waits) (owed : List ℕ)
        → AreToldFronts p.heard (front longest_body p.heard) (front longest_body (told p.heard))
        → AreToldFronts p.heard (due_front waits owed p.heard) (due_front waits owed (told p.heard))
    due_told_by Nothing [] fronts = fronts
    due_told_by Nothing (byte ∷ bytes) fronts = both_more
    due_told_by (OnAsk ask) owed fronts = both_more
    due_told_by (OnConfirmation job) owed fronts = both_more

    due-told : AreToldFronts p.heard (front longest_body p.heard) (front longest_body (told p.heard))
        → AreToldFronts p.heard (due p) (due q)
    due-told fronts =
        subst (λ bytes. AreToldFronts p.heard (due p) (due_front q.waits q.owed bytes)) (sym heard_is)
        (subst (λ (port : Port). AreToldFronts p.heard (due p) (due_front port.waits port.owed (told p.heard))) same_port (due_told_by p.waits p.owed fronts))

    pub looked-told : (number : ℕ) → find_port number s.ports ≡ Some p
        → find_port number t.ports ≡ Some q
        → AreToldFronts p.heard (front longest_body p.heard) (front longest_body (told p.heard))
        → redacted_seen rename told (looked number s) ≡ blanked_seen (looked number t)
    looked-told number here there fronts =
        ap (redacted_seen rename told) (looked-found number p s (due p) here refl)
        ∙ look_front-told (due p) (due q) (due-told fronts)
        ∙ sym (ap blanked_seen (looked-found number q t (due q) there refl))
