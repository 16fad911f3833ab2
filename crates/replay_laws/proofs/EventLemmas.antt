-- Moments and events, in a run and in that of what is told of it.
use Rattle.std.proofs.Common.{◌≡◌, ℕ, List, [], ◌++◌, refl, sym, ap, subst, ◌∙◌, Option, Some, None}
use Rattle.std.specs.Option.{option_map}
use Rattle.world_ports.specs.declared.Door.{Door}
use Rattle.world_ports.specs.declared.Door.TheVariants.{Clients, Children}
use Rattle.world_ports.specs.declared.Moment.{Moment}
use Rattle.wire_text.specs.Bounds.{longest_body}
use Rattle.wire_text.specs.Frames.{front}
use Rattle.agent_model.specs.Children.{changed, heard_more}
use Rattle.agent_model.specs.Events.{Happening, Joined, Heard, Ended, Took, Started, StartFailed, Tick}
use Rattle.agent_model.specs.State.{Port, State, change_port, find_port}
use Rattle.agent_model.specs.Step.{ended_at, handle, heard_at, join, looked, took_at, took_some}
use Rattle.agent_model.specs.Time.{at_moment}
use Rattle.agent_model.proofs.BothLemmas.{IsChild, both-ended, both-failed, both-heard, both-took}
use Rattle.agent_model.proofs.ClientLemmas.{handle-heard, handle-took}
use Rattle.agent_model.proofs.PortsLemmas.{find_port-change_port, found_number}
use Rattle.agent_secrecy.specs.Hiding.{bare, hide_heard, hide_port, hide_state, seen}
use Rattle.agent_secrecy.specs.Secrets.{hidden}
use Rattle.agent_secrecy.proofs.EventLemmas.{join-hidden}
use Rattle.agent_secrecy.proofs.LengthLemmas.{length-hidden_bytes}
use Rattle.agent_secrecy.proofs.MomentLemmas.{at_moment-hidden}
use Rattle.agent_secrecy.proofs.PortLemmas.{find_port-hidden}
use Rattle.agent_secrecy.proofs.QuietLemmas.{IsQuiet, quiet-hidden}
use Rattle.agent_secrecy.proofs.StateLemmas.{changed-hidden, exactly}
use Rattle.replay_laws.specs.Redacting.{IsRenaming, as_is, blanked_seen, blanked_state, redacted_seen, redacted_state, relocked_outcome, relocked_state, told_at}
use Rattle.replay_laws.proofs.LookLemmas.{AreToldFronts, looked-told}
use Rattle.replay_laws.proofs.RelockLemmas.{at_moment-relocked, relocks}

-- ---- a name for the passphrase that locks

module _ (rename : List ℕ → List ℕ) where
  heard_found : (found : Option Port) (number : ℕ) (piece : List ℕ) (state : State)
      → find_port number state.ports ≡ found → IsChild number state
      → heard_at found piece (relocked_state rename state) ≡ relocked_outcome rename (heard_at found piece state)
  heard_found None number piece state is child = refl
  heard_found (Some port) number piece state is child =
      both-heard _ _ (relocks rename) port state (relocked_state rename state) (child port is) refl piece
      (subst (λ n. IsChild n state) (sym (found_number number state.ports port is)) child)

  took_found : (found : Option Port) (number count : ℕ) (state : State)
      → find_port number state.ports ≡ found
      → IsChild number state
      → took_at found count (relocked_state rename state) ≡ relocked_outcome rename (took_at found count state)
  took_found None number count state is child = refl
  took_found (Some port) number count state is child =
      both-took _ _ (relocks rename) port state (relocked_state rename state) (child port is) refl count

  ended_found : (found : Option Port) (state : State)
      → ended_at found (relocked_state rename state) ≡ relocked_outcome rename (ended_at found state)
  ended_found None state = refl
  ended_found (Some port) state =
      both-ended _ _ (relocks rename) port state (relocked_state rename state) refl

  pub quiet-relocked : (event : Happening) (state : State) → IsQuiet event state
      → handle event (relocked_state rename state) ≡ relocked_outcome rename (handle event state)
  quiet-relocked (Joined door) state quiet = absurd quiet
  quiet-relocked (Heard port piece) state quiet =
      heard_found (find_port port state.ports) port piece state refl quiet
  quiet-relocked (Ended port) state quiet = ended_found (find_port port state.ports) state
  quiet-relocked (Took port count) state quiet =
      took_found (find_port port state.ports) port count state refl quiet
  quiet-relocked (Started job ticket) state quiet = refl
  quiet-relocked (StartFailed job) state quiet =
      both-failed _ _ (relocks rename) job state (relocked_state rename state) refl
  quiet-relocked Tick state quiet = refl

-- ---- both runs

module _ (rename : List ℕ → List ℕ) (renaming : IsRenaming rename) (told : List ℕ → List ℕ) where
  abbrev AreAlike : State → State → Type 0
  AreAlike s t = redacted_state rename told s ≡ blanked_state t

  -- a moment
  pub moment-told : (moment : Moment) (s t : State) → AreAlike s t
      → AreAlike (at_moment moment s) (at_moment moment t)
  moment-told moment s t same =
      ap (hide_state hidden (told_at told)) (sym (at_moment-relocked rename moment s))
      ∙ sym (at_moment-hidden hidden length-hidden_bytes (told_at told) moment (relocked_state rename s))
      ∙ ap (at_moment moment) same
      ∙ at_moment-hidden hidden length-hidden_bytes as_is moment t

  -- what no client sends or takes
  pub quiet-told : (event : Happening) (s t : State) → AreAlike s t → IsQuiet event s
      → IsQuiet event t
      → redacted_seen rename told (handle event s) ≡ blanked_seen (handle event t)
  quiet-told event s t same one other =
      ap (seen hidden (told_at told)) (sym (quiet-relocked rename event s one))
      ∙ sym (quiet-hidden length-hidden_bytes (told_at told) event (relocked_state rename s) (quiet_too event one))
      ∙ ap (λ state. bare (handle event state)) same
      ∙ quiet-hidden length-hidden_bytes as_is event t other
    where
      quiet_too : (what : Happening) → IsQuiet what s → IsQuiet what (relocked_state rename s)
      quiet_too (Joined door) quiet = quiet
      quiet_too (Heard port piece) quiet = quiet
      quiet_too (Ended port) quiet = quiet
      quiet_too (Took port count) quiet = quiet
      quiet_too (Started job ticket) quiet = quiet
      quiet_too (StartFailed job) quiet = quiet
      quiet_too Tick quiet = quiet

  -- a port joins
  pub joined-told : (door : Door) (s t : State) → told [] ≡ [] → AreAlike s t
      → redacted_seen rename told (handle (Joined door) s) ≡ blanked_seen (handle (Joined door) t)
  joined-told door s t none same =
      sym
      (exactly hidden length-hidden_bytes (told_at told) (join door (relocked_state rename s)) _ (join-hidden hidden length-hidden_bytes (told_at told) door (relocked_state rename s) none))
      ∙ ap (λ state. bare (join door state)) same
      ∙ exactly hidden length-hidden_bytes as_is (join door t) _
      (join-hidden hidden length-hidden_bytes as_is door t refl)

  -- ---- clients

  -- the port of this number in the other run
  pub record Pair (number : ℕ) (p : Port) (t : State) : Type 0 where
    pub port : Port
    pub found : find_port number t.ports ≡ Some port
    pub same : hide_port (told_at told) p ≡ hide_port as_is port

  paired : (number : ℕ) (a b : Option Port) (p : Port) (t : State)
      → option_map (hide_port (told_at told)) a ≡ option_map (hide_port as_is) b → a ≡ Some p
      → find_port number t.ports ≡ b → Pair number p t
  paired number a None p t same is there =
      absurd
      (let e : option_map (hide_port (told_at told)) (Some p) ≡ None = ap (option_map (hide_port (told_at told))) (sym is) ∙ same in cc)
  paired number a (Some q) p t same is there = record {
    port = q;
    found = there;
    same =
        (let e : Some (hide_port (told_at told) p) ≡ Some (hide_port as_is q) = ap (option_map (hide_port (told_at told))) (sym is) ∙ same in cc);
  }

  pub pair_of : (number : ℕ) (p : Port) (s t : State) → AreAlike s t
      → find_port number s.ports ≡ Some p
      → Pair number p t
  pair_of number p s t same found =
      paired number (find_port number s.ports) (find_port number t.ports) p t
      (sym (find_port-hidden (told_at told) number s.ports) ∙ ap (λ (x : State). find_port number x.ports) same ∙ find_port-hidden as_is number t.ports) found refl

  -- a client's port changes alike in both, and the client is looked at
  changed-told : (number : ℕ) (f g : Port → Port) (p : Port) (s t : State) → AreAlike s t
      → find_port number s.ports ≡ Some p → (f p).door ≡ Clients
      → ((x : Port) → (f x).number ≡ x.number) → ((x : Port) → (g x).number ≡ x.number)
      → g (hide_port (told_at told) p) ≡ hide_port (told_at told) (f p)
      → ((x : Port) → g (hide_port as_is x) ≡ hide_port as_is (g x))
      → AreToldFronts rename renaming told (f p).heard (front longest_body (f p).heard) (front longest_body (told (f p).heard))
      → redacted_seen rename told (looked number (changed number f s))
      ≡ blanked_seen (looked number (changed number g t))
  changed-told number f g p s t same found client f_keeps g_keeps here as_it_is fronts =
      let q = pair_of number p s t same found in
      let is : p.number ≡ number = found_number number s.ports p found in
      let found_f : find_port number (change_port number f s.ports) ≡ Some (f p) =
      find_port-change_port number f s.ports f_keeps ∙ ap (option_map f) found in
      let found_g : find_port number (change_port number g t.ports) ≡ Some (g q.port) =
      find_port-change_port number g t.ports g_keeps ∙ ap (option_map g) q.found in
      let only : (x : Port) → find_port number s.ports ≡ Some x → g (hide_port (told_at told) x) ≡ hide_port (told_at told) (f x) =
      λ x there. subst (λ (y : Port). g (hide_port (told_at told) y) ≡ hide_port (told_at told) (f y)) (let both : Some p ≡ Some x = sym found ∙ there in let e : p ≡ x = cc in e) here in
      looked-told rename renaming told (f p) (g q.port) (changed number f s) (changed number g t)
      (sym here ∙ ap g q.same ∙ as_it_is q.port)
      (sym (changed-hidden hidden length-hidden_bytes (told_at told) number f g (relocked_state rename s) only)
      ∙ ap (changed number g) same
      ∙ changed-hidden hidden length-hidden_bytes as_is number g g t (λ x there. as_it_is x))
      client (ap (λ n. find_port n (change_port number f s.ports)) (f_keeps p ∙ is) ∙ found_f)
      number found_f found_g fronts

  pub told_heard : (door : Door) (number : ℕ) (bytes : List ℕ) → door ≡ Clients
      → hide_heard (told_at told) door number bytes ≡ told bytes
  told_heard Clients number bytes is = refl
  told_heard Children number bytes is = absurd (cc)

  pub heard_as_is : (door : Door) (number : ℕ) (bytes : List ℕ)
      → hide_heard as_is door number bytes ≡ bytes
  heard_as_is Clients number bytes = refl
  heard_as_is Children number bytes = refl

  abbrev with_bytes : Port → List ℕ → Port
  with_bytes port bytes = record port { heard = bytes }

  -- a client sends a piece, and of it these bytes are told
  pub heard-told : (number : ℕ) (piece bytes : List ℕ) (p : Port) (s t : State) → AreAlike s t
      → find_port number s.ports ≡ Some p → p.door ≡ Clients
      → told (p.heard ++ piece) ≡ told p.heard ++ bytes
      → AreToldFronts rename renaming told (p.heard ++ piece) (front longest_body (p.heard ++ piece)) (front longest_body (told (p.heard ++ piece)))
      → redacted_seen rename told (handle (Heard number piece) s) ≡ blanked_seen (handle (Heard number bytes) t)
  heard-told number piece bytes p s t same found client is fronts =
      let q = pair_of number p s t same found in
      ap (redacted_seen rename told) (handle-heard number piece p s found client)
      ∙ changed-told number (heard_more piece) (heard_more bytes) p s t same found client (λ x. refl) (λ x. refl)
      (ap (with_bytes p) (ap (λ b. b ++ bytes) (told_heard p.door p.number p.heard client) ∙ sym is ∙ sym (told_heard p.door p.number (p.heard ++ piece) client)))
      (λ x. ap (λ b. with_bytes x (b ++ bytes)) (heard_as_is x.door x.number x.heard) ∙ ap (with_bytes x) (sym (heard_as_is x.door x.number (x.heard ++ bytes))))
      fronts
      ∙ sym
      (ap blanked_seen (handle-heard number bytes q.port t q.found (ap (λ (port : Port). port.door) (sym q.same) ∙ client)))

  -- a client takes bytes
  pub took-told : (number count : ℕ) (p : Port) (s t : State) → AreAlike s t
      → find_port number s.ports ≡ Some p
      → p.door ≡ Clients
      → AreToldFronts rename renaming told p.heard (front longest_body p.heard) (front longest_body (told p.heard))
      → redacted_seen rename told (handle (Took number count) s) ≡ blanked_seen (handle (Took number count) t)
  took-told number count p s t same found client fronts =
      let q = pair_of number p s t same found in
      ap (redacted_seen rename told) (handle-took number count p s found client)
      ∙ changed-told number (took_some count) (took_some count) p s t same found client (λ x. refl) (λ x. refl) refl
      (λ x. refl) fronts
      ∙ sym
      (ap blanked_seen (handle-took number count q.port t q.found (ap (λ (port : Port). port.door) (sym q.same) ∙ client)))
