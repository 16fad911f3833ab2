-- Two runs of alike lists of events, event by event.
use Rattle.std.proofs.Common.{◌≡◌, ◌≢◌, ℕ, suc, ◌<◌, List, [], ◌++◌, length, length-append, refl, sym, ap, subst, ◌∙◌, arith, append_assoc, inl, inr, Option, Some, None}
use Rattle.std.specs.Prelude.{◌⊎◌}
use Rattle.std.specs.Option.{option_map}
use Rattle.std.proofs.lemmas.Bool.{cases_eq}
use Rattle.std.proofs.lemmas.Bool.Decides.{nat_tests}
use Rattle.world_ports.specs.declared.Door.{Door}
use Rattle.world_ports.specs.declared.Door.TheVariants.{Clients, Children}
use Rattle.agent_model.specs.Actions.{Outcome, stay}
use Rattle.agent_model.specs.Children.{changed, heard_more}
use Rattle.agent_model.specs.Events.{Happening, Joined, Heard, Ended, Took, Started, StartFailed, Tick}
use Rattle.agent_model.specs.Looks.{due}
use Rattle.agent_model.specs.Sound.{IsSound}
use Rattle.agent_model.specs.State.{Port, State, change_port, find_port, new_port}
use Rattle.agent_model.specs.Step.{handle, has_room, heard_at, join, look_front, looked, took_some}
use Rattle.agent_model.proofs.ClientLemmas.{handle-heard, handle-took, looked-found}
use Rattle.agent_model.proofs.PortsLemmas.{find_port-change_port, found_number, found_within, rising-change_port}
use Rattle.agent_secrecy.specs.Secrets.{blank, hidden}
use Rattle.agent_secrecy.specs.Hiding.{Seen, bare, hide_heard, hide_port}
use Rattle.agent_secrecy.specs.Alike.{AreAlikeStreams, heard_in, hide_piece, shape}
use Rattle.agent_secrecy.proofs.BlankLemmas.{blank-append, length-blank}
use Rattle.agent_secrecy.proofs.PortLemmas.{find_port-hidden}
use Rattle.agent_secrecy.proofs.StateLemmas.{changed-hidden, exactly}
use Rattle.agent_model.proofs.BothLemmas.{IsChild}
use Rattle.agent_secrecy.proofs.EventLemmas.{join-hidden}
use Rattle.agent_secrecy.proofs.LengthLemmas.{length-hidden_bytes}
use Rattle.agent_secrecy.proofs.LookLemmas.{blanked, due-alike, looked-alike, seen_of as seen_by, without_secrets as without_by}
use Rattle.agent_secrecy.proofs.QuietLemmas.{IsQuiet, quiet-alike, quiet_keeps}
use Rattle.agent_secrecy.proofs.StreamLemmas.{AreAlikeFronts, alike_fronts}
use Rattle.agent_secrecy.proofs.TrackLemmas.{IsTracked, Streams, admitted_found, streams-changed, streams-looked, was_open}

abbrev pub without_secrets : State → State
without_secrets state = without_by length-hidden_bytes state

abbrev pub seen_of : Outcome → Seen
seen_of outcome = seen_by length-hidden_bytes outcome

-- two states of two runs, with these bytes of clients to come
pub record Tracks (door : ℕ → Door) (f g : ℕ → List ℕ) (s t : State) : Type 0 where
  pub same : without_secrets s ≡ without_secrets t
  pub one : IsTracked door s
  pub other : IsTracked door t
  pub streams : Streams door f g s.ports t.ports
  pub later : (number : ℕ) → s.last_port < number → door number ≡ Clients
      → AreAlikeStreams (f number) (g number)

-- ---- ports of both

found_pair : (h : Port → Port) (a b : Option Port) (p : Port) → option_map h a ≡ option_map h b
    → a ≡ Some p → (q : Port) × (b ≡ Some q) × (h p ≡ h q)
found_pair h a None p same is =
    absurd (let e : option_map h (Some p) ≡ None = ap (option_map h) (sym is) ∙ same in cc)
found_pair h a (Some q) p same is =
    (q, refl, (let e : Some (h p) ≡ Some (h q) = ap (option_map h) (sym is) ∙ same in cc))

-- a port that is open in one is open in the other
pub pair_of : (s t : State) (number : ℕ) (p : Port) → without_secrets s ≡ without_secrets t
    → find_port number s.ports ≡ Some p
    → (q : Port) × (find_port number t.ports ≡ Some q) × (hide_port blanked p ≡ hide_port blanked q)
pair_of s t number p same found =
    found_pair (hide_port blanked) (find_port number s.ports) (find_port number t.ports) p
    (sym (find_port-hidden blanked number s.ports) ∙ ap (λ (x : State). find_port number x.ports) same ∙ find_port-hidden blanked number t.ports) found

-- ---- an event in both: the same, or bytes of a client

pub data ArePair (door : ℕ → Door) : Happening → Happening → Type 0 where
  same_event : (event : Happening) → ArePair door event event
  pieces : (port : ℕ) (one other : List ℕ)
      → hide_piece (door port) one ≡ hide_piece (door port) other
      → ArePair door (Heard port one) (Heard port other)

pub pair : (door : ℕ → Door) (one other : Happening) → shape door one ≡ shape door other
    → ArePair door one other
pair door (Joined through) (Joined other) same = subst (λ d. ArePair door (Joined through) (Joined d)) (let e : through ≡ other = cc in e) (same_event (Joined through))
pair door (Heard port piece) (Heard other bytes) same =
    let is : port ≡ other = cc in
    let alike : hide_piece (door port) piece ≡ hide_piece (door other) bytes = cc in
    subst (λ n. ArePair door (Heard port piece) (Heard n bytes)) is (pieces port piece bytes (alike ∙ ap (λ n. hide_piece (door n) bytes) (sym is)))
pair door (Ended port) (Ended other) same = subst (λ n. ArePair door (Ended port) (Ended n)) (let e : port ≡ other = cc in e) (same_event (Ended port))
pair door (Took port count) (Took other number) same =
    let is : port ≡ other = cc in
    let count_is : count ≡ number = cc in
    subst (λ n. ArePair door (Took port count) (Took n number)) is (subst (λ n. ArePair door (Took port count) (Took port n)) count_is (same_event (Took port count)))
pair door (Started job ticket) (Started other bytes) same =
    let is : job ≡ other = cc in
    let ticket_is : ticket ≡ bytes = cc in
    subst (λ n. ArePair door (Started job ticket) (Started n bytes)) is (subst (λ b. ArePair door (Started job ticket) (Started job b)) ticket_is (same_event (Started job ticket)))
pair door (StartFailed job) (StartFailed other) same = subst (λ n. ArePair door (StartFailed job) (StartFailed n)) (let e : job ≡ other = cc in e) (same_event (StartFailed job))
pair door Tick Tick same = same_event Tick
pair door one other same = absurd (cc)

-- ---- what comes of it

pub record After (door : ℕ → Door) (f g : ℕ → List ℕ) (o u : Outcome) : Type 0 where
  pub seen : seen_of o ≡ seen_of u
  pub streams : Streams door f g o.state.ports u.state.ports

-- the bytes to come, before an event
abbrev before : Happening → (ℕ → List ℕ) → ℕ → List ℕ
before event f number = heard_in number event ++ f number

module _ (door : ℕ → Door) (f g : ℕ → List ℕ) where
  -- a quiet event brings nothing of a client
  silent : (event : Happening) (state : State) (number : ℕ) (port : Port) → IsQuiet event state
      → find_port number state.ports ≡ Some port → port.door ≡ Clients → heard_in number event ≡ []
  silent (Joined through) state number port quiet found client = refl
  silent (Heard other piece) state number port quiet found client = elim (cases_eq number other) [
    | inl same ↦ absurd (let child : port.door ≡ Children = quiet port (ap (λ n. find_port n state.ports) (sym same) ∙ found) in let e : Clients ≡ Children = sym client ∙ child in cc)
    | inr apart ↦ grind (arith, nat_tests)
  ]
  silent (Ended other) state number port quiet found client = refl
  silent (Took other count) state number port quiet found client = refl
  silent (Started job ticket) state number port quiet found client = refl
  silent (StartFailed job) state number port quiet found client = refl
  silent Tick state number port quiet found client = refl

  quiet-after : (event : Happening) (s t : State) → ((d : Door) → event ≡ Joined d → ⊥)
      → IsQuiet event s → IsQuiet event t → Tracks door (before event f) (before event g) s t
      → After door f g (handle event s) (handle event t)
  quiet-after event s t other one two tracks = record {
    seen = quiet-alike length-hidden_bytes event s t tracks.same one two;
    streams = λ number p q at_p at_q client.
        let was = was_open event s other tracks.one.sound number p at_p in
        let other_was = was_open event t other tracks.other.sound number q at_q in
        let was_client : was.0.door ≡ Clients = tracks.one.doors number was.0 was.1 ∙ client in
        let other_client : other_was.0.door ≡ Clients = tracks.other.doors number other_was.0 other_was.1 ∙ client in
        let p_is = quiet_keeps length-hidden_bytes event s number p was.0 tracks.one.sound.rising one at_p (was.2 ∙ was_client) was.1 in
        let q_is = quiet_keeps length-hidden_bytes event t number q other_was.0 tracks.other.sound.rising two at_q (other_was.2 ∙ other_client) other_was.1 in
        let old : AreAlikeStreams (was.0.heard ++ before event f number) (other_was.0.heard ++ before event g number) = tracks.streams number was.0 other_was.0 was.1 other_was.1 client in
        let none : heard_in number event ≡ [] = silent event s number was.0 one was.1 was_client in
        subst (λ bytes. AreAlikeStreams (bytes ++ f number) (q.heard ++ g number)) (sym p_is)
        (subst (λ bytes. AreAlikeStreams (was.0.heard ++ f number) (bytes ++ g number)) (sym q_is)
        (subst (λ bytes. AreAlikeStreams (was.0.heard ++ (bytes ++ f number)) (other_was.0.heard ++ (bytes ++ g number))) none old));
  }

  -- ---- a port joins

  joined-seen : (through : Door) (state : State)
      → seen_of (join through state) ≡ bare (join through (without_secrets state))
  joined-seen through state =
      sym (exactly hidden length-hidden_bytes blanked (join through state) _ (join-hidden hidden length-hidden_bytes blanked through state refl))

  joined-after : (through : Door) (s t : State) → Tracks door f g s t
      → After door f g (handle (Joined through) s) (handle (Joined through) t)
  joined-after through s t tracks = record {
    seen = joined-seen through s ∙ ap (λ state. bare (join through state)) tracks.same ∙ sym (joined-seen through t);
    streams = λ number p q at_p at_q client.
        by_both number p q client
        (admitted_found (has_room through s.ports s.under_way) number (suc s.last_port) through s.ports p at_p)
        (admitted_found (has_room through t.ports t.under_way) number (suc t.last_port) through t.ports q at_q);
  }
    where
      same_last : s.last_port ≡ t.last_port
      same_last = ap (λ (x : State). x.last_port) tracks.same

      above : (number : ℕ) (p : Port) (state : State) → IsSound state
          → find_port number state.ports ≡ Some p → number ≡ suc state.last_port → ⊥
      above number p state sound found is =
          let within = found_within number 0 state.last_port state.ports p sound.rising found in omega (arith, within, is)

      by_both : (number : ℕ) (p q : Port) → door number ≡ Clients
          → (find_port number s.ports ≡ Some p) ⊎ ((number ≡ suc s.last_port) × (new_port (suc s.last_port) through ≡ p))
          → (find_port number t.ports ≡ Some q) ⊎ ((number ≡ suc t.last_port) × (new_port (suc t.last_port) through ≡ q))
          → AreAlikeStreams (p.heard ++ f number) (q.heard ++ g number)
      by_both number p q client (inl at_p) (inl at_q) = tracks.streams number p q at_p at_q client
      by_both number p q client (inl at_p) (inr new) =
          absurd (above number p s tracks.one.sound at_p (new.0 ∙ ap suc (sym same_last)))
      by_both number p q client (inr new) (inl at_q) =
          absurd (above number q t tracks.other.sound at_q (new.0 ∙ ap suc same_last))
      by_both number p q client (inr new) (inr other_new) =
          subst (λ (x : Port). AreAlikeStreams (x.heard ++ f number) (q.heard ++ g number)) new.1
          (subst (λ (x : Port). AreAlikeStreams (f number) (x.heard ++ g number)) other_new.1
          (tracks.later number (omega (arith, new.0)) client))

  -- ---- a client is looked at, after its port was changed in both

  module _ (number : ℕ) (one two : Port → Port) (p q : Port) (s t : State) (tracks_one : IsTracked door s) (tracks_other : IsTracked door t) (at_p : find_port number s.ports ≡ Some p) (at_q : find_port number t.ports ≡ Some q) (client : door number ≡ Clients) (keeps_one : (x : Port) → (one x).number ≡ x.number) (keeps_two : (x : Port) → (two x).number ≡ x.number) where
    abbrev s1 : State
    s1 = changed number one s

    abbrev t1 : State
    t1 = changed number two t

    pub look-after : without_secrets s1 ≡ without_secrets t1
        → hide_port blanked (one p) ≡ hide_port blanked (two q)
        → length (one p).heard ≡ length (two q).heard → Streams door f g s1.ports t1.ports
        → After door f g (looked number s1) (looked number t1)
    look-after same same_port lengths streams =
        let found_p : find_port number s1.ports ≡ Some (one p) = find_port-change_port number one s.ports keeps_one ∙ ap (option_map one) at_p in
        let found_q : find_port number t1.ports ≡ Some (two q) = find_port-change_port number two t.ports keeps_two ∙ ap (option_map two) at_q in
        let number_p : (one p).number ≡ number = found_number number s1.ports (one p) found_p in
        let number_q : (two q).number ≡ number = found_number number t1.ports (two q) found_q in
        let alike : AreAlikeStreams ((one p).heard ++ f number) ((two q).heard ++ g number) = streams number (one p) (two q) found_p found_q client in
        let fronts = alike_fronts (one p).heard (two q).heard (f number) (g number) lengths alike in
        let dues = due-alike length-hidden_bytes (one p) (two q) s1 t1 same_port same fronts in
        record {
          seen = looked-alike length-hidden_bytes (one p) (two q) s1 t1 same_port same number found_p found_q fronts;
          streams =
              subst (λ (o : Outcome). Streams door f g o.state.ports (looked number t1).state.ports) (sym (looked-found number (one p) s1 (due (one p)) found_p refl))
              (subst (λ (o : Outcome). Streams door f g (look_front (due (one p)) (one p) s1).state.ports o.state.ports) (sym (looked-found number (two q) t1 (due (two q)) found_q refl))
              (streams-looked door (one p) (two q) s1 t1 f g (due (one p)) (due (two q))
              (rising-change_port number 0 s.last_port one s.ports keeps_one tracks_one.sound.rising) (rising-change_port number 0 t.last_port two t.ports keeps_two tracks_other.sound.rising) (number_q ∙ sym number_p)
              (ap (λ n. find_port n s1.ports) number_p ∙ found_p) (ap (λ n. find_port n t1.ports) number_p ∙ found_q)
              (subst (λ n. AreAlikeFronts (one p).heard (two q).heard (f n) (g n) (due (one p)) (due (two q))) (sym number_p) dues) streams));
        }

-- ---- what a client sends and takes

-- what a client sent more, blanked or not
more_by : (through : Door) (number : ℕ) (bytes piece : List ℕ) → through ≡ Clients
    → hide_heard blanked through number bytes ++ blank piece ≡ hide_heard blanked through number (bytes ++ piece)
more_by Clients number bytes piece is = sym (blank-append bytes piece)
more_by Children number bytes piece is = absurd (cc)

more-hidden : (piece : List ℕ) (port : Port) → port.door ≡ Clients
    → heard_more (blank piece) (hide_port blanked port) ≡ hide_port blanked (heard_more piece port)
more-hidden piece port client = ap (λ bytes. let p : Port = record port { heard = bytes } in p) (more_by port.door port.number port.heard piece client)

pub heard_lengths : (p q : Port) → hide_port blanked p ≡ hide_port blanked q → p.door ≡ Clients
    → q.door ≡ Clients → length p.heard ≡ length q.heard
heard_lengths p q same one other =
    let p_is : (hide_port blanked p).heard ≡ blank p.heard = ap (λ d. hide_heard blanked d p.number p.heard) one in
    let q_is : (hide_port blanked q).heard ≡ blank q.heard = ap (λ d. hide_heard blanked d q.number q.heard) other in
    let both : blank p.heard ≡ blank q.heard = sym p_is ∙ ap (λ (x : Port). x.heard) same ∙ q_is in
    sym (length-blank p.heard) ∙ ap length both ∙ length-blank q.heard

pub own_piece : (number : ℕ) (piece : List ℕ) → heard_in number (Heard number piece) ≡ piece
own_piece number piece = grind (arith, nat_tests)

pub no_piece : (number other : ℕ) (piece : List ℕ) → number ≢ other
    → heard_in number (Heard other piece) ≡ []
no_piece number other piece apart = grind (arith, nat_tests)

module _ (door : ℕ → Door) (f g : ℕ → List ℕ) (s t : State) where
  module _ (number : ℕ) (p q : Port) (at_p : find_port number s.ports ≡ Some p) (at_q : find_port number t.ports ≡ Some q) (same_port : hide_port blanked p ≡ hide_port blanked q) (client : door number ≡ Clients) where
    heard-after : (one other : List ℕ) → blank one ≡ blank other
        → Tracks door (before (Heard number one) f) (before (Heard number other) g) s t
        → After door f g (handle (Heard number one) s) (handle (Heard number other) t)
    heard-after one other alike tracks =
        let p_client : p.door ≡ Clients = tracks.one.doors number p at_p ∙ client in
        let q_client : q.door ≡ Clients = tracks.other.doors number q at_q ∙ client in
        let same : without_secrets (changed number (heard_more one) s) ≡ without_secrets (changed number (heard_more other) t) =
        sym (changed-hidden hidden length-hidden_bytes blanked number (heard_more one) (heard_more (blank one)) s (λ port found. more-hidden one port (tracks.one.doors number port found ∙ client)))
        ∙ ap (λ bytes. changed number (heard_more bytes) (without_secrets s)) alike
        ∙ ap (changed number (heard_more (blank other))) tracks.same
        ∙ changed-hidden hidden length-hidden_bytes blanked number (heard_more other) (heard_more (blank other)) t (λ port found. more-hidden other port (tracks.other.doors number port found ∙ client)) in
        let same_more : hide_port blanked (heard_more one p) ≡ hide_port blanked (heard_more other q) =
        sym (more-hidden one p p_client) ∙ ap (λ bytes. heard_more bytes (hide_port blanked p)) alike ∙ ap (heard_more (blank other)) same_port ∙ more-hidden other q q_client in
        let lengths : length (p.heard ++ one) ≡ length (q.heard ++ other) =
        omega (arith, length-append p.heard one, length-append q.heard other, heard_lengths p q same_port p_client q_client, sym (length-blank one) ∙ ap length alike ∙ length-blank other) in
        let streams : Streams door f g (change_port number (heard_more one) s.ports) (change_port number (heard_more other) t.ports) =
        streams-changed door number number (heard_more one) (heard_more other) (before (Heard number one) f) (before (Heard number other) g) f g s.ports t.ports refl (λ x. refl) (λ x. refl)
        (λ x y at_x at_y is_client.
        subst (λ bytes. AreAlikeStreams bytes ((y.heard ++ other) ++ g number)) (sym (append_assoc x.heard one (f number)))
        (subst (AreAlikeStreams (x.heard ++ (one ++ f number))) (sym (append_assoc y.heard other (g number)))
        (subst (λ bytes. AreAlikeStreams (x.heard ++ (bytes ++ f number)) (y.heard ++ (other ++ g number))) (own_piece number one)
        (subst (λ bytes. AreAlikeStreams (x.heard ++ before (Heard number one) f number) (y.heard ++ (bytes ++ g number))) (own_piece number other)
        (tracks.streams number x y at_x at_y is_client)))))
        (λ m apart. (ap (λ bytes. bytes ++ f m) (no_piece m number one apart), ap (λ bytes. bytes ++ g m) (no_piece m number other apart)))
        tracks.streams in
        let after = look-after door f g number (heard_more one) (heard_more other) p q s t tracks.one tracks.other at_p at_q client (λ x. refl) (λ x. refl) same same_more lengths streams in
        subst (λ o. After door f g o (handle (Heard number other) t)) (sym (handle-heard number one p s at_p p_client))
        (subst (After door f g (looked number (changed number (heard_more one) s))) (sym (handle-heard number other q t at_q q_client)) after)

    took-after : (count : ℕ) → Tracks door f g s t
        → After door f g (handle (Took number count) s) (handle (Took number count) t)
    took-after count tracks =
        let p_client : p.door ≡ Clients = tracks.one.doors number p at_p ∙ client in
        let q_client : q.door ≡ Clients = tracks.other.doors number q at_q ∙ client in
        let same : without_secrets (changed number (took_some count) s) ≡ without_secrets (changed number (took_some count) t) =
        sym (changed-hidden hidden length-hidden_bytes blanked number (took_some count) (took_some count) s (λ port found. refl))
        ∙ ap (changed number (took_some count)) tracks.same
        ∙ changed-hidden hidden length-hidden_bytes blanked number (took_some count) (took_some count) t (λ port found. refl) in
        let streams : Streams door f g (change_port number (took_some count) s.ports) (change_port number (took_some count) t.ports) =
        streams-changed door number number (took_some count) (took_some count) f g f g s.ports t.ports refl (λ x. refl) (λ x. refl)
        (λ x y at_x at_y is_client. tracks.streams number x y at_x at_y is_client) (λ m apart. (refl, refl)) tracks.streams in
        let after = look-after door f g number (took_some count) (took_some count) p q s t tracks.one tracks.other at_p at_q client (λ x. refl) (λ x. refl) same (ap (took_some count) same_port) (heard_lengths p q same_port p_client q_client) streams in
        subst (λ o. After door f g o (handle (Took number count) t)) (sym (handle-took number count p s at_p p_client))
        (subst (After door f g (looked number (changed number (took_some count) s))) (sym (handle-took number count q t at_q q_client)) after)

-- ---- every event

-- a child process's port in one is one in the other
child_too : (s t : State) (number : ℕ) → without_secrets s ≡ without_secrets t → IsChild number s
    → IsChild number t
child_too s t number same child q found =
    let was = pair_of t s number q (sym same) found in
    ap (λ (x : Port). x.door) was.2 ∙ child was.0 was.1

found_child : (state : State) (number : ℕ) (port : Port) → find_port number state.ports ≡ Some port
    → port.door ≡ Children → IsChild number state
found_child state number port found is other other_found =
    let same : port ≡ other = (let both : Some port ≡ Some other = sym found ∙ other_found in cc) in
    ap (λ (x : Port). x.door) (sym same) ∙ is

absent_child : (state : State) (number : ℕ) → find_port number state.ports ≡ None
    → IsChild number state
absent_child state number absent port found =
    absurd (let e : None ≡ Some port = sym absent ∙ found in cc)

absent_too : (s t : State) (number : ℕ) → without_secrets s ≡ without_secrets t
    → find_port number s.ports ≡ None → find_port number t.ports ≡ None
absent_too s t number same absent = by_found (find_port number t.ports) refl
  where
    by_found : (found : Option Port) → find_port number t.ports ≡ found
        → find_port number t.ports ≡ None
    by_found None is = is
    by_found (Some q) is = absurd (let p = pair_of t s number q (sym same) is in let e : None ≡ Some p.0 = sym absent ∙ p.1 in cc)

not_there : (state : State) (number other : ℕ) (port : Port) → find_port number state.ports ≡ None
    → find_port other state.ports ≡ Some port → other ≢ number
not_there state number other port absent found same = let e : None ≡ Some port = sym absent ∙ ap (λ n. find_port n state.ports) (sym same) ∙ found in cc

module _ (door : ℕ → Door) (f g : ℕ → List ℕ) (s t : State) where
  pieces-by : (through : Door) (port : ℕ) (one other : List ℕ) (p : Port) → door port ≡ through
      → find_port port s.ports ≡ Some p → hide_piece through one ≡ hide_piece through other
      → Tracks door (before (Heard port one) f) (before (Heard port other) g) s t
      → After door f g (handle (Heard port one) s) (handle (Heard port other) t)
  pieces-by Clients port one other p is found alike tracks =
      let q = pair_of s t port p tracks.same found in
      heard-after door f g s t port p q.0 found q.1 q.2 is one other alike tracks
  pieces-by Children port one other p is found alike tracks =
      let child : IsChild port s = found_child s port p found (tracks.one.doors port p found ∙ is) in
      subst (λ bytes. Tracks door (before (Heard port one) f) (before (Heard port bytes) g) s t → After door f g (handle (Heard port one) s) (handle (Heard port bytes) t)) alike
      (λ same_tracks. quiet-after door f g (Heard port one) s t (λ d e. absurd (cc)) child (child_too s t port same_tracks.same child) same_tracks) tracks

  -- where the port isn't open, nothing comes of it
  absent-after : (port : ℕ) (one other : List ℕ) → find_port port s.ports ≡ None
      → find_port port t.ports ≡ None
      → Tracks door (before (Heard port one) f) (before (Heard port other) g) s t
      → After door f g (handle (Heard port one) s) (handle (Heard port other) t)
  absent-after port one other absent other_absent tracks =
      subst (λ o. After door f g o (handle (Heard port other) t)) (sym (ap (λ found. heard_at found one s) absent))
      (subst (After door f g (stay s)) (sym (ap (λ found. heard_at found other t) other_absent)) (record {
        seen = ap (λ (x : State). let y : Seen = record { state = x; put = []; closes = [] } in y) tracks.same;
        streams = λ number p q at_p at_q client.
            let apart = not_there s port number p absent at_p in
            subst (λ bytes. AreAlikeStreams (p.heard ++ (bytes ++ f number)) (q.heard ++ g number)) (no_piece number port one apart)
            (subst (λ bytes. AreAlikeStreams (p.heard ++ before (Heard port one) f number) (q.heard ++ (bytes ++ g number))) (no_piece number port other apart)
            (tracks.streams number p q at_p at_q client));
      }))

  pieces-after : (port : ℕ) (one other : List ℕ) (found : Option Port)
      → find_port port s.ports ≡ found → hide_piece (door port) one ≡ hide_piece (door port) other
      → Tracks door (before (Heard port one) f) (before (Heard port other) g) s t
      → After door f g (handle (Heard port one) s) (handle (Heard port other) t)
  pieces-after port one other None is alike tracks =
      absent-after port one other is (absent_too s t port tracks.same is) tracks
  pieces-after port one other (Some p) is alike tracks =
      pieces-by (door port) port one other p refl is alike tracks

  took-by : (through : Door) (port count : ℕ) (p : Port) → door port ≡ through
      → find_port port s.ports ≡ Some p → Tracks door f g s t
      → After door f g (handle (Took port count) s) (handle (Took port count) t)
  took-by Clients port count p is found tracks =
      let q = pair_of s t port p tracks.same found in
      took-after door f g s t port p q.0 found q.1 q.2 is count tracks
  took-by Children port count p is found tracks =
      let child : IsChild port s = found_child s port p found (tracks.one.doors port p found ∙ is) in
      quiet-after door f g (Took port count) s t (λ d e. absurd (cc)) child (child_too s t port tracks.same child) tracks

  took_found : (port count : ℕ) (found : Option Port) → find_port port s.ports ≡ found
      → Tracks door f g s t
      → After door f g (handle (Took port count) s) (handle (Took port count) t)
  took_found port count None is tracks =
      let child : IsChild port s = absent_child s port is in
      quiet-after door f g (Took port count) s t (λ d e. absurd (cc)) child (child_too s t port tracks.same child) tracks
  took_found port count (Some p) is tracks = took-by (door port) port count p refl is tracks

  same-after : (event : Happening) → Tracks door (before event f) (before event g) s t
      → After door f g (handle event s) (handle event t)
  same-after (Joined through) tracks = joined-after door f g through s t tracks
  same-after (Heard port piece) tracks =
      pieces-after port piece piece (find_port port s.ports) refl refl tracks
  same-after (Ended port) tracks =
      quiet-after door f g (Ended port) s t (λ d e. absurd (cc)) tt tt tracks
  same-after (Took port count) tracks = took_found port count (find_port port s.ports) refl tracks
  same-after (Started job ticket) tracks =
      quiet-after door f g (Started job ticket) s t (λ d e. absurd (cc)) tt tt tracks
  same-after (StartFailed job) tracks =
      quiet-after door f g (StartFailed job) s t (λ d e. absurd (cc)) tt tt tracks
  same-after Tick tracks = quiet-after door f g Tick s t (λ d e. absurd (cc)) tt tt tracks

  pub handle-after : (one other : Happening) → ArePair door one other
      → Tracks door (before one f) (before other g) s t
      → After door f g (handle one s) (handle other t)
  handle-after one other (same_event event) tracks = same-after event tracks
  handle-after one other (pieces port first second alike) tracks =
      pieces-after port first second (find_port port s.ports) refl alike tracks
