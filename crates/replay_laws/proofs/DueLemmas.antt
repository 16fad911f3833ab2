-- Nothing is to be taken of a client behind an event: it waits, or is owed bytes, or its request isn't whole.
use Rattle.std.proofs.Common.{◌≡◌, ◌≢◌, ℕ, suc, List, [], refl, sym, ap, subst, ◌∙◌, arith, inl, inr, Bool, Some, None}
use Rattle.std.proofs.lemmas.Bool.{cases_eq}
use Rattle.std.specs.Option.{option_map}
use Rattle.world_ports.specs.declared.Door.{Door}
use Rattle.world_ports.specs.declared.Door.TheVariants.{Clients}
use Rattle.world_ports.specs.declared.Moment.{Moment}
use Rattle.wire_text.specs.Bounds.{longest_body}
use Rattle.wire_text.specs.Frames.{Bad, Front, More, Whole, front_body}
use Rattle.wire_text.proofs.FrontLemmas.{front-short}
use Rattle.agent_model.specs.Actions.{Outcome}
use Rattle.agent_model.specs.Children.{changed, heard_more}
use Rattle.agent_model.specs.Events.{Happening, Joined, Heard, Ended, Took, Started, StartFailed, Tick}
use Rattle.agent_model.specs.Looks.{due, due_front}
use Rattle.agent_model.specs.Sound.{IsRising}
use Rattle.agent_model.specs.State.{Port, State, Waits, change_port, find_port, remove_port}
use Rattle.agent_model.specs.Step.{asker_at, attempts, handle, has_room, look_front, looked, take_frame, took_some}
use Rattle.agent_model.specs.Time.{at_moment}
use Rattle.agent_model.specs.Verdicts.{Verdict, tell}
use Rattle.agent_model.proofs.ClientLemmas.{handle-heard, handle-took, looked-found, took-child}
use Rattle.agent_model.proofs.MakeLemmas.{makes-handle}
use Rattle.agent_model.proofs.PortsLemmas.{find_port-apart, find_port-change_port, find_port-left, find_port-remove_port, found_number, rising-change_port}
use Rattle.agent_model.proofs.ServeLemmas.{serve-ends}
use Rattle.agent_model.proofs.NewsLemmas.{told-moment}
use Rattle.agent_model.proofs.BothLemmas.{IsChild}
use Rattle.agent_secrecy.proofs.LengthLemmas.{length-hidden_bytes}
use Rattle.agent_secrecy.proofs.QuietLemmas.{IsQuiet, moment_keeps, quiet_keeps}
use Rattle.agent_secrecy.proofs.TrackLemmas.{WasAt, admitted_found, another, that, was_at}
use Rattle.replay_laws.proofs.BusyLemmas.{Busies, Left, makes_left, news_left, same_left, served_busy}

-- ---- nothing is to be taken

-- of no client
abbrev pub NothingIsDue : State → Type 0
NothingIsDue state =
    (number : ℕ) (port : Port) → find_port number state.ports ≡ Some port → port.door ≡ Clients → due port ≡ More

-- nor of one that sent no more
due_left : (number : ℕ) (state : State) (port : Port) → NothingIsDue state
    → (left : Left number state.ports port)
    → port.door ≡ Clients → port.heard ≡ left.was.heard → due port ≡ More
due_left number state port none left client heard =
    elim left.busy [
      | inl kept ↦
          ap (λ (waits : Waits). due_front waits port.owed port.heard) kept.0
          ∙ ap (λ (owed : List ℕ). due_front left.was.waits owed port.heard) kept.1
          ∙ ap (due_front left.was.waits left.was.owed) heard
          ∙ none number left.was left.found (sym left.door ∙ client)
      | inr busy ↦ busy port.heard
    ]

-- as time passes
moment_left : (number : ℕ) (moment : Moment) (state : State) (port : Port)
    → IsRising 0 state.last_port state.ports
    → find_port number (at_moment moment state).ports ≡ Some port → Left number state.ports port
moment_left number moment state port rising found =
    news_left (told-moment moment state) number state.last_port port rising found

pub moment_due : (moment : Moment) (state : State) → IsRising 0 state.last_port state.ports
    → NothingIsDue state
    → NothingIsDue (at_moment moment state)
moment_due moment state rising none number port found client =
    let left = moment_left number moment state port rising found in
    due_left number state port none left client
    (moment_keeps length-hidden_bytes moment state number port left.was rising found client left.found)

-- a child process takes bytes
took_left : (number other count : ℕ) (state : State) (port : Port) → IsChild other state
    → find_port number (handle (Took other count) state).state.ports ≡ Some port → Left number state.ports port
took_left number other count state port child found =
    same_left number state.ports port (ap (find_port number) (sym (took-child other count state child)) ∙ found)

-- the events of no client
handle_left : (event : Happening) (state : State) (number : ℕ) (port : Port) → IsQuiet event state
    → IsRising 0 state.last_port state.ports → find_port number (handle event state).state.ports ≡ Some port
    → Left number state.ports port
handle_left (Joined door) state number port quiet rising found = absurd quiet
handle_left (Took other count) state number port quiet rising found =
    took_left number other count state port quiet found
handle_left (Heard other piece) state number port quiet rising found =
    makes_left (makes-handle (Heard other piece) state (λ door is. absurd (cc)))
    (λ at count is. absurd (cc)) number port rising found
handle_left (Ended other) state number port quiet rising found =
    makes_left (makes-handle (Ended other) state (λ door is. absurd (cc)))
    (λ at count is. absurd (cc)) number port rising found
handle_left (Started job ticket) state number port quiet rising found =
    makes_left (makes-handle (Started job ticket) state (λ door is. absurd (cc)))
    (λ at count is. absurd (cc)) number port rising found
handle_left (StartFailed job) state number port quiet rising found =
    makes_left (makes-handle (StartFailed job) state (λ door is. absurd (cc)))
    (λ at count is. absurd (cc)) number port rising found
handle_left Tick state number port quiet rising found =
    makes_left (makes-handle Tick state (λ door is. absurd (cc))) (λ at count is. absurd (cc)) number port rising found

pub quiet_due : (event : Happening) (state : State) → IsQuiet event state
    → IsRising 0 state.last_port state.ports
    → NothingIsDue state → NothingIsDue (handle event state).state
quiet_due event state quiet rising none number port found client =
    let left = handle_left event state number port quiet rising found in
    due_left number state port none left client
    (quiet_keeps length-hidden_bytes event state number port left.was rising quiet found client left.found)

pub joined_due : (door : Door) (state : State) → NothingIsDue state
    → NothingIsDue (handle (Joined door) state).state
joined_due door state none number port found client =
    elim
    (admitted_found (has_room door state.ports state.under_way) number (suc state.last_port) door state.ports port found) [
      | inl before ↦ none number port before client
      | inr new ↦ ap due (sym new.1) ∙ front-short longest_body [] (omega arith)
    ]

-- ---- a client that is looked at

-- of no client but this one
abbrev pub NothingElseIsDue : ℕ → State → Type 0
NothingElseIsDue at state =
    (number : ℕ)
    (port : Port) → number ≢ at → find_port number state.ports ≡ Some port → port.door ≡ Clients → due port ≡ More

-- the one whose frame is taken, or another
concluded_due : (at number body_len : ℕ) (attempt : Bool) (verdict : Verdict) (state : State) (port : Port)
    → Busies verdict → NothingElseIsDue at state
    → find_port number (change_port at (tell verdict) (change_port at (take_frame body_len attempt) state.ports))
    ≡ Some port
    → port.door ≡ Clients → due port ≡ More
concluded_due at number body_len attempt verdict state port busies none found client =
    by_told
    (was_at at number (tell verdict) (change_port at (take_frame body_len attempt) state.ports) port (λ x. refl) found)
  where
    by_taken : number ≢ at → WasAt at number (take_frame body_len attempt) state.ports port
        → due port ≡ More
    by_taken apart (that was is there new) = absurd (apart is)
    by_taken apart (another other there) = none number port apart there client

    by_told : WasAt at number (tell verdict) (change_port at (take_frame body_len attempt) state.ports) port
        → due port ≡ More
    by_told (that was is there new) = ap due (sym new) ∙ busies was.owed was.heard
    by_told (another apart there) =
        by_taken apart (was_at at number (take_frame body_len attempt) state.ports port (λ x. refl) there)

front_due : (answer : Front) (port : Port) (state : State) → IsRising 0 state.last_port state.ports
    → find_port port.number state.ports ≡ Some port → due port ≡ answer → NothingElseIsDue port.number state
    → NothingIsDue (look_front answer port state).state
front_due (Whole body_len) port state rising there is none number one found client =
    let body = front_body body_len port.heard in
    concluded_due port.number number body_len (attempts state.held.lock body) _ state one
    (served_busy (serve-ends (asker_at state.moment port) state.held state.under_way body)) none found client
front_due (Bad announced) port state rising there is none number one found client =
    none number one
    (λ same. let gone : find_port port.number (remove_port port.number state.ports) ≡ None = find_port-remove_port port.number 0 state.last_port state.ports rising in
    let both : Some one ≡ None =
    sym found ∙ ap (λ n. find_port n (remove_port port.number state.ports)) same ∙ gone in cc)
    (find_port-left number port.number 0 state.last_port state.ports one rising found) client
front_due More port state rising there is none number one found client = elim (cases_eq number port.number) [
  | inl same ↦
      ap due
      (let both : Some one ≡ Some port = sym found ∙ ap (λ n. find_port n state.ports) same ∙ there in let e : one ≡ port = cc in e)
      ∙ is
  | inr apart ↦ none number one apart found client
]

looked_due : (number : ℕ) (port : Port) (state : State) → IsRising 0 state.last_port state.ports
    → find_port number state.ports ≡ Some port → NothingElseIsDue number state
    → NothingIsDue (looked number state).state
looked_due number port state rising there none =
    let own : port.number ≡ number = found_number number state.ports port there in
    subst (λ (o : Outcome). NothingIsDue o.state) (sym (looked-found number port state (due port) there refl))
    (front_due (due port) port state rising (ap (λ n. find_port n state.ports) own ∙ there) refl (subst (λ n. NothingElseIsDue n state) (sym own) none))

changed_due : (number : ℕ) (f : Port → Port) (port : Port) (state : State)
    → ((x : Port) → (f x).number ≡ x.number)
    → IsRising 0 state.last_port state.ports → find_port number state.ports ≡ Some port → NothingIsDue state
    → NothingIsDue (looked number (changed number f state)).state
changed_due number f port state keeps rising there none =
    looked_due number (f port) (changed number f state)
    (rising-change_port number 0 state.last_port f state.ports keeps rising)
    (find_port-change_port number f state.ports keeps ∙ ap (option_map f) there)
    (λ other one apart found client. none other one (sym (find_port-apart other number f state.ports keeps apart) ∙ found) client)

pub heard_due : (number : ℕ) (piece : List ℕ) (port : Port) (state : State)
    → IsRising 0 state.last_port state.ports
    → find_port number state.ports ≡ Some port → port.door ≡ Clients → NothingIsDue state
    → NothingIsDue (handle (Heard number piece) state).state
heard_due number piece port state rising there client none =
    subst (λ (o : Outcome). NothingIsDue o.state) (sym (handle-heard number piece port state there client))
    (changed_due number (heard_more piece) port state (λ x. refl) rising there none)

pub took_due : (number count : ℕ) (port : Port) (state : State)
    → IsRising 0 state.last_port state.ports
    → find_port number state.ports ≡ Some port → port.door ≡ Clients → NothingIsDue state
    → NothingIsDue (handle (Took number count) state).state
took_due number count port state rising there client none =
    subst (λ (o : Outcome). NothingIsDue o.state) (sym (handle-took number count port state there client))
    (changed_due number (took_some count) port state (λ x. refl) rising there none)
