-- What an event makes of what the link has heard: it brings bytes of the helper's stream, or they stay, but for a loss.
use Rattle.std.proofs.Common.{◌≡◌, ◌≢◌, ◌⊎◌, inl, inr, ◌==◌, ℕ, List, ◌++◌, arith, refl, ap, sym, subst, ◌∙◌, Option, Some, None, Bool, true, false, if◌then◌else◌, Result, Ok, Err}
use Rattle.std.specs.Str.{bytes_eq}
use Rattle.std.proofs.lemmas.Bool.Decides.{nat_tests}
use Rattle.std.proofs.lemmas.Slice.Eq.{bytes_eq-Decides}
use Rattle.world_ports.specs.declared.Door.{Door}
use Rattle.world_ports.specs.declared.Door.TheVariants.{Children, Clients}
use Rattle.world_ports.specs.declared.JobKind.{JobKind}
use Rattle.world_ports.specs.declared.JobKind.TheVariants as kinds
use Rattle.wire_text.specs.Bounds.{longest_body}
use Rattle.wire_text.specs.Frames.{Bad, Front, More, Whole, after_front, front, front_body}
use Rattle.child_msg.specs.Messages.{Denied, False, FromChildMessage, Granted as GrantedMessage, Hello, Refused, Signed, True}
use Rattle.child_msg.specs.Reading.{from_child_of}
use Rattle.child_msg.specs.declared.fault.ChildFault.{ChildFault}
use Rattle.confirm_desk.specs.Confirmations.{consent, find_job, find_linked}
use Rattle.helper_link.specs.declared.state.LinkState.TheVariants as states
use Rattle.agent_model.specs.Actions.{Outcome}
use Rattle.agent_model.specs.Children.{changed, confirmer_named, first_frame, first_message, heard_more, hello_heard, named_by, shut}
use Rattle.agent_model.specs.Consents.{find_started}
use Rattle.agent_model.specs.Events.{Ended, Happening, Heard, Joined, StartFailed, Started, Tick, Took}
use Rattle.agent_model.specs.State.{Client, Confirmer, Helper, Port, Role, StartedJob, State, UnderWay, Unnamed, find_port, find_to_start, is_linked_to, role_by_helper, role_of}
use Rattle.agent_model.specs.Step.{handle, heard_at, heard_by_role}
use Rattle.agent_model.proofs.MakeLemmas.{role-client, role-confirmer, role-door, role-free, role-helper, role-other}
use Rattle.agent_model.proofs.PortsLemmas.{found_number}
use Rattle.agent_laws.specs.Answered.{IsHello, Says, begins, goes_on}
use Rattle.signature_laws.proofs.StillLemmas.{IsStill, still-consent, still-ended, still-failed, still-goes_on, still-look, still-took}

-- ---- what is said

-- a HELLO stands in front of these bytes
record HelloOf (number : ℕ) (heard : List ℕ) (state : State) : Type 0 where
  rest : List ℕ
  is : IsHello number heard rest state

-- the bytes are a piece of the helper, or stand behind its HELLO
abbrev pub HowSaid : ℕ → List ℕ → List ℕ → List ℕ → State → Type 0
HowSaid number piece heard bytes state =
    ((state.under_way.link.state ≡ states.Linked number) × (bytes ≡ piece)) ⊎ IsHello number heard bytes state

-- who brings bytes of the stream is the helper, or becomes it
pub record Spoken (number : ℕ) (piece bytes : List ℕ) (state : State) : Type 0 where
  pub port : Port
  pub found : find_port number state.ports ≡ Some port
  pub door : port.door ≡ Children
  pub how : HowSaid number piece (port.heard ++ piece) bytes state

pub spoken : (event : Happening) (state : State) (bytes : List ℕ) → Says state event bytes → (number : ℕ) (piece : List ℕ)
    → event ≡ Heard number piece → Spoken number piece bytes state
spoken event state bytes (goes_on n p port found door linked) number piece is =
    let one : n ≡ number = cc in
    let two : p ≡ piece = cc in
    record { port = port; found = ap (λ m. find_port m state.ports) (sym one) ∙ found; door = door; how = inl (linked ∙ ap states.Linked one, two) }
spoken event state bytes (begins n p rest port found door hello) number piece is =
    let one : n ≡ number = cc in
    let two : p ≡ piece = cc in
    record {
      port = port;
      found = ap (λ m. find_port m state.ports) (sym one) ∙ found;
      door = door;
      how = inr (subst (λ m. IsHello m (port.heard ++ piece) bytes state) one (subst (λ q. IsHello n (port.heard ++ q) bytes state) two hello));
    }

-- it is a piece at a port
pub record IsPiece (event : Happening) : Type 0 where
  pub number : ℕ
  pub piece : List ℕ
  pub is : event ≡ Heard number piece

pub says-piece : (event : Happening) (state : State) (bytes : List ℕ) → Says state event bytes → IsPiece event
says-piece event state bytes (goes_on number piece port found door linked) = record { number = number; piece = piece; is = refl }
says-piece event state bytes (begins number piece rest port found door hello) = record { number = number; piece = piece; is = refl }

-- an event brings no two runs of bytes
pub says-one : (event : Happening) (state : State) (some other : List ℕ) → Says state event some → Says state event other
    → some ≡ other
says-one event state some other says again =
    let at = says-piece event state some says in
    let first = spoken event state some says at.number at.piece at.is in
    let second = spoken event state other again at.number at.piece at.is in
    let same : second.port ≡ first.port = cc in
    by_how at.number at.piece (first.port.heard ++ at.piece) first.how
    (subst (λ (p : Port). HowSaid at.number at.piece (p.heard ++ at.piece) other state) same second.how)
  where
    by_how : (number : ℕ) (piece heard : List ℕ) → HowSaid number piece heard some state
        → HowSaid number piece heard other state → some ≡ other
    by_how number piece heard (inl one) (inl two) = one.1 ∙ sym two.1
    by_how number piece heard (inl one) (inr two) = absurd (two.unlinked one.0)
    by_how number piece heard (inr one) (inl two) = absurd (one.unlinked two.0)
    by_how number piece heard (inr one) (inr two) =
        let both : Whole one.body_len ≡ Whole two.body_len = sym one.whole ∙ two.whole in
        let same : one.body_len ≡ two.body_len = cc in
        one.behind ∙ ap (λ n. after_front n heard) same ∙ sym two.behind

-- ---- each event

-- it brings bytes of the helper's stream, or what was heard stays
pub data Effect (event : Happening) (state : State) (outcome : Outcome) : Type 0 where
  still : ((bytes : List ℕ) → Says state event bytes → ⊥) → IsStill state.under_way.link.heard outcome
      → Effect event state outcome
  said : (bytes : List ℕ) → Says state event bytes → Effect event state outcome

role-linked : (door : Door) (number : ℕ) (under_way : UnderWay) → door ≡ Children
    → under_way.link.state ≡ states.Linked number → role_of door number under_way ≡ Helper
role-linked door number under_way child linked =
    let same : (number == number) ≡ true = grind (arith, nat_tests) in
    ap (λ d. role_of d number under_way) child
    ∙ ap (λ l. role_by_helper (is_linked_to number l) number under_way.confirmations) linked
    ∙ ap (λ b. role_by_helper b number under_way.confirmations) same

-- of a child process that hadn't named itself
module _ (number : ℕ) (piece : List ℕ) (port : Port) (state : State) (found : find_port number state.ports ≡ Some port) (door : port.door ≡ Children) (free : find_linked number state.under_way.confirmations ≡ None) (other : state.under_way.link.state ≢ states.Linked number) where
  abbrev heard : List ℕ
  heard = port.heard ++ piece

  abbrev more : State
  more = changed number (heard_more piece) state

  never : (HelloOf number heard state → ⊥) → (bytes : List ℕ) → Says state (Heard number piece) bytes → ⊥
  never unnamed bytes says =
      let at = spoken (Heard number piece) state bytes says number piece refl in
      let same : at.port ≡ port = cc in
      by_how at.port same at.how
    where
      by_how : (one : Port) → one ≡ port → HowSaid number piece (one.heard ++ piece) bytes state → ⊥
      by_how one same (inl linked) = other linked.0
      by_how one same (inr hello) =
          unnamed (subst (λ (p : Port). HelloOf number (p.heard ++ piece) state) same (record { rest = bytes; is = hello }))

  module _ (body_len : ℕ) (whole : front longest_body heard ≡ Whole body_len) where
    abbrev rest : List ℕ
    rest = after_front body_len heard

    read-hello : (hello : HelloOf number heard state)
        → from_child_of (front_body body_len heard) ≡ Ok (Hello hello.is.job hello.is.ticket)
    read-hello hello =
        let both : Whole body_len ≡ Whole hello.is.body_len = sym whole ∙ hello.is.whole in
        let same : body_len ≡ hello.is.body_len = cc in
        ap (λ n. from_child_of (front_body n heard)) same ∙ hello.is.hello

    not-hello : (read : Result FromChildMessage ChildFault) → from_child_of (front_body body_len heard) ≡ read
        → ((job : ℕ) (ticket : List ℕ) → read ≡ Ok (Hello job ticket) → ⊥)
        → (bytes : List ℕ) → Says state (Heard number piece) bytes → ⊥
    not-hello read is other_read =
        never (λ hello. other_read hello.is.job hello.is.ticket (sym is ∙ read-hello hello))

    module _ (job : ℕ) (ticket : List ℕ) (read : from_child_of (front_body body_len heard) ≡ Ok (Hello job ticket)) where
      -- the job that it names, where it is one
      named-one : (named : Option StartedJob) → find_started job state.under_way.started ≡ named
          → (hello : HelloOf number heard state) → named ≡ Some hello.is.one
      named-one named is hello =
          let both : Ok (Hello job ticket) ≡ Ok (Hello hello.is.job hello.is.ticket) = sym read ∙ read-hello hello in
          let same : job ≡ hello.is.job = cc in
          sym is ∙ ap (λ j. find_started j state.under_way.started) same ∙ hello.is.started

      named-ticket : (one : StartedJob) → find_started job state.under_way.started ≡ Some one
          → (hello : HelloOf number heard state) → one.ticket ≡ ticket
      named-ticket one is hello =
          let both : Ok (Hello job ticket) ≡ Ok (Hello hello.is.job hello.is.ticket) = sym read ∙ read-hello hello in
          let shown : ticket ≡ hello.is.ticket = cc in
          let found_one : Some one ≡ Some hello.is.one = named-one (Some one) is hello in
          let same : one ≡ hello.is.one = cc in
          ap (λ (o : StartedJob). o.ticket) same ∙ hello.is.same ∙ sym shown

      effect-named : (one : StartedJob) (kind : JobKind) → find_started job state.under_way.started ≡ Some one
          → one.ticket ≡ ticket → one.job.kind ≡ kind
          → Effect (Heard number piece) state (named_by kind one.job.number number rest more)
      effect-named one kinds.Helper started same is =
          said rest (begins number piece rest port found door record {
            unlinked = other;
            free = free;
            body_len = body_len;
            whole = whole;
            behind = refl;
            job = job;
            ticket = ticket;
            hello = read;
            one = one;
            started = started;
            kind = is;
            same = same;
          })
      effect-named one kinds.Confirm started same is =
          still
          (never (λ hello.
          let found_one : Some one ≡ Some hello.is.one = named-one (Some one) started hello in
          let equal : one ≡ hello.is.one = cc in
          let kind : kinds.Confirm ≡ kinds.Helper = sym is ∙ ap (λ (o : StartedJob). o.job.kind) equal ∙ hello.is.kind in
          absurd (cc)))
          (still-goes_on (find_job one.job.number (confirmer_named one.job.number number more).under_way.confirmations) rest (confirmer_named one.job.number number more))

      effect-ticket : (one : StartedJob) (shown : Bool) → find_started job state.under_way.started ≡ Some one
          → bytes_eq one.ticket ticket ≡ shown
          → Effect (Heard number piece) state (if shown then named_by one.job.kind one.job.number number rest more else shut number more)
      effect-ticket one true started is =
          effect-named one one.job.kind started ((bytes_eq-Decides one.ticket ticket).0 is) refl
      effect-ticket one false started is =
          still
          (never (λ hello.
          let equal : bytes_eq one.ticket ticket ≡ true = (bytes_eq-Decides one.ticket ticket).1 (named-ticket one started hello) in
          let no : true ≡ false = sym equal ∙ is in
          absurd (cc)))
          refl

      effect-hello : (named : Option StartedJob) → find_started job state.under_way.started ≡ named
          → Effect (Heard number piece) state (hello_heard named ticket number rest more)
      effect-hello None started =
          still
          (never (λ hello. let no : None ≡ Some hello.is.one = named-one None started hello in absurd (cc)))
          refl
      effect-hello (Some one) started = effect-ticket one (bytes_eq one.ticket ticket) started refl

    effect-message : (read : Result FromChildMessage ChildFault) → from_child_of (front_body body_len heard) ≡ read
        → Effect (Heard number piece) state (first_message read number rest more)
    effect-message (Ok (Hello job ticket)) is =
        effect-hello job ticket is (find_started job state.under_way.started) refl
    effect-message (Ok (Signed ask signature)) is = still (not-hello _ is (λ job ticket same. absurd (cc))) refl
    effect-message (Ok (Refused ask)) is = still (not-hello _ is (λ job ticket same. absurd (cc))) refl
    effect-message (Ok (True ask)) is = still (not-hello _ is (λ job ticket same. absurd (cc))) refl
    effect-message (Ok (False ask)) is = still (not-hello _ is (λ job ticket same. absurd (cc))) refl
    effect-message (Ok (GrantedMessage granted)) is = still (not-hello _ is (λ job ticket same. absurd (cc))) refl
    effect-message (Ok (Denied denied)) is = still (not-hello _ is (λ job ticket same. absurd (cc))) refl
    effect-message (Err fault) is = still (not-hello _ is (λ job ticket same. absurd (cc))) refl

  effect-frame : (answer_to : Front) → front longest_body heard ≡ answer_to
      → Effect (Heard number piece) state (first_frame answer_to number heard more)
  effect-frame (Whole body_len) is = effect-message body_len is (from_child_of (front_body body_len heard)) refl
  effect-frame (Bad announced) is =
      still
      (never (λ hello. let no : Bad announced ≡ Whole hello.is.body_len = sym is ∙ hello.is.whole in absurd (cc)))
      refl
  effect-frame More is =
      still (never (λ hello. let no : More ≡ Whole hello.is.body_len = sym is ∙ hello.is.whole in absurd (cc)))
      refl

effect-role : (role : Role) (port : Port) (piece : List ℕ) (state : State)
    → find_port port.number state.ports ≡ Some port → role_of port.door port.number state.under_way ≡ role
    → Effect (Heard port.number piece) state (heard_by_role role port piece state)
effect-role Client port piece state found is =
    still
    (λ bytes says.
    let at = spoken (Heard port.number piece) state bytes says port.number piece refl in
    let same : at.port ≡ port = cc in
    let client : port.door ≡ Clients = role-client port.door port.number state.under_way is in
    let no : Clients ≡ Children = sym client ∙ ap (λ (p : Port). p.door) (sym same) ∙ at.door in
    absurd (cc))
    (let longer : State = changed port.number (heard_more piece) state in still-look (find_port port.number longer.ports) longer)
effect-role Unnamed port piece state found is =
    effect-frame port.number piece port state found
    (role-door port.door port.number state.under_way Unnamed is (λ no. absurd (cc)))
    (role-free port.door port.number state.under_way is)
    (role-other port.door port.number state.under_way is)
    (front longest_body (port.heard ++ piece)) refl
effect-role Helper port piece state found is =
    said piece (goes_on port.number piece port found (role-door port.door port.number state.under_way Helper is (λ no. absurd (cc)))
    (role-helper port.door port.number state.under_way is))
effect-role (Confirmer confirmation) port piece state found is =
    still
    (λ bytes says.
    by_how (spoken (Heard port.number piece) state bytes says port.number piece refl).how)
    (still-consent (consent confirmation.job (confirmation.heard ++ piece)) confirmation piece state)
  where
    child : port.door ≡ Children
    child = role-door port.door port.number state.under_way (Confirmer confirmation) is (λ no. absurd (cc))

    by_how : {heard bytes : List ℕ} → HowSaid port.number piece heard bytes state → ⊥
    by_how (inl linked) =
        let no : Helper ≡ Confirmer confirmation = sym (role-linked port.door port.number state.under_way child linked.0) ∙ is in
        absurd (cc)
    by_how (inr hello) =
        let no : None ≡ Some confirmation = sym hello.free ∙ role-confirmer port.door port.number state.under_way confirmation is in
        absurd (cc)

effect-heard : (number : ℕ) (found : Option Port) (piece : List ℕ) (state : State)
    → find_port number state.ports ≡ found → Effect (Heard number piece) state (heard_at found piece state)
effect-heard number None piece state is =
    still
    (λ bytes says.
    let at = spoken (Heard number piece) state bytes says number piece refl in
    let no : None ≡ Some at.port = sym is ∙ at.found in
    absurd (cc))
    refl
effect-heard number (Some port) piece state is =
    let numbered : port.number ≡ number = found_number number state.ports port is in
    subst (λ n. Effect (Heard n piece) state (heard_at (Some port) piece state)) numbered
    (effect-role _ port piece state (ap (λ n. find_port n state.ports) numbered ∙ is) refl)

-- no other event brings bytes of the stream
elsewhere : (event : Happening) (state : State) (outcome : Outcome)
    → ((number : ℕ) (piece : List ℕ) → event ≡ Heard number piece → ⊥)
    → IsStill state.under_way.link.heard outcome → Effect event state outcome
elsewhere event state outcome other stays =
    still (λ bytes says. let at = says-piece event state bytes says in other at.number at.piece at.is) stays

pub effect : (event : Happening) (state : State) → Effect event state (handle event state)
effect (Joined door) state = elsewhere (Joined door) state _ (λ number piece is. absurd (cc)) refl
effect (Heard number piece) state = effect-heard number (find_port number state.ports) piece state refl
effect (Took number count) state =
    elsewhere (Took number count) state _ (λ n piece is. absurd (cc)) (still-took (find_port number state.ports) count state)
effect (Ended number) state =
    elsewhere (Ended number) state _ (λ n piece is. absurd (cc)) (still-ended (find_port number state.ports) state)
effect (Started job ticket) state = elsewhere (Started job ticket) state _ (λ number piece is. absurd (cc)) refl
effect (StartFailed job) state =
    elsewhere (StartFailed job) state _ (λ number piece is. absurd (cc)) (still-failed (find_to_start job state.under_way.to_start) state)
effect Tick state = elsewhere Tick state _ (λ number piece is. absurd (cc)) refl
