-- An answer of the helper comes of its stream alone: of a piece at its port, or of what stands behind its HELLO.
use Rattle.std.proofs.Common.{◌≡◌, ◌≢◌, ◌==◌, ℕ, List, [], ◌∷◌, ◌++◌, arith, refl, ap, sym, subst, ◌∙◌, Option, Some, None, Bool, true, false, Result, Ok, Err, if◌then◌else◌}
use Rattle.std.specs.Str.{bytes_eq}
use Rattle.std.proofs.lemmas.Bool.Decides.{nat_tests}
use Rattle.std.proofs.lemmas.Slice.Eq.{bytes_eq-Decides}
use Rattle.world_ports.specs.declared.Door.TheVariants.{Children}
use Rattle.world_ports.specs.declared.Job.{Job}
use Rattle.world_ports.specs.declared.JobKind.{JobKind}
use Rattle.world_ports.specs.declared.JobKind.TheVariants as kinds
use Rattle.world_ports.specs.declared.Moment.{Moment}
use Rattle.wire_text.specs.Bounds.{longest_body}
use Rattle.wire_text.specs.Frames.{Bad, Front, More, Whole, after_front, front, front_body}
use Rattle.child_msg.specs.Messages.{Denied, False, FromChildMessage, Granted as GrantedMessage, Hello, Refused, Signed, True}
use Rattle.child_msg.specs.Reading.{from_child_of}
use Rattle.child_msg.specs.declared.fault.ChildFault.{ChildFault}
use Rattle.confirm_desk.specs.Confirmations.{Confirmation, Consent, No, NotYet, Yes, consent, find_asker, find_job, find_linked}
use Rattle.helper_link.specs.HelperLink.{linked_to}
use Rattle.helper_link.specs.Telling.{Telling, telling}
use Rattle.helper_link.specs.declared.answer.Answer.{Answer}
use Rattle.helper_link.specs.declared.fault.LinkFault.{LinkFault}
use Rattle.helper_link.specs.declared.state.LinkState.{LinkState}
use Rattle.helper_link.specs.declared.state.LinkState.TheVariants as states
use Rattle.agent_model.specs.Actions.{Action, Answered, Asked, Granted, Lost, Outcome, Over, Proved, Raised, Requested, Work}
use Rattle.agent_model.specs.Answers.{Answering, answers_in, helper_tells, lose_if, lose_where, with_answers}
use Rattle.agent_model.specs.Children.{changed, closed, confirmer_goes_on, confirmer_named, failed_by, first_frame, first_message, heard_more, hello_heard, helper_named, is_started_by, job_left, named_by, shut, start_failed}
use Rattle.agent_model.specs.Consents.{consent_by, find_started, grant_to, over_if}
use Rattle.agent_model.specs.Dispatch.{Asker, Served}
use Rattle.agent_model.specs.Events.{Ended, Happening, Heard, Joined, StartFailed, Started, Tick, Took}
use Rattle.agent_model.specs.Fates.{Fails, Fate, Gets, Unanswered, fate_of, fault_fate, or_later, settled_fate}
use Rattle.agent_model.specs.State.{Client, Confirmer, Helper, Nothing, Port, Role, StartedJob, State, UnderWay, Unnamed, Waits, find_port, find_to_start, is_linked_to, role_by_helper, role_by_link, role_of}
use Rattle.agent_model.specs.Step.{asker_at, ended_at, ended_by_role, handle, heard_at, heard_by_role, look_front, look_port, look_waits, step, took_at, took_by_role}
use Rattle.agent_model.specs.Time.{at_moment, time_passes}
use Rattle.agent_model.proofs.ActionLemmas.{Each}
use Rattle.agent_model.proofs.FateLemmas.{fate-append, settled-fates}
use Rattle.agent_model.proofs.GrantLemmas.{IsGranted, allowed, disallowed, grant-ends, unasked}
use Rattle.agent_model.proofs.MakeLemmas.{role-door, role-free, role-helper, role-other}
use Rattle.agent_model.proofs.PortsLemmas.{found_number}
use Rattle.agent_model.proofs.ServeLemmas.{IsServed, answered, asked, raised, refused, serve-ends}
use Rattle.agent_model.proofs.TimeLemmas.{AreEnds, end, loss, no_more, one_more, time_passes-ends}
use Rattle.agent_laws.specs.Answered.{IsHello, Says, begins, goes_on, said_fate}

-- ---- what the helper's bytes make of an ask

-- what they tell
tells-fate : (ask : ℕ) (told : Telling) (state : State)
    → fate_of ask (helper_tells told state).actions ≡ or_later (settled_fate ask told.settled) (fault_fate told.fault)
tells-fate ask told state =
    let answering : Answering = answers_in told.settled state in
    fate-append ask answering.actions (lose_if told.fault (with_answers told.link answering state)).actions
    ∙ ap (λ fate. or_later fate (fate_of ask (lose_if told.fault (with_answers told.link answering state)).actions)) (settled-fates ask told.settled (record { ports = state.ports; verifications = state.under_way.verifications; actions = [] }))
    ∙ ap (or_later (settled_fate ask told.settled)) (by_fault told.fault (with_answers told.link answering state))
  where
    by_fault : (fault : Option LinkFault) (left : State)
        → fate_of ask (lose_if fault left).actions ≡ fault_fate fault
    by_fault None left = refl
    by_fault (Some fault) left = refl

-- a piece at the helper's port is what the helper says
heard-helper : (number : ℕ) (piece : List ℕ) (port : Port) (state : State)
    → find_port number state.ports ≡ Some port → port.door ≡ Children
    → state.under_way.link.state ≡ states.Linked number
    → handle (Heard number piece) state ≡ helper_tells (telling piece state.under_way.link) state
heard-helper number piece port state found door linked =
    let numbered : port.number ≡ number = found_number number state.ports port found in
    let here : (number == number) ≡ true = grind (arith, nat_tests) in
    ap (λ o. heard_at o piece state) found
    ∙ ap (λ d. heard_by_role (role_of d port.number state.under_way) port piece state) door
    ∙ ap (λ n. heard_by_role (role_by_helper (is_linked_to n state.under_way.link.state) n state.under_way.confirmations) port piece state) numbered
    ∙ ap (λ l. heard_by_role (role_by_helper (is_linked_to number l) number state.under_way.confirmations) port piece state) linked
    ∙ ap (λ b. heard_by_role (role_by_helper b number state.under_way.confirmations) port piece state) here

-- the helper is at no port that isn't the link's
unlinked : (number : ℕ) (link : LinkState) → link ≢ states.Linked number
    → is_linked_to number link ≡ false
unlinked number states.None other = refl
unlinked number (states.Starting job) other = refl
unlinked number (states.Linked at) other = by_test (at == number) refl
  where
    by_test : (is : Bool) → (at == number) ≡ is → is ≡ false
    by_test false test = refl
    by_test true test =
        let same : at ≡ number = grind (arith, nat_tests) in absurd (other (ap states.Linked same))

-- behind a HELLO counts what the helper says
heard-hello : (number : ℕ) (piece rest : List ℕ) (port : Port) (state : State)
    → find_port number state.ports ≡ Some port → port.door ≡ Children
    → (hello : IsHello number (port.heard ++ piece) rest state)
    → handle (Heard number piece) state
    ≡ helper_tells (telling rest (linked_to number state.under_way.link)) (helper_named hello.one.job.number number (changed number (heard_more piece) state))
heard-hello number piece rest port state found door hello =
    let heard : List ℕ = port.heard ++ piece in
    let more : State = changed number (heard_more piece) state in
    let numbered : port.number ≡ number = found_number number state.ports port found in
    ap (λ o. heard_at o piece state) found
    ∙ ap (λ d. heard_by_role (role_of d port.number state.under_way) port piece state) door
    ∙ ap (λ n. heard_by_role (role_by_helper (is_linked_to n state.under_way.link.state) n state.under_way.confirmations) port piece state) numbered
    ∙ ap (λ b. heard_by_role (role_by_helper b number state.under_way.confirmations) port piece state) (unlinked number state.under_way.link.state hello.unlinked)
    ∙ ap (λ f. heard_by_role (role_by_link f) port piece state) hello.free
    ∙ ap (λ n. first_frame (front longest_body heard) n heard (changed n (heard_more piece) state)) numbered
    ∙ ap (λ f. first_frame f number heard more) hello.whole
    ∙ ap (λ r. first_message r number (after_front hello.body_len heard) more) hello.hello
    ∙ ap (λ f. hello_heard f hello.ticket number (after_front hello.body_len heard) more) hello.started
    ∙ ap (λ b. if b then named_by hello.one.job.kind hello.one.job.number number (after_front hello.body_len heard) more else shut number more) ((bytes_eq-Decides hello.one.ticket hello.ticket).1 hello.same)
    ∙ ap (λ k. named_by k hello.one.job.number number (after_front hello.body_len heard) more) hello.kind
    ∙ ap (λ r. helper_tells (telling r (linked_to number state.under_way.link)) (helper_named hello.one.job.number number more)) (sym hello.behind)

-- so it is of each event that brings bytes of the stream
handle-said : (ask : ℕ) (bytes : List ℕ) (event : Happening) (state : State) → Says state event bytes
    → fate_of ask (handle event state).actions ≡ said_fate ask bytes state.under_way.link
handle-said ask bytes event state (goes_on number piece port found door linked) =
    ap (λ (o : Outcome). fate_of ask o.actions) (heard-helper number piece port state found door linked)
    ∙ tells-fate ask (telling piece state.under_way.link) state
handle-said ask bytes event state (begins number piece rest port found door hello) =
    ap (λ (o : Outcome). fate_of ask o.actions) (heard-hello number piece rest port state found door hello)
    ∙ tells-fate ask (telling rest (linked_to number state.under_way.link)) (helper_named hello.one.job.number number (changed number (heard_more piece) state))

pub step-said : (ask : ℕ) (bytes : List ℕ) (state : State) (moment : Moment) (event : Happening)
    → Says (at_moment moment state) event bytes
    → fate_of ask (step state moment event).actions
    ≡ or_later (fate_of ask (time_passes moment state).actions) (said_fate ask bytes (at_moment moment state).under_way.link)
step-said ask bytes state moment event says =
    fate-append ask (time_passes moment state).actions (handle event (at_moment moment state)).actions
    ∙ ap (or_later (fate_of ask (time_passes moment state).actions)) (handle-said ask bytes event (at_moment moment state) says)

-- ---- what brings no answer

-- no answer comes of these
abbrev IsMute : Action → Type 0
IsMute (Requested requesting) = Unit {0}
IsMute (Asked asking) = Unit {0}
IsMute (Answered one) = ⊥
IsMute (Proved proving) = Unit {0}
IsMute (Raised raising) = Unit {0}
IsMute (Granted job) = Unit {0}
IsMute (Over job) = Unit {0}
IsMute Lost = Unit {0}

abbrev AreMute : Outcome → Type 0
AreMute outcome = Each IsMute outcome.actions

mute : (ask : ℕ) (answer : Answer) (actions : List Action) → Each IsMute actions
    → fate_of ask actions ≡ Gets answer → ⊥
mute ask answer [] each is = absurd (cc)
mute ask answer (Requested requesting ∷ later) each is = mute ask answer later each.1 is
mute ask answer (Asked asking ∷ later) each is = mute ask answer later each.1 is
mute ask answer (Answered one ∷ later) each is = each.0
mute ask answer (Proved proving ∷ later) each is = mute ask answer later each.1 is
mute ask answer (Raised raising ∷ later) each is = mute ask answer later each.1 is
mute ask answer (Granted job ∷ later) each is = mute ask answer later each.1 is
mute ask answer (Over job ∷ later) each is = mute ask answer later each.1 is
mute ask answer (Lost ∷ later) each is = absurd (cc)

mute-ends : {actions : List Action} → AreEnds actions → Each IsMute actions
mute-ends no_more = tt
mute-ends (one_more action later loss rest) = (tt, mute-ends rest)
mute-ends (one_more action later (end job) rest) = (tt, mute-ends rest)

mute-served : {asker : Asker} {held : _} {under_way : UnderWay} {served : Served}
    → IsServed asker held under_way served → Each IsMute served.work.actions
mute-served (answered reply kept keeps) = tt
mute-served (refused cause) = tt
mute-served (asked errand free right) = (tt, tt)
mute-served (raised key signing free) = (tt, tt)

mute-front : (answer : Front) (port : Port) (state : State) → AreMute (look_front answer port state)
mute-front (Whole body_len) port state =
    (tt, mute-served (serve-ends (asker_at state.moment port) state.held state.under_way (front_body body_len port.heard)))
mute-front (Bad announced) port state = tt
mute-front More port state = tt

mute-waits : (waits : Waits) (owed : List ℕ) (port : Port) (state : State)
    → AreMute (look_waits waits owed port state)
mute-waits Nothing [] port state = mute-front (front longest_body port.heard) port state
mute-waits waits owed port state = tt

mute-look : (found : Option Port) (state : State) → AreMute (look_port found state)
mute-look None state = tt
mute-look (Some port) state = mute-waits port.waits port.owed port state

mute-over : (found : Option Confirmation) (state : State) → AreMute (over_if found state)
mute-over None state = tt
mute-over (Some confirmation) state = (tt, tt)

mute-granted : {chain : List _} {confirmation : Confirmation} {wall : ℕ} {held : _} {under_way : UnderWay} {work : Work}
    → IsGranted chain confirmation wall held under_way work → Each IsMute work.actions
mute-granted (disallowed never) = tt
mute-granted (unasked cause key may fault) = tt
mute-granted (allowed key may free) = (tt, tt)

mute-grant : (found : Option Port) (confirmation : Confirmation) (state : State)
    → AreMute (grant_to found confirmation state)
mute-grant None confirmation state = tt
mute-grant (Some port) confirmation state =
    (tt, mute-granted (grant-ends port.chain confirmation state))

mute-consent : (said : Consent) (confirmation : Confirmation) (piece : List ℕ) (state : State)
    → AreMute (consent_by said confirmation piece state)
mute-consent NotYet confirmation piece state = tt
mute-consent Yes confirmation piece state =
    mute-grant (find_port confirmation.asker state.ports) confirmation state
mute-consent No confirmation piece state = (tt, tt)

mute-goes_on : (found : Option Confirmation) (rest : List ℕ) (state : State)
    → AreMute (confirmer_goes_on found rest state)
mute-goes_on None rest state = tt
mute-goes_on (Some confirmation) rest state =
    mute-consent (consent confirmation.job (confirmation.heard ++ rest)) confirmation rest state

mute-took_role : (role : Role) (number count : ℕ) (state : State)
    → AreMute (took_by_role role number count state)
mute-took_role Client number count state = mute-look _ _
mute-took_role Unnamed number count state = tt
mute-took_role Helper number count state = tt
mute-took_role (Confirmer confirmation) number count state = tt

mute-took : (found : Option Port) (count : ℕ) (state : State) → AreMute (took_at found count state)
mute-took None count state = tt
mute-took (Some port) count state =
    mute-took_role (role_of port.door port.number state.under_way) port.number count state

mute-ended_role : (role : Role) (number : ℕ) (state : State)
    → AreMute (ended_by_role role number state)
mute-ended_role Client number state =
    mute-over (find_asker number state.under_way.confirmations) (closed number state)
mute-ended_role Unnamed number state = tt
mute-ended_role Helper number state = (tt, tt)
mute-ended_role (Confirmer confirmation) number state = (tt, tt)

mute-ended : (found : Option Port) (state : State) → AreMute (ended_at found state)
mute-ended None state = tt
mute-ended (Some port) state =
    mute-ended_role (role_of port.door port.number state.under_way) port.number state

mute-failed_by : (kind : JobKind) (number : ℕ) (state : State)
    → AreMute (failed_by kind number state)
mute-failed_by kinds.Helper number state = by_test (is_started_by number state.under_way.link.state)
  where
    by_test : (is : Bool) → AreMute (lose_where is state)
    by_test true = (tt, tt)
    by_test false = tt
mute-failed_by kinds.Confirm number state =
    mute-over (find_job number state.under_way.confirmations) state

mute-failed : (found : Option Job) (state : State) → AreMute (start_failed found state)
mute-failed None state = tt
mute-failed (Some job) state = mute-failed_by job.kind job.number (job_left job.number state)

-- ---- an answer is the helper's

module _ (ask : ℕ) (answer : Answer) where
  -- where an answer comes of it, the event brings bytes of the helper's stream
  abbrev Tells : Happening → State → Outcome → Type 0
  Tells event state outcome = fate_of ask outcome.actions ≡ Gets answer
      → (bytes : List ℕ) × Says state event bytes

  no_answer : (event : Happening) (state : State) (outcome : Outcome) → AreMute outcome
      → Tells event state outcome
  no_answer event state outcome each is = absurd (mute ask answer outcome.actions each is)

  -- of a child process that hadn't named itself
  module _ (number : ℕ) (piece : List ℕ) (port : Port) (state : State) (found : find_port number state.ports ≡ Some port) (door : port.door ≡ Children) (free : find_linked number state.under_way.confirmations ≡ None) (other : state.under_way.link.state ≢ states.Linked number) where
    abbrev heard : List ℕ
    heard = port.heard ++ piece

    abbrev more : State
    more = changed number (heard_more piece) state

    module _ (body_len : ℕ) (whole : front longest_body heard ≡ Whole body_len) where
      abbrev rest : List ℕ
      rest = after_front body_len heard

      module _ (job : ℕ) (ticket : List ℕ) (hello : from_child_of (front_body body_len heard) ≡ Ok (Hello job ticket)) (one : StartedJob) (started : find_started job state.under_way.started ≡ Some one) (same : one.ticket ≡ ticket) where
        tells-named : (kind : JobKind) → one.job.kind ≡ kind
            → Tells (Heard number piece) state (named_by kind one.job.number number rest more)
        tells-named kinds.Helper is = λ gets. (
          rest,
          begins number piece rest port found door record {
            unlinked = other;
            free = free;
            body_len = body_len;
            whole = whole;
            behind = refl;
            job = job;
            ticket = ticket;
            hello = hello;
            one = one;
            started = started;
            kind = is;
            same = same;
          },
        )
        tells-named kinds.Confirm is =
            no_answer (Heard number piece) state (named_by kinds.Confirm one.job.number number rest more)
            (mute-goes_on (find_job one.job.number (confirmer_named one.job.number number more).under_way.confirmations) rest (confirmer_named one.job.number number more))

      tells-ticket : (job : ℕ) (ticket : List ℕ) (one : StartedJob) (shown : Bool)
          → from_child_of (front_body body_len heard) ≡ Ok (Hello job ticket)
          → find_started job state.under_way.started ≡ Some one → bytes_eq one.ticket ticket ≡ shown
          → Tells (Heard number piece) state (if shown then named_by one.job.kind one.job.number number rest more else shut number more)
      tells-ticket job ticket one true hello started is =
          tells-named job ticket hello one started ((bytes_eq-Decides one.ticket ticket).0 is) one.job.kind refl
      tells-ticket job ticket one false hello started is =
          no_answer (Heard number piece) state (shut number more) tt

      tells-hello : (job : ℕ) (ticket : List ℕ) (named : Option StartedJob)
          → from_child_of (front_body body_len heard) ≡ Ok (Hello job ticket)
          → find_started job state.under_way.started ≡ named
          → Tells (Heard number piece) state (hello_heard named ticket number rest more)
      tells-hello job ticket None hello started =
          no_answer (Heard number piece) state (hello_heard None ticket number rest more) tt
      tells-hello job ticket (Some one) hello started =
          tells-ticket job ticket one (bytes_eq one.ticket ticket) hello started refl

      tells-message : (read : Result FromChildMessage ChildFault)
          → from_child_of (front_body body_len heard) ≡ read
          → Tells (Heard number piece) state (first_message read number rest more)
      tells-message (Ok (Hello job ticket)) is =
          tells-hello job ticket (find_started job state.under_way.started) is refl
      tells-message (Ok (Signed other_ask signature)) is =
          no_answer (Heard number piece) state (shut number more) tt
      tells-message (Ok (Refused other_ask)) is =
          no_answer (Heard number piece) state (shut number more) tt
      tells-message (Ok (True other_ask)) is =
          no_answer (Heard number piece) state (shut number more) tt
      tells-message (Ok (False other_ask)) is =
          no_answer (Heard number piece) state (shut number more) tt
      tells-message (Ok (GrantedMessage job)) is =
          no_answer (Heard number piece) state (shut number more) tt
      tells-message (Ok (Denied job)) is =
          no_answer (Heard number piece) state (shut number more) tt
      tells-message (Err fault) is =
          no_answer (Heard number piece) state (shut number more) tt

    tells-frame : (answer_to : Front) → front longest_body heard ≡ answer_to
        → Tells (Heard number piece) state (first_frame answer_to number heard more)
    tells-frame (Whole body_len) is =
        tells-message body_len is (from_child_of (front_body body_len heard)) refl
    tells-frame (Bad announced) is = no_answer (Heard number piece) state (shut number more) tt
    tells-frame More is =
        no_answer (Heard number piece) state (first_frame More number heard more) tt

  tells-role : (role : Role) (port : Port) (piece : List ℕ) (state : State)
      → find_port port.number state.ports ≡ Some port
      → role_of port.door port.number state.under_way ≡ role
      → Tells (Heard port.number piece) state (heard_by_role role port piece state)
  tells-role Client port piece state found is =
      no_answer (Heard port.number piece) state (heard_by_role Client port piece state) (mute-look _ _)
  tells-role Unnamed port piece state found is =
      tells-frame port.number piece port state found
      (role-door port.door port.number state.under_way Unnamed is (λ no. absurd (cc)))
      (role-free port.door port.number state.under_way is)
      (role-other port.door port.number state.under_way is)
      (front longest_body (port.heard ++ piece)) refl
  tells-role Helper port piece state found is = λ gets. (
    piece,
    goes_on port.number piece port found (role-door port.door port.number state.under_way Helper is (λ no. absurd (cc)))
        (role-helper port.door port.number state.under_way is),
  )
  tells-role (Confirmer confirmation) port piece state found is =
      no_answer (Heard port.number piece) state (heard_by_role (Confirmer confirmation) port piece state)
      (mute-consent (consent confirmation.job (confirmation.heard ++ piece)) confirmation piece state)

  tells-heard : (number : ℕ) (found : Option Port) (piece : List ℕ) (state : State)
      → find_port number state.ports ≡ found
      → Tells (Heard number piece) state (heard_at found piece state)
  tells-heard number None piece state is =
      no_answer (Heard number piece) state (heard_at None piece state) tt
  tells-heard number (Some port) piece state is =
      let numbered : port.number ≡ number = found_number number state.ports port is in
      subst (λ n. Tells (Heard n piece) state (heard_at (Some port) piece state)) numbered
      (tells-role _ port piece state (ap (λ n. find_port n state.ports) numbered ∙ is) refl)

  tells-handle : (event : Happening) (state : State) → Tells event state (handle event state)
  tells-handle (Joined door) state =
      no_answer (Joined door) state (handle (Joined door) state) tt
  tells-handle (Heard number piece) state =
      tells-heard number (find_port number state.ports) piece state refl
  tells-handle (Took number count) state =
      no_answer (Took number count) state (handle (Took number count) state) (mute-took (find_port number state.ports) count state)
  tells-handle (Ended number) state =
      no_answer (Ended number) state (handle (Ended number) state) (mute-ended (find_port number state.ports) state)
  tells-handle (Started job ticket) state =
      no_answer (Started job ticket) state (handle (Started job ticket) state) tt
  tells-handle (StartFailed job) state =
      no_answer (StartFailed job) state (handle (StartFailed job) state) (mute-failed (find_to_start job state.under_way.to_start) state)
  tells-handle Tick state = no_answer Tick state (handle Tick state) tt

  -- behind what its moment brings
  pub step-only : (state : State) (moment : Moment) (event : Happening)
      → fate_of ask (step state moment event).actions ≡ Gets answer
      → (bytes : List ℕ) × Says (at_moment moment state) event bytes
  step-only state moment event gets =
      by_fate (fate_of ask (time_passes moment state).actions) refl
      (sym (fate-append ask (time_passes moment state).actions (handle event (at_moment moment state)).actions) ∙ gets)
    where
      by_fate : (early : Fate) → fate_of ask (time_passes moment state).actions ≡ early
          → or_later early (fate_of ask (handle event (at_moment moment state)).actions) ≡ Gets answer
          → (bytes : List ℕ) × Says (at_moment moment state) event bytes
      by_fate Unanswered is later = tells-handle event (at_moment moment state) later
      by_fate (Gets other) is later =
          absurd (mute ask other (time_passes moment state).actions (mute-ends (time_passes-ends moment state)) is)
      by_fate Fails is later = absurd (cc)
