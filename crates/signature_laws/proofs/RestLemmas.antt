-- What an event leaves of what the link has heard is the rest of the helper's stream, but for a loss.
use Rattle.std.proofs.Common.{◌≡◌, ◌==◌, ◌+◌, ℕ, zero, suc, List, [], ◌∷◌, ◌++◌, arith, refl, ap, sym, subst, ◌∙◌, Option, Some, None, Bool, true, false, if◌then◌else◌}
use Rattle.std.proofs.lemmas.List.Sums.{sum_by-append, sum_by-cons}
use Rattle.std.proofs.lemmas.Bool.Decides.{nat_tests}
use Rattle.std.proofs.lemmas.Slice.Eq.{bytes_eq-Decides}
use Rattle.world_ports.specs.declared.Door.TheVariants.{Children}
use Rattle.world_ports.specs.declared.Moment.{Moment}
use Rattle.wire_text.specs.Bounds.{longest_body}
use Rattle.wire_text.specs.Frames.{Bad, Front, More, Split, Whole, after_front, front, split, split_up_to}
use Rattle.wire_text.proofs.SplitLemmas.{split-append}
use Rattle.helper_link.specs.HelperLink.{HelperLink, linked_to}
use Rattle.helper_link.specs.Settling.{Settles, Settling, Stops, Verdict, after_verdict, at_rest, settle, settling, verdict}
use Rattle.helper_link.specs.Telling.{Telling, telling}
use Rattle.helper_link.specs.declared.ask.Ask.{Ask}
use Rattle.helper_link.specs.declared.fault.LinkFault.{LinkFault}
use Rattle.helper_link.specs.declared.state.LinkState.{LinkState}
use Rattle.helper_link.specs.declared.state.LinkState.TheVariants as states
use Rattle.agent_model.specs.Actions.{Action}
use Rattle.agent_model.specs.Answers.{answers_in, helper_tells, lose_if, with_answers}
use Rattle.agent_model.specs.Children.{changed, first_frame, first_message, heard_more, hello_heard, helper_named, named_by, shut}
use Rattle.agent_model.specs.Events.{Happening, Heard}
use Rattle.agent_model.specs.State.{Port, State, find_port, is_linked_to, role_by_helper, role_by_link, role_of}
use Rattle.agent_model.specs.Step.{handle, heard_at, heard_by_role}
use Rattle.agent_model.specs.Time.{time_passes}
use Rattle.agent_model.proofs.ActionLemmas.{Each, each-answers}
use Rattle.agent_model.proofs.CutLemmas.{handle-helper}
use Rattle.agent_model.proofs.PortsLemmas.{found_number}
use Rattle.agent_model.proofs.TimeLemmas.{time_passes-brings}
use Rattle.agent_laws.specs.Answered.{IsHello, Says, begins, goes_on, loses_by, times_lost}
use Rattle.signature_laws.proofs.StillLemmas.{IsStill, left_of}

-- ---- losses

left-none : (more : ℕ) → left_of more [] ≡ []
left-none zero = refl
left-none (suc more) = refl

left-add : (some more : ℕ) (heard : List ℕ) → left_of (some + more) heard ≡ left_of more (left_of some heard)
left-add zero more heard = let same : zero + more ≡ more = omega arith in ap (λ n. left_of n heard) same
left-add (suc some) more heard =
    let same : suc some + more ≡ suc (some + more) = omega arith in
    ap (λ n. left_of n heard) same ∙ sym (left-none more)

-- a moment leaves what was heard, but for a loss
pub still-moment : (moment : Moment) (state : State) → IsStill state.under_way.link.heard (time_passes moment state)
still-moment moment state =
    time_passes-brings (λ s outcome. IsStill s.under_way.link.heard outcome) moment state (λ s. refl) (λ s. refl) (λ one s there. refl)
    (λ s first later one two.
    two ∙ ap (left_of (times_lost later.actions)) one
    ∙ sym (left-add (times_lost first.actions) (times_lost later.actions) s.under_way.link.heard)
    ∙ ap (λ n. left_of n s.under_way.link.heard) (sym (sum_by-append loses_by first.actions later.actions)))

no-loss : (actions : List Action) → Each (λ action. loses_by action ≡ 0) actions → times_lost actions ≡ 0
no-loss [] each = refl
no-loss (action ∷ later) each = omega (arith, sum_by-cons loses_by action later, each.0, no-loss later each.1)

-- ---- what is left of a stream

abbrev pub rest_of : List ℕ → List ℕ
rest_of stream = (split longest_body stream).rest

pub rest-none : rest_of [] ≡ []
unfolding split split_up_to
rest-none = refl

pub rest-left : (times : ℕ) (stream : List ℕ) → rest_of (left_of times stream) ≡ left_of times (rest_of stream)
rest-left zero stream = refl
rest-left (suc more) stream = rest-none

pub rest-append : (some more : List ℕ) → rest_of (some ++ more) ≡ rest_of (rest_of some ++ more)
rest-append some more = ap (λ (s : Split). s.rest) (split-append longest_body some more)

-- without a fault the whole frames are read
rest-at : (at : Front) (rest : List ℕ) (asks : List Ask) → (at_rest at rest asks).fault ≡ None
    → (at_rest at rest asks).heard ≡ rest
rest-at (Whole body_len) rest asks none = refl
rest-at (Bad announced) rest asks none = absurd (cc)
rest-at More rest asks none = refl

rest-after : (what : Verdict) (later : List Ask → Settling) (rest : List ℕ) (asks : List Ask)
    → ((left : List Ask) → (later left).fault ≡ None → (later left).heard ≡ rest)
    → (after_verdict what later asks).fault ≡ None → (after_verdict what later asks).heard ≡ rest
rest-after (Settles one left) later rest asks each none = each left none
rest-after (Stops fault) later rest asks each none = absurd (cc)

rest-settle : (bodies : List (List ℕ)) (later : List Ask → Settling) (rest : List ℕ)
    → ((left : List Ask) → (later left).fault ≡ None → (later left).heard ≡ rest) → (asks : List Ask)
    → (settle bodies later asks).fault ≡ None → (settle bodies later asks).heard ≡ rest
rest-settle [] later rest each asks none = each asks none
rest-settle (body ∷ bodies) later rest each asks none =
    rest-after (verdict body asks) (settle bodies later) rest asks (rest-settle bodies later rest each) none

rest-told : (bytes : List ℕ) (link : HelperLink) → (telling bytes link).fault ≡ None
    → (telling bytes link).link.heard ≡ rest_of (link.heard ++ bytes)
unfolding settling
rest-told bytes link none =
    let parts : Split = split longest_body (link.heard ++ bytes) in
    rest-settle parts.bodies (at_rest (front longest_body parts.rest) parts.rest) parts.rest
    (rest-at (front longest_body parts.rest) parts.rest) link.asks none

-- what the helper tells leaves the rest, but for a loss
rest-tells : (bytes : List ℕ) (link : HelperLink) (state : State)
    → IsStill (rest_of (link.heard ++ bytes)) (helper_tells (telling bytes link) state)
rest-tells bytes link state = by_fault told.fault refl
  where
    told : Telling
    told = telling bytes link

    mid : State
    mid = with_answers told.link (answers_in told.settled state) state

    answered : List Action
    answered = (answers_in told.settled state).actions

    silent : times_lost answered ≡ 0
    silent = no-loss answered (each-answers (λ action. loses_by action ≡ 0) (λ one. refl) (λ proving. refl) told.settled (record { ports = state.ports; verifications = state.under_way.verifications; actions = [] }) tt)

    by_fault : (fault : Option LinkFault) → told.fault ≡ fault
        → (lose_if fault mid).state.under_way.link.heard ≡ left_of (times_lost (answered ++ (lose_if fault mid).actions)) (rest_of (link.heard ++ bytes))
    by_fault None is =
        let none : times_lost (answered ++ []) ≡ 0 = sum_by-append loses_by answered [] ∙ ap (λ n. n + 0) silent in
        rest-told bytes link is ∙ ap (λ n. left_of n (rest_of (link.heard ++ bytes))) (sym none)
    by_fault (Some fault) is =
        let once : times_lost (answered ++ (lose_if (Some fault) mid).actions) ≡ 1 = sum_by-append loses_by answered (lose_if (Some fault) mid).actions ∙ ap (λ n. n + 1) silent in
        ap (λ n. left_of n (rest_of (link.heard ++ bytes))) (sym once)

-- ---- bytes of the helper's stream

-- the helper is at no port that isn't the link's
unlinked : (number : ℕ) (link : LinkState) → (link ≡ states.Linked number → ⊥) → is_linked_to number link ≡ false
unlinked number states.None other = refl
unlinked number (states.Starting job) other = refl
unlinked number (states.Linked at) other = by_test (at == number) refl
  where
    by_test : (is : Bool) → (at == number) ≡ is → is ≡ false
    by_test false test = refl
    by_test true test =
        let same : at ≡ number = grind (arith, nat_tests) in absurd (other (ap states.Linked same))

-- behind a HELLO counts what the helper says
heard-hello : (number : ℕ) (piece rest : List ℕ) (port : Port) (state : State)
    → find_port number state.ports ≡ Some port → port.door ≡ Children
    → (hello : IsHello number (port.heard ++ piece) rest state)
    → handle (Heard number piece) state
    ≡ helper_tells (telling rest (linked_to number state.under_way.link)) (helper_named hello.one.job.number number (changed number (heard_more piece) state))
heard-hello number piece rest port state found door hello =
    let heard : List ℕ = port.heard ++ piece in
    let more : State = changed number (heard_more piece) state in
    let numbered : port.number ≡ number = found_number number state.ports port found in
    ap (λ o. heard_at o piece state) found
    ∙ ap (λ d. heard_by_role (role_of d port.number state.under_way) port piece state) door
    ∙ ap (λ n. heard_by_role (role_by_helper (is_linked_to n state.under_way.link.state) n state.under_way.confirmations) port piece state) numbered
    ∙ ap (λ b. heard_by_role (role_by_helper b number state.under_way.confirmations) port piece state) (unlinked number state.under_way.link.state hello.unlinked)
    ∙ ap (λ f. heard_by_role (role_by_link f) port piece state) hello.free
    ∙ ap (λ n. first_frame (front longest_body heard) n heard (changed n (heard_more piece) state)) numbered
    ∙ ap (λ f. first_frame f number heard more) hello.whole
    ∙ ap (λ r. first_message r number (after_front hello.body_len heard) more) hello.hello
    ∙ ap (λ f. hello_heard f hello.ticket number (after_front hello.body_len heard) more) hello.started
    ∙ ap (λ b. if b then named_by hello.one.job.kind hello.one.job.number number (after_front hello.body_len heard) more else shut number more) ((bytes_eq-Decides hello.one.ticket hello.ticket).1 hello.same)
    ∙ ap (λ k. named_by k hello.one.job.number number (after_front hello.body_len heard) more) hello.kind
    ∙ ap (λ r. helper_tells (telling r (linked_to number state.under_way.link)) (helper_named hello.one.job.number number more)) (sym hello.behind)

pub rest-said : (bytes : List ℕ) (event : Happening) (state : State) → Says state event bytes
    → IsStill (rest_of (state.under_way.link.heard ++ bytes)) (handle event state)
rest-said bytes event state (goes_on number piece port found door linked) =
    subst (IsStill (rest_of (state.under_way.link.heard ++ piece))) (sym (handle-helper number piece port state found door linked))
    (rest-tells piece state.under_way.link state)
rest-said bytes event state (begins number piece rest port found door hello) =
    subst (IsStill (rest_of (state.under_way.link.heard ++ rest))) (sym (heard-hello number piece rest port state found door hello))
    (rest-tells rest (linked_to number state.under_way.link) (helper_named hello.one.job.number number (changed number (heard_more piece) state)))
