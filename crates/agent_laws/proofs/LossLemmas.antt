-- The count of link faults is how often the helper was lost.
use Rattle.std.proofs.Common.{◌≡◌, ◌≤◌, ◌+◌, ◌-◌, ◌^◌, ℕ, List, [], ◌∷◌, refl, arith, sym, subst, Option, Some, None, min}
use Rattle.std.proofs.lemmas.List.Sums.{sum_by-append, sum_by-cons}
use Rattle.world_ports.specs.declared.Moment.{Moment}
use Rattle.wire_text.specs.Frames.{front_body}
use Rattle.confirm_desk.specs.Confirmations.{Confirmation}
use Rattle.dest_rule.specs.declared.binding.Binding.{Binding}
use Rattle.helper_link.specs.Telling.{Telling, telling}
use Rattle.helper_link.specs.declared.fault.LinkFault.{LinkFault}
use Rattle.agent_model.specs.Actions.{Action, Granted, Outcome, Requested, Requesting, Work, acted, behind}
use Rattle.agent_model.specs.Answers.{Answering, answers_in, helper_tells, lose_if, with_answers}
use Rattle.agent_model.specs.Binds.{agent_request_of}
use Rattle.agent_model.specs.Dispatch.{Asker, Served, serve}
use Rattle.agent_model.specs.Events.{Happening, Timed}
use Rattle.agent_model.specs.Fates.{actions_of}
use Rattle.agent_model.specs.KeyStates.{KeyState}
use Rattle.agent_model.specs.Runs.{run}
use Rattle.agent_model.specs.State.{Settings, State, UnderWay, first_state}
use Rattle.agent_model.specs.Step.{asker_at, handle, step}
use Rattle.agent_model.specs.Time.{at_moment, taken_in, time_passes}
use Rattle.agent_model.proofs.ActionLemmas.{Each, each-answers}
use Rattle.agent_model.proofs.GrantLemmas.{IsGranted, allowed, disallowed, grant-ends, unasked}
use Rattle.agent_model.proofs.MakeLemmas.{Goes, Makes, Quiet, alters, by_event, closes, first, goes_on, grants, leaves, links, loses, names, overs, prompts, says, sends, serves, starts, stays, tells}
use Rattle.agent_model.proofs.ServeLemmas.{IsServed, answered, asked, raised, refused, serve-ends}
use Rattle.agent_model.proofs.TimeLemmas.{time_passes-brings}
use Rattle.agent_laws.specs.Answered.{loses_by, times_lost}

-- from one count to the next by so many losses: the last count stays
record Counts (old new times : ℕ) : Type 0 where
  counts : old ≤ 2 ^ 64 - 1 → new ≡ min (old + times) (2 ^ 64 - 1)

none-lost : (count : ℕ) → Counts count count 0
none-lost count = record { counts = λ within. omega arith }

one-lost : (count : ℕ) → Counts count (min (count + 1) (2 ^ 64 - 1)) 1
one-lost count = record { counts = λ within. refl }

in_turn : (old mid new some more all : ℕ) → all ≡ some + more → Counts old mid some → Counts mid new more
    → Counts old new all
in_turn old mid new some more all is one two = record {
  counts = λ within.
      let first_is : mid ≡ min (old + some) (2 ^ 64 - 1) = one.counts within in
      let later : mid ≤ 2 ^ 64 - 1 = omega arith in
      let then_is : new ≡ min (mid + more) (2 ^ 64 - 1) = two.counts later in
      omega (arith, first_is, then_is, is);
}

-- the count of an outcome by its actions
abbrev Does : State → Outcome → Type 0
Does old outcome =
    Counts old.under_way.link.faults outcome.state.under_way.link.faults (times_lost outcome.actions)

does-turn : (old : State) (some more : Outcome) → Does old some → Does some.state more
    → Does old (behind some more)
does-turn old some more one two =
    in_turn _ _ _ (times_lost some.actions) (times_lost more.actions) _ (sum_by-append loses_by some.actions more.actions) one two

-- ---- what an event makes

faults-goes : {event : Happening} {old : State} {new : UnderWay} → Goes event old new
    → new.link.faults ≡ old.under_way.link.faults
faults-goes (starts job ticket is) = refl
faults-goes (leaves job is) = refl
faults-goes (sends number count port is found linked) = refl
faults-goes (prompts number count port one is found linked) = refl
faults-goes (says number piece one at there) = refl

faults-quiet : {event : Happening} {old new : State} → Quiet event old new
    → new.under_way.link.faults ≡ old.under_way.link.faults
faults-quiet (alters number f change) = refl
faults-quiet (closes number may) = refl
faults-quiet (goes_on new goes) = faults-goes goes
faults-quiet (names job number new) = refl
faults-quiet (links job number new) = refl

does-served : {asker : Asker} {held : KeyState} {under_way : UnderWay} {served : Served} (request : Requesting)
    → IsServed asker held under_way served
    → Counts under_way.link.faults served.work.under_way.link.faults (times_lost (Requested request ∷ served.work.actions))
does-served {under_way = under_way} request (answered reply kept keeps) = none-lost under_way.link.faults
does-served {under_way = under_way} request (refused cause) = none-lost under_way.link.faults
does-served {under_way = under_way} request (asked errand free right) = none-lost under_way.link.faults
does-served {under_way = under_way} request (raised key signing free) = none-lost under_way.link.faults

-- no loss is among them
abbrev IsKept : Action → Type 0
IsKept action = loses_by action ≡ 0

no-loss : (actions : List Action) → Each IsKept actions → times_lost actions ≡ 0
no-loss [] each = refl
no-loss (action ∷ later) each = omega (arith, sum_by-cons loses_by action later, each.0, no-loss later each.1)

does-fault : (fault : Option LinkFault) (state : State) → Does state (lose_if fault state)
does-fault None state = none-lost state.under_way.link.faults
does-fault (Some fault) state = one-lost state.under_way.link.faults

does-tells : (piece : List ℕ) (state : State)
    → Does state (helper_tells (telling piece state.under_way.link) state)
does-tells piece state =
    let told : Telling = telling piece state.under_way.link in
    let mid : State = with_answers told.link (answers_in told.settled state) state in
    let start : Answering = record { ports = state.ports; verifications = state.under_way.verifications; actions = [] } in
    let silent = no-loss (answers_in told.settled state).actions (each-answers IsKept (λ one. refl) (λ proving. refl) told.settled start tt) in
    does-turn state (acted (answers_in told.settled state).actions mid) (lose_if told.fault mid)
    (subst (Counts state.under_way.link.faults state.under_way.link.faults) (sym silent) (none-lost state.under_way.link.faults))
    (does-fault told.fault mid)

does-granted : {chain : List Binding} {confirmation : Confirmation} {wall : ℕ} {held : KeyState} {under_way : UnderWay} {work : Work}
    → IsGranted chain confirmation wall held under_way work
    → Counts under_way.link.faults work.under_way.link.faults (times_lost (Granted confirmation.job ∷ work.actions))
does-granted {under_way = under_way} (disallowed never) = none-lost under_way.link.faults
does-granted {under_way = under_way} (unasked cause key may fault) = none-lost under_way.link.faults
does-granted {under_way = under_way} (allowed key may free) = none-lost under_way.link.faults

does-makes : {event : Happening} {old : State} {outcome : Outcome} → Makes event old outcome
    → Does old outcome
does-makes (stays state) = none-lost state.under_way.link.faults
does-makes (first {outcome = outcome} quiet rest) =
    subst (λ n. Counts n outcome.state.under_way.link.faults (times_lost outcome.actions)) (faults-quiet quiet) (does-makes rest)
does-makes (serves body_len port state found door nothing owed own) =
    let body : List ℕ = front_body body_len port.heard in
    let asker : Asker = asker_at state.moment port in
    let served : Served = serve (agent_request_of body) asker state.held state.under_way in
    does-served (record { port = port.number; body = body; verdict = served.work.verdict }) (serve-ends asker state.held state.under_way body)
does-makes (tells piece state) = does-tells piece state
does-makes (loses state) = one-lost state.under_way.link.faults
does-makes (overs confirmation state there) = none-lost state.under_way.link.faults
does-makes (grants confirmation port state there opened) =
    does-granted (grant-ends port.chain confirmation state)

-- a step
step-does : (state : State) (moment : Moment) (event : Happening) → Does state (step state moment event)
step-does state moment event =
    does-turn (taken_in moment state) (time_passes moment state) (handle event (at_moment moment state))
    (time_passes-brings Does moment state (λ s. none-lost s.under_way.link.faults) (λ s. one-lost s.under_way.link.faults) (λ one s there. none-lost s.under_way.link.faults) does-turn)
    (by_event (Does (at_moment moment state)) event (at_moment moment state) (λ door. none-lost (at_moment moment state).under_way.link.faults) (λ outcome makes. does-makes makes))

-- a run
run-does : (state : State) (events : List Timed)
    → Counts state.under_way.link.faults (run state events).under_way.link.faults (times_lost (actions_of state events))
run-does state [] = none-lost state.under_way.link.faults
run-does state (timed ∷ later) =
    let now : Outcome = step state timed.moment timed.event in
    in_turn _ _ _ (times_lost now.actions) (times_lost (actions_of now.state later)) _ (sum_by-append loses_by now.actions (actions_of now.state later))
    (step-does state timed.moment timed.event) (run-does now.state later)

pub run-losses : (settings : Settings) (events : List Timed)
    → (run (first_state settings) events).under_way.link.faults
    ≡ min ((first_state settings).under_way.link.faults + times_lost (actions_of (first_state settings) events)) (2 ^ 64 - 1)
run-losses settings events = (run-does (first_state settings) events).counts (omega arith)
