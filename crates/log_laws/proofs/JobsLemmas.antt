-- The user is asked about the request of the client that an event is of, where it began a job to ask him.
use Rattle.std.proofs.Common.{◌≡◌, ℕ, ◌+◌, ◌≤◌, List, [], ◌∷◌, ◌++◌, refl, ap, arith, length, slice_get, sym, subst, ◌∙◌, Option, Some, None, Bool, true, false}
use Rattle.std.proofs.lemmas.Option.{slice_get_past}
use Rattle.std.proofs.lemmas.List.{append-nil}
use Rattle.std.proofs.lemmas.List.Elements.{filter_map-append}
use Rattle.lists.specs.Keyed.{has_key}
use Rattle.lists.proofs.FirstLemmas.{length-remove}
use Rattle.world_ports.specs.declared.Moment.{Moment}
use Rattle.world_ports.specs.declared.Job.{Job}
use Rattle.world_ports.specs.declared.JobKind.{JobKind}
use Rattle.world_ports.specs.declared.JobKind.TheVariants as kinds
use Rattle.confirm_desk.specs.Confirmations.{Confirmation, find_job}
use Rattle.dest_rule.specs.declared.binding.Binding.{Binding}
use Rattle.helper_link.specs.Telling.{telling}
use Rattle.helper_link.specs.declared.fault.LinkFault.{LinkFault}
use Rattle.helper_link.specs.declared.state.LinkState.{LinkState}
use Rattle.helper_link.specs.declared.state.LinkState.TheVariants as states
use Rattle.agent_model.specs.Actions.{Action, Asked, Lost, Outcome, Over, Work}
use Rattle.agent_model.specs.Answers.{answers_in, helper_tells, lose_if, lose_where, with_answers}
use Rattle.agent_model.specs.Children.{failed_by, is_started_by, job_left, job_started, remove_to_start, start_failed}
use Rattle.agent_model.specs.Consents.{over_if, signing_of}
use Rattle.agent_model.specs.Dispatch.{Asker, Served}
use Rattle.agent_model.specs.Errands.{Errand, Signs, asking_of, helper_jobs, with_ask}
use Rattle.agent_model.specs.Events.{Happening, Joined, Heard, Ended, Took, Started, StartFailed, Tick}
use Rattle.agent_model.specs.KeyStates.{KeyState}
use Rattle.agent_model.specs.State.{Port, State, UnderWay, find_to_start, job_number}
use Rattle.agent_model.specs.Step.{asker_at, handle}
use Rattle.agent_model.specs.Time.{at_moment, time_passes}
use Rattle.agent_model.proofs.ActionLemmas.{Each, each-tells}
use Rattle.agent_model.proofs.GrantLemmas.{IsGranted, allowed, disallowed, grant-ends, unasked}
use Rattle.agent_model.proofs.MakeLemmas.{Change, Goes, Makes, Quiet, alters, by_event, closes, first, goes_on, grants, hears, leaves, links, loses, names, overs, prompts, says, sends, serves, starts as begins, stays, takes, tells}
use Rattle.agent_model.proofs.ServeLemmas.{IsServed, answered, asked, raised, refused, serve-ends}
use Rattle.agent_model.proofs.TimeLemmas.{AreEnds, IsEnd, at_moment-keeps, end, loss, no_more, one_more, time_passes-ends}
use Rattle.log_laws.specs.Raised.{RaisesItsOwn, port_of, raised_if, raised_since}
use Rattle.log_laws.specs.Sights.{raised_by, raised_in}

-- ---- jobs

-- where no job was begun
no_job : (port before : ℕ) (jobs : List Job) → length jobs ≤ before → raised_since port before jobs ≡ []
no_job port before jobs few = ap (raised_if port) (slice_get_past jobs before few)

-- the job that was begun is the one behind the others
the_job : (jobs : List Job) (job : Job) → slice_get (jobs ++ job ∷ []) (length jobs) ≡ Some job
the_job [] job = refl
the_job (one ∷ jobs) job = the_job jobs job

one_job : (port : ℕ) (jobs : List Job) (job : Job) → raised_since port (length jobs) (jobs ++ job ∷ []) ≡ raised_if port (Some job)
one_job port jobs job = ap (raised_if port) (the_job jobs job)

-- a helper that is started asks the user nothing
no_helper : (port number : ℕ) (link : LinkState) (jobs : List Job) → raised_since port (length jobs) (jobs ++ helper_jobs link number) ≡ []
no_helper port number states.None jobs = one_job port jobs (record { number = number; kind = kinds.Helper })
no_helper port number (states.Starting job) jobs = rw (append-nil jobs) (no_job port (length jobs) jobs (omega arith))
no_helper port number (states.Linked other) jobs = rw (append-nil jobs) (no_job port (length jobs) jobs (omega arith))

module _ (port : ℕ) where
  -- what an outcome asks the user about is what its jobs say
  abbrev Raises : List Job → List Action → List Job → Type 0
  Raises before actions after = raised_in actions ≡ raised_since port (length before) after

  -- nothing, and there are no more jobs
  raises-none : (before : List Job) (actions : List Action) (after : List Job) → raised_in actions ≡ [] → length after ≤ length before → Raises before actions after
  raises-none before actions after none few = none ∙ sym (no_job port (length before) after few)

  raises-same : (jobs : List Job) (actions : List Action) → raised_in actions ≡ [] → Raises jobs actions jobs
  raises-same jobs actions none = raises-none jobs actions jobs none (omega arith)

  -- an ask that is put
  raises-asked : (errand : Errand) (asker : ℕ) (under_way : UnderWay) → Raises under_way.to_start (Asked (asking_of errand asker (under_way.link.last + 1)) ∷ []) (with_ask errand asker under_way).to_start
  raises-asked errand asker under_way = sym (no_helper port (under_way.last_job + 1) under_way.link.state under_way.to_start)

-- ---- what tells of no question

abbrev RaisesNone : Action → Type 0
RaisesNone action = raised_by action ≡ None

each-none : (actions : List Action) → Each RaisesNone actions → raised_in actions ≡ []
each-none [] none = refl
each-none (action ∷ later) none = rw none.0 (each-none later none.1)

end-none : (action : Action) → IsEnd action → RaisesNone action
end-none action loss = refl
end-none action (end job) = refl

ends-none : (actions : List Action) → AreEnds actions → raised_in actions ≡ []
ends-none actions no_more = refl
ends-none actions (one_more action later is more) = rw (end-none action is) (ends-none later more)

-- ---- what an event makes

lost-jobs : (fault : Option LinkFault) (state : State) → (lose_if fault state).state.under_way.to_start ≡ state.under_way.to_start
lost-jobs None state = refl
lost-jobs (Some fault) state = refl

-- the event starts no job
abbrev IsOther : Happening → Type 0
IsOther (Joined door) = Unit {0}
IsOther (Heard port piece) = Unit {0}
IsOther (Ended port) = Unit {0}
IsOther (Took port count) = Unit {0}
IsOther (Started job ticket) = ⊥
IsOther (StartFailed job) = ⊥
IsOther Tick = Unit {0}

goes-jobs : {event : Happening} {old : State} {new : UnderWay} → IsOther event → Goes event old new → new.to_start ≡ old.under_way.to_start
goes-jobs other (begins job ticket is) = absurd (subst IsOther is other)
goes-jobs other (leaves job is) = absurd (subst IsOther is other)
goes-jobs other (sends number count port is found linked) = refl
goes-jobs other (prompts number count port one is found linked) = refl
goes-jobs other (says number piece one at there) = refl

quiet-jobs : {event : Happening} {old mid : State} → IsOther event → Quiet event old mid → mid.under_way.to_start ≡ old.under_way.to_start
quiet-jobs other (alters number f change) = refl
quiet-jobs other (closes number may) = refl
quiet-jobs other (goes_on new goes) = goes-jobs other goes
quiet-jobs other (names job number new) = refl
quiet-jobs other (links job number new) = refl

-- the event is of the client that is served
change-port : {event : Happening} {number : ℕ} (f : Port → Port) → Change event number f → port_of event ≡ number
change-port f (hears piece is) = ap port_of is
change-port f (takes count is) = ap port_of is

served : {asker : Asker} {held : KeyState} {under_way : UnderWay} {brought : Served} (port : ℕ) → port ≡ asker.port → IsServed asker held under_way brought → Raises port under_way.to_start brought.work.actions brought.work.under_way.to_start
served {under_way = under_way} port is (answered reply kept same) = raises-same port under_way.to_start [] refl
served {under_way = under_way} port is (refused cause) = raises-same port under_way.to_start [] refl
served {asker = asker} {under_way = under_way} port is (asked errand free may) = raises-asked port errand asker.port under_way
served {asker = asker} {under_way = under_way} port is (raised key signing free) =
    ap (λ p. p ∷ []) (sym is) ∙ sym (one_job port under_way.to_start (record { number = under_way.last_job + 1; kind = kinds.Confirm }))

granted : {chain : List Binding} {one : Confirmation} {wall : ℕ} {held : KeyState} {under_way : UnderWay} {work : Work} (port : ℕ) → IsGranted chain one wall held under_way work → Raises port under_way.to_start work.actions work.under_way.to_start
granted {under_way = under_way} port (disallowed never) = raises-same port under_way.to_start [] refl
granted {under_way = under_way} port (unasked cause key may fault) = raises-same port under_way.to_start [] refl
granted {one = one} {under_way = under_way} port (allowed key may free) = raises-asked port (Signs key (signing_of key one)) one.asker under_way

makes-raises : {event : Happening} {old : State} {outcome : Outcome} → IsOther event → Makes event old outcome → Raises (port_of event) old.under_way.to_start outcome.actions outcome.state.under_way.to_start
makes-raises {event} other (stays state) = raises-same (port_of event) state.under_way.to_start [] refl
makes-raises {event} other (first {outcome = outcome} quiet rest) =
    makes-raises other rest ∙ ap (λ (jobs : List Job). raised_since (port_of event) (length jobs) outcome.state.under_way.to_start) (quiet-jobs other quiet)
makes-raises {event} other (serves body_len port state found door nothing owed own) =
    served (port_of event) (change-port own.0 own.1) (serve-ends (asker_at state.moment port) state.held state.under_way _)
makes-raises {event} other (tells piece state) =
    let told = telling piece state.under_way.link in
    let jobs = lost-jobs told.fault (with_answers told.link (answers_in told.settled state) state) in
    each-none (helper_tells told state).actions (each-tells RaisesNone (λ one. refl) (λ proving. refl) refl told state)
    ∙ sym (ap (λ (after : List Job). raised_since (port_of event) (length state.under_way.to_start) after) jobs
    ∙ no_job (port_of event) (length state.under_way.to_start) state.under_way.to_start (omega arith))
makes-raises {event} other (loses state) = raises-same (port_of event) state.under_way.to_start (Lost ∷ []) refl
makes-raises {event} other (overs one state there) = raises-same (port_of event) state.under_way.to_start (Over one.job ∷ []) refl
makes-raises {event} other (grants one port state there found) = granted (port_of event) (grant-ends port.chain one state)

-- ---- the start of a job

fewer : (job : ℕ) (jobs : List Job) → length (remove_to_start job jobs) ≤ length jobs
fewer job jobs = length-remove (has_key job_number job) jobs

-- what a failed start brings asks nobody anything, and begins no job
failed-kind : (kind : JobKind) (number : ℕ) (state : State) → (raised_in (failed_by kind number state).actions ≡ []) × ((failed_by kind number state).state.under_way.to_start ≡ state.under_way.to_start)
failed-kind kinds.Helper number state = by_test (is_started_by number state.under_way.link.state)
  where
    by_test : (is : Bool) → (raised_in (lose_where is state).actions ≡ []) × ((lose_where is state).state.under_way.to_start ≡ state.under_way.to_start)
    by_test true = (refl, refl)
    by_test false = (refl, refl)
failed-kind kinds.Confirm number state = by_found (find_job number state.under_way.confirmations)
  where
    by_found : (found : Option Confirmation) → (raised_in (over_if found state).actions ≡ []) × ((over_if found state).state.under_way.to_start ≡ state.under_way.to_start)
    by_found None = (refl, refl)
    by_found (Some one) = (refl, refl)

failed-raises : (port : ℕ) (found : Option Job) (state : State) → Raises port state.under_way.to_start (start_failed found state).actions (start_failed found state).state.under_way.to_start
failed-raises port None state = raises-same port state.under_way.to_start [] refl
failed-raises port (Some job) state =
    let both = failed-kind job.kind job.number (job_left job.number state) in
    let few : length (start_failed (Some job) state).state.under_way.to_start ≤ length state.under_way.to_start = rw both.1 (fewer job.number state.under_way.to_start) in
    raises-none port state.under_way.to_start (start_failed (Some job) state).actions (start_failed (Some job) state).state.under_way.to_start both.0 few

-- ---- a step

others : (event : Happening) (state : State) → IsOther event → Raises (port_of event) state.under_way.to_start (handle event state).actions (handle event state).state.under_way.to_start
others event state other =
    by_event (λ outcome. Raises (port_of event) state.under_way.to_start outcome.actions outcome.state.under_way.to_start) event state
    (λ door. raises-same (port_of event) state.under_way.to_start [] refl) (λ outcome makes. makes-raises other makes)

handle-raises : (event : Happening) (state : State) → Raises (port_of event) state.under_way.to_start (handle event state).actions (handle event state).state.under_way.to_start
handle-raises (Started job ticket) state =
    raises-none 0 state.under_way.to_start [] (job_started job ticket state).under_way.to_start refl (fewer job state.under_way.to_start)
handle-raises (StartFailed job) state = failed-raises 0 (find_to_start job state.under_way.to_start) state
handle-raises (Joined door) state = raises-same 0 state.under_way.to_start [] refl
handle-raises (Heard port piece) state = others (Heard port piece) state tt
handle-raises (Ended port) state = others (Ended port) state tt
handle-raises (Took port count) state = others (Took port count) state tt
handle-raises Tick state = raises-same 0 state.under_way.to_start [] refl

jobs-moment : (moment : Moment) (state : State) → (at_moment moment state).under_way.to_start ≡ state.under_way.to_start
jobs-moment moment state = at_moment-keeps (λ s. s.under_way.to_start ≡ state.under_way.to_start) moment state (λ s same. same) (λ one s there same. same) refl

pub raises-step : (state : State) (moment : Moment) (event : Happening) → RaisesItsOwn state moment event
raises-step state moment event =
    let opened = at_moment moment state in
    let later = handle event opened in
    filter_map-append raised_by (time_passes moment state).actions later.actions
    ∙ ap (λ (all : List ℕ). all ++ raised_in later.actions) (ends-none (time_passes moment state).actions (time_passes-ends moment state))
    ∙ handle-raises event opened
    ∙ ap (λ (jobs : List Job). raised_since (port_of event) (length jobs) later.state.under_way.to_start) (jobs-moment moment state)
