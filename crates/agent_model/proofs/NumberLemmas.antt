-- The numbers of jobs and of asks never fall, and the jobs of confirmations rise up to the last one.
use Rattle.std.proofs.Common.{ℕ, ◌≤◌, List, [], ◌∷◌, refl, arith, Option, Some, None}
use Rattle.world_ports.specs.declared.Moment.{Moment}
use Rattle.wire_text.specs.Frames.{front_body}
use Rattle.confirm_desk.specs.Confirmations.{Confirmation, linked_at}
use Rattle.dest_rule.specs.declared.binding.Binding.{Binding}
use Rattle.helper_link.specs.Telling.{telling}
use Rattle.helper_link.specs.declared.fault.LinkFault.{LinkFault}
use Rattle.agent_model.specs.Actions.{Outcome, Work}
use Rattle.agent_model.specs.Asking.{JobsRise}
use Rattle.agent_model.specs.Answers.{answers_in, lose_if, with_answers}
use Rattle.agent_model.specs.Consents.{signing_of, without_confirmation}
use Rattle.agent_model.specs.Errands.{Signs}
use Rattle.agent_model.specs.Events.{Happening, Timed}
use Rattle.agent_model.specs.KeyStates.{KeyState}
use Rattle.agent_model.specs.Runs.{run}
use Rattle.agent_model.specs.State.{State, UnderWay}
use Rattle.agent_model.specs.Step.{asker_at, handle, step}
use Rattle.agent_model.specs.Time.{at_moment}
use Rattle.agent_model.proofs.GrantLemmas.{IsGranted, allowed, disallowed, grant-ends, unasked}
use Rattle.agent_model.proofs.GrowLemmas.{AsksMore, asks_more, more-put}
use Rattle.agent_model.proofs.JobLemmas.{jobs-change, jobs-remove}
use Rattle.agent_model.proofs.MakeLemmas.{Kept, Makes, Quiet, altered, alters, by_event, closes, first, goes_on, grants, links, loses, names, overs, same_asks, serves, stays, tells, unchanged}
use Rattle.agent_model.proofs.ServeLemmas.{serve-ends}
use Rattle.agent_model.proofs.TimeLemmas.{at_moment-keeps}

-- no number falls, and the jobs of confirmations go on rising
pub record Grows (old new : UnderWay) : Type 0 where
  pub jobs : old.last_job ≤ new.last_job
  pub asks : old.link.last ≤ new.link.last
  pub order : JobsRise 0 old.confirmations old.last_job → JobsRise 0 new.confirmations new.last_job

same : (under_way : UnderWay) → Grows under_way under_way
same under_way = record { jobs = omega arith; asks = omega arith; order = λ rise. rise }

behind : {old mid new : UnderWay} → Grows old mid → Grows mid new → Grows old new
behind one two = record { jobs = omega (arith, one.jobs, two.jobs); asks = omega (arith, one.asks, two.asks); order = λ rise. two.order (one.order rise) }

by_more : {old new : UnderWay} → AsksMore old new → Grows old new
by_more more = record { jobs = more.jobs; asks = more.asks; order = more.order }

grows-lose_if : (fault : Option LinkFault) (state : State)
    → Grows state.under_way (lose_if fault state).state.under_way
grows-lose_if None state = same state.under_way
grows-lose_if (Some fault) state =
    record { jobs = omega arith; asks = omega arith; order = λ rise. rise }

-- ---- consent

grows-granted : {chain : List Binding} {confirmation : Confirmation} {wall : ℕ} {held : KeyState} {under_way : UnderWay} {work : Work}
    → IsGranted chain confirmation wall held under_way work → Grows under_way work.under_way
grows-granted {under_way = under_way} (disallowed never) = same under_way
grows-granted {under_way = under_way} (unasked cause key may fault) = same under_way
grows-granted {confirmation = confirmation} {under_way = under_way} (allowed key may free) =
    by_more (more-put None (Signs key (signing_of key confirmation)) confirmation.asker under_way)

-- one confirmation less
without : (job : ℕ) (under_way : UnderWay) → Grows under_way (without_confirmation job under_way)
without job under_way =
    record { jobs = omega arith; asks = omega arith; order = jobs-remove job 0 under_way.confirmations under_way.last_job }

-- ---- events

order-kept : (last : ℕ) {old new : List Confirmation} → Kept old new → JobsRise 0 old last
    → JobsRise 0 new last
order-kept last unchanged rise = rise
order-kept last {old = old} (altered job f faint) rise = jobs-change job 0 f old last faint.job rise

grows-quiet : {event : Happening} {old new : State} → Quiet event old new
    → Grows old.under_way new.under_way
grows-quiet {old = old} (alters number f change) = same old.under_way
grows-quiet {old = old} (closes number may) = same old.under_way
grows-quiet {old = old} (goes_on new goes) = record {
  jobs = omega (arith, (same_asks goes).jobs);
  asks = omega (arith, (same_asks goes).last);
  order = λ rise. rw (same_asks goes).jobs (order-kept old.under_way.last_job (same_asks goes).kept rise);
}
grows-quiet (names job number new) =
    record { jobs = omega arith; asks = omega arith; order = λ rise. rise }
grows-quiet {old = old} (links job number new) = record {
  jobs = omega arith;
  asks = omega arith;
  order = jobs-change job 0 (linked_at number) old.under_way.confirmations old.under_way.last_job (λ c. refl);
}

grows-makes : {event : Happening} {old : State} {outcome : Outcome} → Makes event old outcome
    → Grows old.under_way outcome.state.under_way
grows-makes (stays state) = same state.under_way
grows-makes (first quiet rest) = behind (grows-quiet quiet) (grows-makes rest)
grows-makes (serves body_len port state found door waits owed own) =
    by_more (asks_more (serve-ends (asker_at state.moment port) state.held state.under_way (front_body body_len port.heard)))
grows-makes (tells piece state) =
    let told = telling piece state.under_way.link in
    let answered = grows-lose_if told.fault (with_answers told.link (answers_in told.settled state) state) in
    record { jobs = answered.jobs; asks = answered.asks; order = answered.order }
grows-makes (loses state) = record { jobs = omega arith; asks = omega arith; order = λ rise. rise }
grows-makes (overs confirmation state there) = without confirmation.job state.under_way
grows-makes (grants confirmation port state there opened) =
    behind (without confirmation.job state.under_way) (grows-granted (grant-ends port.chain confirmation state))

-- no moment makes a number fall
pub moment-grows : (state : State) (moment : Moment)
    → Grows state.under_way (at_moment moment state).under_way
moment-grows state moment =
    at_moment-keeps (λ s. Grows state.under_way s.under_way) moment state (λ s grows. record { jobs = grows.jobs; asks = grows.asks; order = grows.order })
    (λ one s there grows. behind grows (without one.job s.under_way)) record { jobs = omega arith; asks = omega arith; order = λ rise. rise }

-- nor does what an event brings
pub handle-grows : (event : Happening) (state : State)
    → Grows state.under_way (handle event state).state.under_way
handle-grows event state =
    by_event (λ outcome. Grows state.under_way outcome.state.under_way) event state (λ door. same state.under_way) (λ outcome. grows-makes)

-- no event makes a number fall
pub step-grows : (state : State) (moment : Moment) (event : Happening)
    → Grows state.under_way (step state moment event).state.under_way
step-grows state moment event =
    behind (moment-grows state moment) (handle-grows event (at_moment moment state))

-- nor do events one after another
pub run-grows : (state : State) (events : List Timed)
    → Grows state.under_way (run state events).under_way
run-grows state [] = same state.under_way
run-grows state (timed ∷ later) =
    behind (step-grows state timed.moment timed.event) (run-grows (step state timed.moment timed.event).state later)
