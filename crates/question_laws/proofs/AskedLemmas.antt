-- What is raised in an event is asked as it is to be signed.
use Rattle.std.proofs.Common.{◌≡◌, ◌==◌, ℕ, ◌+◌, ◌<◌, ◌≤◌, List, refl, sym, ap, subst, ◌∙◌, ◌⊎◌, inl, inr, arith, true, cond, Some, Result}
use Rattle.std.proofs.lemmas.Bool.Decides.{nat_tests}
use Rattle.world_ports.specs.declared.Moment.{Moment}
use Rattle.wire_text.specs.Frames.{front_body}
use Rattle.agent_msg.specs.declared.fault.MsgFault.{MsgFault}
use Rattle.agent_msg.specs.Requests.{ClientRequest}
use Rattle.confirm_desk.specs.Confirmations.{Confirmation, confirmation_of, find_job}
use Rattle.confirm_desk.specs.Prompt.{prompt_for}
use Rattle.dest_rule.specs.declared.binding.Binding.{Binding}
use Rattle.helper_link.specs.Telling.{telling}
use Rattle.identity_table.specs.Identities.{find_identity}
use Rattle.agent_model.specs.Actions.{Action, Outcome, Raised, Raising, Work}
use Rattle.agent_model.specs.Asking.{JobsRise}
use Rattle.agent_model.specs.Binds.{agent_request_of}
use Rattle.agent_model.specs.Dispatch.{Asker, Served, host_for}
use Rattle.agent_model.specs.Errands.{held_for, with_confirmation}
use Rattle.agent_model.specs.Events.{Happening, Timed}
use Rattle.agent_model.specs.Grants.{IsAmong}
use Rattle.agent_model.specs.KeyStates.{KeyState}
use Rattle.agent_model.specs.Runs.{run}
use Rattle.agent_model.specs.Sound.{IsTied}
use Rattle.agent_model.specs.State.{Port, Settings, State, UnderWay, find_port, first_state}
use Rattle.agent_model.specs.Step.{asker_at, handle, step}
use Rattle.agent_model.specs.Time.{at_moment, time_passes}
use Rattle.agent_model.proofs.ActionLemmas.{Each, among-each, each-append, each-tells}
use Rattle.agent_model.proofs.FatedLemmas.{first-tied, run-tied, step-fated, tied-opened}
use Rattle.agent_model.proofs.GrantLemmas.{IsGranted, allowed, disallowed, grant-ends, unasked}
use Rattle.agent_model.proofs.JobLemmas.{find_job-push}
use Rattle.agent_model.proofs.JudgedLemmas.{keeps-quiet}
use Rattle.agent_model.proofs.JudgeLemmas.{KeepsChains}
use Rattle.agent_model.proofs.MakeLemmas.{Makes, Quiet, by_event, first, grants, loses, overs, serves, stays, tells}
use Rattle.agent_model.proofs.ServeLemmas.{Serves, adds, confirms, denies, empties, lists, locks, removes, serves-any, signs, unlocks, verifies}
use Rattle.agent_model.proofs.TiedLemmas.{tied-quiet}
use Rattle.agent_model.proofs.TimeLemmas.{time_passes-brings}
use Rattle.agent_laws.proofs.PendingLemmas.{among-either}
use Rattle.agent_laws.proofs.StepLemmas.{calm-quiet}
use Rattle.question_laws.specs.Questions.{IsAsked, IsQuestion, question_for}
use Rattle.question_laws.proofs.OwedLemmas.{Owes, front_of_question}

-- what an event raises: its question by the state before, which its child process is owed behind it
record Rises (old : State) (raising : Raising) (new : UnderWay) : Type 0 where
  question : List ℕ
  about : IsQuestion old raising question
  owes : Owes raising.job question new
  given : raising.job ≤ new.last_job

-- nothing is raised by these
abbrev IsIdle : Action → Type 0
IsIdle (Raised raising) = ⊥
IsIdle _ = Unit {0}

same_number : (number : ℕ) → (number == number) ≡ true
same_number number = grind (arith, nat_tests)

module _ (raising : Raising) (read : Result ClientRequest MsgFault) (port : Port) (state : State) (opened : find_port port.number state.ports ≡ Some port) (rise : JobsRise 0 state.under_way.confirmations state.under_way.last_job) where
  abbrev asker : Asker
  asker = asker_at state.moment port

  rises-served : {served : Served} → Serves read asker state.held state.under_way served
      → IsAmong (Raised raising) served.work.actions → Rises state raising served.work.under_way
  rises-served (denies cause) none = absurd none
  rises-served (lists identities is) none = absurd none
  rises-served (adds addition is) none = absurd none
  rises-served (removes blob is) none = absurd none
  rises-served (empties is) none = absurd none
  rises-served (locks passphrase is) none = absurd none
  rises-served (unlocks passphrase is) none = absurd none
  rises-served (signs signing key is found asks free) (inl among) = absurd (cc)
  rises-served (signs signing key is found asks free) (inr none) = absurd none
  rises-served (verifies bind is_new is stands free) (inl among) = absurd (cc)
  rises-served (verifies bind is_new is stands free) (inr none) = absurd none
  rises-served (confirms signing key is found free) (inr none) = absurd none
  rises-served (confirms signing key is found free) (inl among) =
      let same : one ≡ raising = cc in
      subst (λ (r : Raising). Rises state r new_way) same record {
        question = question_for one key port.chain state.moment.wall;
        about = record { key = key; found = found; addition = refl; port = port; asker = opened; is = refl };
        owes = owes_it;
        given = omega arith;
      }
    where
      one : Raising
      one = record { job = state.under_way.last_job + 1; port = port.number; addition = key.number; signing = signing }

      new_way : UnderWay
      new_way = with_confirmation key (host_for asker key signing) signing port.number state.under_way

      new_one : Confirmation
      new_one = confirmation_of (state.under_way.last_job + 1) (held_for port.number key signing) (prompt_for key.comment key.blob key.purposes (host_for asker key signing) signing.message) state.under_way.second

      above : state.under_way.last_job < state.under_way.last_job + 1
      above = omega arith

      found_new : find_job one.job new_way.confirmations ≡ Some new_one
      found_new =
          find_job-push one.job 0 new_one state.under_way.confirmations state.under_way.last_job rise above
          ∙ ap (λ b. cond b (Some new_one) (find_job one.job state.under_way.confirmations)) (same_number one.job)

      owes_it : (waiting : Confirmation) → find_job one.job new_way.confirmations ≡ Some waiting
          → waiting.owed ≡ question_for one key port.chain state.moment.wall
      owes_it waiting is_found =
          let both : Some new_one ≡ Some waiting = sym found_new ∙ is_found in
          let equal : new_one ≡ waiting = cc in
          ap (λ (c : Confirmation). c.owed) (sym equal)

-- behind a quiet change
rises-quiet : {event : Happening} {old mid : State} {new : UnderWay} (raising : Raising) → Quiet event old mid
    → KeepsChains old.ports mid.ports → Rises mid raising new → Rises old raising new
rises-quiet {old = old} {mid = mid} raising quiet keeps rises =
    let calm = calm-quiet quiet in
    let was = keeps raising.port rises.about.port rises.about.asker in
    record {
      question = rises.question;
      about = record {
        key = rises.about.key;
        found = ap (λ (h : KeyState). find_identity raising.signing.blob h.table.identities) (sym calm.held) ∙ rises.about.found;
        addition = rises.about.addition;
        port = was.0;
        asker = was.1;
        is = rises.about.is ∙ ap (λ chain. question_for raising rises.about.key chain mid.moment.wall) was.2 ∙ ap (λ (m : Moment). question_for raising rises.about.key was.0.chain m.wall) calm.moment;
      };
      owes = rises.owes;
      given = rises.given;
    }

rises-makes : {event : Happening} {old : State} {outcome : Outcome} (raising : Raising) → Makes event old outcome
    → IsTied old → IsAmong (Raised raising) outcome.actions → Rises old raising outcome.state.under_way
rises-makes raising (stays state) tied among = absurd among
rises-makes raising (first quiet rest) tied among =
    rises-quiet raising quiet (keeps-quiet quiet tied.rising).ports (rises-makes raising rest (tied-quiet quiet tied) among)
rises-makes raising (serves body_len port state found door waits owed own) tied (inl same) = absurd (cc)
rises-makes raising (serves body_len port state found door waits owed own) tied (inr there) =
    rises-served raising (agent_request_of (front_body body_len port.heard)) port state found tied.raised.order
    (serves-any (agent_request_of (front_body body_len port.heard)) (asker_at state.moment port) state.held state.under_way) there
rises-makes raising (tells piece state) tied among =
    absurd (among-each IsIdle (Raised raising) _ (λ is. is) (each-tells IsIdle (λ one. tt) (λ proving. tt) tt (telling piece state.under_way.link) state) among)
rises-makes raising (loses state) tied (inl same) = absurd (cc)
rises-makes raising (loses state) tied (inr none) = absurd none
rises-makes raising (overs confirmation state there) tied (inl same) = absurd (cc)
rises-makes raising (overs confirmation state there) tied (inr none) = absurd none
rises-makes raising (grants confirmation port state there opened) tied (inl same) = absurd (cc)
rises-makes raising (grants confirmation port state there opened) tied (inr later) = absurd (by_work (grant-ends port.chain confirmation state) later)
  where
    by_work : {chain : List Binding} {wall : ℕ} {held : KeyState} {under_way : UnderWay} {work : Work}
        → IsGranted chain confirmation wall held under_way work
        → IsAmong (Raised raising) work.actions → ⊥
    by_work (disallowed never) among = among
    by_work (unasked cause key may fault) among = among
    by_work (allowed key may free) (inl same) = absurd (cc)
    by_work (allowed key may free) (inr none) = none

-- a moment raises nothing
idle-moment : (moment : Moment) (state : State) → Each IsIdle (time_passes moment state).actions
idle-moment moment state =
    time_passes-brings (λ s outcome. Each IsIdle outcome.actions) moment state (λ s. tt) (λ s. (tt, tt)) (λ one s there. (tt, tt))
    (λ s first later. each-append IsIdle first.actions later.actions)

rises-step : (raising : Raising) (state : State) (moment : Moment) (event : Happening) → IsTied state
    → IsAmong (Raised raising) (step state moment event).actions
    → Rises (at_moment moment state) raising (step state moment event).state.under_way
rises-step raising state moment event tied among = by_either (among-either (Raised raising) (time_passes moment state).actions (handle event opened).actions among)
  where
    opened : State
    opened = at_moment moment state

    by_either : IsAmong (Raised raising) (time_passes moment state).actions ⊎ IsAmong (Raised raising) (handle event opened).actions
        → Rises opened raising (handle event opened).state.under_way
    by_either (inl there) = absurd (among-each IsIdle (Raised raising) _ (λ is. is) (idle-moment moment state) there)
    by_either (inr there) =
        by_event (λ outcome. IsAmong (Raised raising) outcome.actions → Rises opened raising outcome.state.under_way) event opened
        (λ door none. absurd none) (λ outcome makes. rises-makes raising makes (tied-opened moment state tied)) there

pub each-asked : (settings : Settings) (before later : List Timed) (one : Timed) (raising : Raising)
    → IsAmong (Raised raising) (step (run (first_state settings) before) one.moment one.event).actions
    → IsAsked (run (first_state settings) before) one later raising
each-asked settings before later one raising among =
    let state : State = run (first_state settings) before in
    let tied : IsTied state = run-tied (first_state settings) before (first-tied settings) in
    let rises = rises-step raising state one.moment one.event tied among in
    record {
      question = rises.question;
      about = rises.about;
      taken = front_of_question raising.job rises.question (step state one.moment one.event).state later (step-fated state one.moment one.event tied).tied rises.given rises.owes;
    }
