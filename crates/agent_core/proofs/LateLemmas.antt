-- What a moment brings, one after another in the agent's parts.
use Rattle.std.proofs.Common.{◌≡◌, ◌∙◌, ℕ, suc, List, [], ◌∷◌, ◌++◌, length, Option, Some, None, IsSome, refl, ap, arith, subst, sym, cond, eqb, Bool, true, false}
use Rattle.world_ports.specs.declared.Moment.{Moment}
use Rattle.std.specs.Option.{IsSomeAnd, option_map}
use Rattle.confirm_desk.specs.Confirmations.{Confirmation, find_job, job_of, remove_job}
use Rattle.agent_model.specs.Actions.{Outcome, Stepped, and_then, behind}
use Rattle.agent_model.specs.Consents.{over, over_if}
use Rattle.agent_model.specs.Events.{Ended, Happening, Heard, Joined, StartFailed, Started, Tick, Took}
use Rattle.agent_model.specs.NumberLists.{put_all}
use Rattle.agent_model.specs.Sound.{IsTied}
use Rattle.agent_model.specs.State.{Fits, Port, State, find_port, find_to_start}
use Rattle.agent_model.specs.Time.{all_over, at_moment, end_late, first_late, is_late}
use Rattle.agent_model.proofs.AttendedLemmas.{step-attended}
use Rattle.agent_model.proofs.FatedLemmas.{step-fated}
use Rattle.agent_model.proofs.FatedMakeLemmas.{fated-makes}
use Rattle.agent_model.proofs.JobLemmas.{IsIn, in-found, in-found_by}
use Rattle.agent_model.proofs.JudgedRunLemmas.{step-judged}
use Rattle.agent_model.proofs.MakeLemmas.{overs}
use Rattle.agent_model.proofs.TimeLemmas.{at_moment-keeps, none_over}
use Rattle.lists.specs.Rising.{inserted}
use Rattle.agent_core.specs.Bound.{IsAtRest, StillFits}
use Rattle.agent_core.specs.Parts.{after}
use Rattle.agent_core.proofs.ConfirmerLemmas.{quiet-asking}
use Rattle.agent_core.proofs.PaceLemmas.{paced-opened}

-- ---- one behind another

pub put_all-append : (rising first later : List ℕ) → put_all rising (first ++ later) ≡ put_all (put_all rising first) later
put_all-append rising [] later = refl
put_all-append rising (number ∷ first) later = put_all-append (inserted number rising) first later

-- what something closes behind something else is closed behind that
pub after-behind : (closed : List ℕ) (first : Outcome) (next : State → Outcome)
    → after closed (and_then first next) ≡ after (after closed first).closes (next first.state)
after-behind closed first next =
    ap (λ cs. let s : Stepped = record { state = (next first.state).state; closes = cs } in s)
    (put_all-append closed first.closes (next first.state).closes)

-- ---- the first late confirmation is over, again and again

-- as often as there are confirmations
over-length : (all others : List Confirmation) (state : State) → length all ≡ length others → all_over all state ≡ all_over others state
over-length [] [] state same = refl
over-length [] (other ∷ others) state same = absurd (omega (arith, same))
over-length (one ∷ all) [] state same = absurd (omega (arith, same))
over-length (one ∷ all) (other ∷ others) state same =
    let first : Outcome = over_if (first_late state.under_way) state in
    ap (behind first) (over-length all others first.state (omega (arith, same)))

-- one less is left
removed_one : (job : ℕ) (all : List Confirmation) (one : Confirmation) → find_job job all ≡ Some one → suc (length (remove_job job all)) ≡ length all
removed_one job [] one found = absurd cc
removed_one job (first ∷ all) one found = by (eqb first.job job) found (removed_one job all one)
  where
    by : (here : Bool) → cond here (Some first) (find_job job all) ≡ Some one → (find_job job all ≡ Some one → suc (length (remove_job job all)) ≡ length all)
        → suc (length (cond here all (first ∷ remove_job job all))) ≡ suc (length all)
    by true some later = refl
    by false some later = ap suc (later some)

-- what is to be over is what is over first, and then what is to be over
next_over : (all : List Confirmation) (one : Confirmation) (state : State) → first_late state.under_way ≡ Some one → suc (length (over one state).state.under_way.confirmations) ≡ length all
    → all_over all state ≡ and_then (over one state) end_late
next_over [] one state late fewer = absurd (omega (arith, fewer))
next_over (head ∷ others) one state late fewer =
    ap (λ found. and_then (over_if found state) (all_over others)) late
    ∙ ap (behind (over one state)) (over-length others (over one state).state.under_way.confirmations (over one state).state (omega (arith, fewer)))

late_in : (state : State) (one : Confirmation) → first_late state.under_way ≡ Some one → IsIn one state.under_way.confirmations
late_in state one late = in-found_by (is_late state.under_way) state.under_way.confirmations one late

late_there : (state : State) (one : Confirmation) → IsTied state → first_late state.under_way ≡ Some one → find_job one.job state.under_way.confirmations ≡ Some one
late_there state one tied late = in-found one 0 state.under_way.last_job tied.raised.order (late_in state one late)

pub end_late-next : (one : Confirmation) (state : State) → IsTied state → first_late state.under_way ≡ Some one → end_late state ≡ and_then (over one state) end_late
end_late-next one state tied late =
    next_over state.under_way.confirmations one state late
    (removed_one one.job state.under_way.confirmations one (late_there state one tied late))

-- where none is late, nothing is to be over
pub end_late-none : (closed : List ℕ) (state : State) → first_late state.under_way ≡ None → after closed (end_late state) ≡ record { state = state; closes = closed }
end_late-none closed state none = ap (after closed) (none_over state.under_way.confirmations state none)

-- the job that is found is that of the first late one
pub late_one : (found : Option Confirmation) (job : ℕ) → Some job ≡ option_map job_of found → (one : Confirmation) × (found ≡ Some one) × (one.job ≡ job)
late_one None job is = absurd cc
late_one (Some one) job is = (one, refl, sym cc)

pub late_none : (found : Option Confirmation) → None ≡ option_map job_of found → found ≡ None
late_none None is = refl
late_none (Some one) is = absurd cc

pub tied-over : (one : Confirmation) (state : State) → IsTied state → first_late state.under_way ≡ Some one → IsTied (over one state).state
tied-over one state tied late = (fated-makes {event = Tick} (overs one state (late_in state one late)) tied).tied

-- one turn: it is over, and the others remain
pub late_turn : (closed : List ℕ) (one : Confirmation) (state : State) (left : Stepped) → IsTied state → first_late state.under_way ≡ Some one
    → left ≡ after closed (over one state) → after left.closes (end_late left.state) ≡ after closed (end_late state)
late_turn closed one state left tied late left_is =
    ap (λ (s : Stepped). after s.closes (end_late s.state)) left_is
    ∙ sym (after-behind closed (over one state) end_late)
    ∙ sym (ap (after closed) (end_late-next one state tied late))

pub late_tied : (closed : List ℕ) (one : Confirmation) (state : State) (left : Stepped) → IsTied state → first_late state.under_way ≡ Some one
    → left ≡ after closed (over one state) → IsTied left.state
late_tied closed one state left tied late left_is = subst (λ (s : Stepped). IsTied s.state) (sym left_is) (tied-over one state tied late)

pub late_fewer : (closed : List ℕ) (one : Confirmation) (state : State) (left : Stepped) → IsTied state → first_late state.under_way ≡ Some one
    → left ≡ after closed (over one state) → suc (length left.state.under_way.confirmations) ≡ length state.under_way.confirmations
late_fewer closed one state left tied late left_is =
    ap (λ (s : Stepped). suc (length s.state.under_way.confirmations)) left_is
    ∙ removed_one one.job state.under_way.confirmations one (late_there state one tied late)

-- its client is owed nothing
pub late_silent : (job : ℕ) (state : State) → IsTied state → Some job ≡ option_map job_of (first_late state.under_way)
    → IsSomeAnd (find_job job state.under_way.confirmations) (λ one. (port : Port) → find_port one.asker state.ports ≡ Some port → port.owed ≡ [])
late_silent job state tied is =
    let one = late_one (first_late state.under_way) job is in
    let there = ap (λ n. find_job n state.under_way.confirmations) (sym one.2) ∙ late_there state one.0 tied one.1 in
    subst (λ found. IsSomeAnd found (λ (o : Confirmation). (port : Port) → find_port o.asker state.ports ≡ Some port → port.owed ≡ [])) (sym there)
    (λ port found. quiet-asking state.ports state.under_way.confirmations tied.raised.asking job one.0 port there found)

-- the first late one, and that it is found by its job
pub late_found : (job : ℕ) (state : State) → IsTied state → Some job ≡ option_map job_of (first_late state.under_way)
    → (one : Confirmation) × (first_late state.under_way ≡ Some one) × (find_job job state.under_way.confirmations ≡ Some one)
late_found job state tied is =
    let one = late_one (first_late state.under_way) job is in
    (one.0, one.1, ap (λ n. find_job n state.under_way.confirmations) (sym one.2) ∙ late_there state one.0 tied one.1)

-- ---- the moment as a whole

-- it is what an event without anything else leaves
pub rest-opened : (moment : Moment) (state : State) → IsAtRest state → IsAtRest (at_moment moment state)
rest-opened moment state rest = record {
  tied = (step-fated state moment Tick rest.tied).tied;
  attended = step-attended state moment Tick rest.tied rest.attended;
  judged = (step-judged state moment Tick rest.tied rest.judged).judged;
  second = paced-opened moment state;
}

-- it leaves jobs to start and the number of the last port
record HasKept (old new : State) : Type 0 where
  to_start : new.under_way.to_start ≡ old.under_way.to_start
  last : new.last_port ≡ old.last_port

kept_opened : (moment : Moment) (state : State) → HasKept state (at_moment moment state)
kept_opened moment state =
    at_moment-keeps (HasKept state) moment state (λ s kept. record { to_start = kept.to_start; last = kept.last })
    (λ one s there kept. record { to_start = kept.to_start; last = kept.last }) record { to_start = refl; last = refl }

pub still-fits : (moment : Moment) (event : Happening) (state : State) → Fits event state → StillFits event (at_moment moment state)
still-fits moment (Joined door) state fits = omega (arith, fits, (kept_opened moment state).last)
still-fits moment (Heard port piece) state fits = tt
still-fits moment (Ended port) state fits = tt
still-fits moment (Took port count) state fits = tt
still-fits moment (Started job ticket) state fits =
    subst (λ jobs. IsSome (find_to_start job jobs)) (sym (kept_opened moment state).to_start) fits
still-fits moment (StartFailed job) state fits =
    subst (λ jobs. IsSome (find_to_start job jobs)) (sym (kept_opened moment state).to_start) fits
still-fits moment Tick state fits = tt
