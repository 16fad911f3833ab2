-- What the actions tell of a confirmation is what is waited for, and each ends once.
use Rattle.std.proofs.Common.{◌≡◌, ℕ, ◌+◌, ◌≤◌, List, [], ◌∷◌, ◌++◌, refl, ap, arith, sym, subst, ◌∙◌, ◌==◌, ◌⊎◌, nat_lt, Option, Some, None, IsSome, Bool, true, false, cond, if◌then◌else◌, inl, inr}
use Rattle.std.specs.Option.{option_map}
use Rattle.std.proofs.lemmas.Bool.Decides.{nat_tests}
use Rattle.std.proofs.lemmas.List.Sums.{sum_by-append, sum_by-cons}
use Rattle.wire_text.specs.Frames.{front_body}
use Rattle.world_ports.specs.declared.Moment.{Moment}
use Rattle.confirm_desk.specs.Confirmations.{Confirmation, change_job, confirmation_of, find_job, linked_at, remove_job}
use Rattle.confirm_desk.specs.Prompt.{prompt_for}
use Rattle.dest_rule.specs.declared.binding.Binding.{Binding}
use Rattle.helper_link.specs.Telling.{telling}
use Rattle.helper_link.specs.declared.fault.LinkFault.{LinkFault}
use Rattle.agent_model.specs.Actions.{Action, Granted, Outcome, Over, Raised, Raising, Requested, Requesting, Work}
use Rattle.agent_model.specs.Answers.{answers_in, lose_if, with_answers}
use Rattle.agent_model.specs.Asking.{JobsRise}
use Rattle.agent_model.specs.Consents.{without_confirmation}
use Rattle.agent_model.specs.Dispatch.{Asker, Served, host_for}
use Rattle.agent_model.specs.Errands.{held_for}
use Rattle.agent_model.specs.Events.{Happening, Tick, Timed}
use Rattle.agent_model.specs.Fates.{actions_of}
use Rattle.agent_model.specs.Grants.{IsAmong}
use Rattle.agent_laws.specs.Grants.{Wanted, ends_by, noted, pending_after, pending_by, raises_by, times_ended, times_raised, wanted, wanted_of}
use Rattle.agent_model.specs.KeyStates.{KeyState}
use Rattle.agent_model.specs.Runs.{run}
use Rattle.agent_model.specs.Sound.{IsTied}
use Rattle.agent_model.specs.State.{State, UnderWay}
use Rattle.agent_model.specs.Step.{asker_at, handle, step}
use Rattle.agent_model.specs.Time.{at_moment, taken_in, time_passes}
use Rattle.agent_model.proofs.ActionLemmas.{ArePlain, IsPlain, among-each, plain-tells}
use Rattle.agent_model.proofs.FatedLemmas.{step-fated, tied-opened}
use Rattle.agent_model.proofs.TiedLemmas.{tied-quiet}
use Rattle.agent_model.proofs.GrantLemmas.{IsGranted, allowed, disallowed, grant-ends, unasked}
use Rattle.agent_model.proofs.GrowLemmas.{jobs-for}
use Rattle.agent_model.proofs.JobLemmas.{find_job-push, find_job-remove, in-found, job-change, job_within}
use Rattle.agent_model.proofs.MakeLemmas.{IsFaint, Kept, Makes, Quiet, altered, alters, by_event, closes, first, goes_on, grants, links, loses, names, overs, same_asks, serves, stays, tells, unchanged}
use Rattle.agent_model.proofs.OnceLemmas.{unused}
use Rattle.agent_laws.proofs.MomentLemmas.{tied-brings}
use Rattle.agent_laws.proofs.PendingLemmas.{among-either, ended-plain, pending-append, pending-plain}
use Rattle.agent_model.proofs.ServeLemmas.{IsServed, answered, asked, raised, refused, serve-ends}

-- ---- what is noted of a confirmation

wanted-is : (f : Confirmation → Confirmation) → IsFaint f → (c : Confirmation)
    → wanted_of (f c) ≡ wanted_of c
wanted-is f faint c = rw (faint.asker c, faint.addition c, faint.message c, faint.flags c) refl

noted-changed : (job at : ℕ) (f : Confirmation → Confirmation)
    → ((c : Confirmation) → (f c).job ≡ c.job)
    → ((c : Confirmation) → wanted_of (f c) ≡ wanted_of c) → (confirmations : List Confirmation)
    → noted job (change_job at f confirmations) ≡ noted job confirmations
noted-changed job at f jobs same all = elim (job-change job at f all jobs) [
  | inl is ↦ ap (option_map wanted_of) is
  | inr is ↦ ap (option_map wanted_of) is ∙ by_found (find_job job all)
]
  where
    by_found : (found : Option Confirmation)
        → option_map wanted_of (option_map f found) ≡ option_map wanted_of found
    by_found None = refl
    by_found (Some one) = ap Some (same one)

noted-kept : (job : ℕ) {old new : List Confirmation} → Kept old new → noted job new ≡ noted job old
noted-kept job unchanged = refl
noted-kept job {old = old} (altered at f faint) =
    noted-changed job at f faint.job (wanted-is f faint) old

-- ---- what an event does to one

-- 1 where it is noted
abbrev pub noted_by : Option Wanted → ℕ
noted_by None = 0
noted_by (Some one) = 1

noted_most : (found : Option Wanted) → noted_by found ≤ 1
noted_most None = omega arith
noted_most (Some one) = omega arith

-- how often it can still end: once where it is waited for, or may yet be raised
abbrev pub endable : ℕ → UnderWay → ℕ
endable job under_way =
    if nat_lt under_way.last_job job then 1 else noted_by (noted job under_way.confirmations)

pub endable_most : (job : ℕ) (under_way : UnderWay) → endable job under_way ≤ 1
endable_most job under_way =
    let most = noted_most (noted job under_way.confirmations) in
    grind (arith, nat_tests)

-- and not more often where no number falls and what is noted stays
unused_falls : (job old new : ℕ) → old ≤ new → unused job new ≤ unused job old
unused_falls job old new rises = grind (arith, nat_tests)

endable_falls : (job : ℕ) (old new : UnderWay) → old.last_job ≤ new.last_job
    → noted job new.confirmations ≡ noted job old.confirmations → endable job new ≤ endable job old
endable_falls job old new rises same =
    let most = noted_most (noted job new.confirmations) in
    let alike = ap noted_by same in
    grind (arith, nat_tests)

pub record Traces (job : ℕ) (old : UnderWay) (actions : List Action) (new : UnderWay) : Type 0 where
  pub pending : (before : Option Raising) → noted job old.confirmations ≡ option_map wanted before
      → noted job new.confirmations ≡ option_map wanted (pending_after job actions before)
  pub ended : times_ended job actions + endable job new ≤ endable job old
  pub raised : times_raised job actions + unused job new.last_job ≤ unused job old.last_job
  pub granted : IsAmong (Granted job) actions → IsSome (noted job old.confirmations)
  pub over : IsAmong (Over job) actions → IsSome (noted job old.confirmations)

-- nothing comes of it but that jobs are given
traces-plain : (job : ℕ) (old new : UnderWay) (actions : List Action) → ArePlain actions
    → old.last_job ≤ new.last_job → noted job new.confirmations ≡ noted job old.confirmations
    → Traces job old actions new
traces-plain job old new actions plain rises same = record {
  pending = λ before is. same ∙ is ∙ ap (option_map wanted) (sym (pending-plain job actions before plain));
  ended = omega (arith, (ended-plain job actions plain).0, endable_falls job old new rises same);
  raised = omega (arith, (ended-plain job actions plain).1, unused_falls job old.last_job new.last_job rises);
  granted = λ among. absurd (among-each IsPlain (Granted job) actions (λ is. is) plain among);
  over = λ among. absurd (among-each IsPlain (Over job) actions (λ is. is) plain among);
}

-- one is raised
traces-raised : (job : ℕ) (old new : UnderWay) (requesting : Requesting) (raising : Raising) (one : Confirmation)
    → JobsRise 0 old.confirmations old.last_job → new.last_job ≡ old.last_job + 1
    → new.confirmations ≡ old.confirmations ++ one ∷ [] → one.job ≡ old.last_job + 1
    → raising.job ≡ old.last_job + 1 → wanted_of one ≡ wanted raising
    → Traces job old (Requested requesting ∷ Raised raising ∷ []) new
traces-raised job old new requesting raising one rise last more number numbered alike = record {
  pending = λ before is. found ∙ by_test (one.job == job) (raising.job == job) (ap (λ n. n == job) (numbered ∙ sym number)) before is;
  ended = by_ends (nat_lt old.last_job job) refl;
  raised = omega (arith, sum_by-cons (raises_by job) (Requested requesting) (Raised raising ∷ []), sum_by-cons (raises_by job) (Raised raising) [], by_raises (raising.job == job) (nat_lt old.last_job job) (nat_lt new.last_job job) refl refl refl);
  granted = λ among. absurd (by_two _ among (λ is. absurd (cc)) (λ is. absurd (cc)));
  over = λ among. absurd (by_two _ among (λ is. absurd (cc)) (λ is. absurd (cc)));
}
  where
    by_two : (action : Action) → IsAmong action (Requested requesting ∷ Raised raising ∷ [])
        → (Requested requesting ≡ action → ⊥) → (Raised raising ≡ action → ⊥) → ⊥
    by_two action (inl is) one_is two_is = one_is is
    by_two action (inr (inl is)) one_is two_is = two_is is
    by_two action (inr (inr none)) one_is two_is = none

    found : noted job new.confirmations ≡ option_map wanted_of (cond (one.job == job) (Some one) (find_job job old.confirmations))
    found = ap (noted job) more ∙ ap (option_map wanted_of) (find_job-push job 0 one old.confirmations old.last_job rise (omega (arith, number)))

    by_test : (is same : Bool) → same ≡ is → (before : Option Raising)
        → noted job old.confirmations ≡ option_map wanted before
        → option_map wanted_of (cond is (Some one) (find_job job old.confirmations)) ≡ option_map wanted (if same then Some raising else before)
    by_test true true equal before is = ap Some alike
    by_test true false equal before is = absurd (cc)
    by_test false true equal before is = absurd (cc)
    by_test false false equal before is = is

    by_ends : (above : Bool) → nat_lt old.last_job job ≡ above
        → 0 + endable job new ≤ (if above then 1 else noted_by (noted job old.confirmations))
    by_ends true is = omega (arith, endable_most job new)
    by_ends false is =
        let low : nat_lt new.last_job job ≡ false = grind (arith, nat_tests) in
        let other : (one.job == job) ≡ false = grind (arith, nat_tests) in
        omega (arith, ap {B = ℕ} (λ b. if b then 1 else noted_by (noted job new.confirmations)) low, ap noted_by found, ap (λ b. noted_by (option_map wanted_of (cond b (Some one) (find_job job old.confirmations)))) other)

    by_raises : (same above later : Bool) → (raising.job == job) ≡ same
        → nat_lt old.last_job job ≡ above → nat_lt new.last_job job ≡ later
        → (if same then 1 else 0) + (if later then 1 else 0) ≤ (if above then 1 else 0)
    by_raises true true true s a l = absurd (grind (arith, nat_tests, numbered, last))
    by_raises true true false s a l = omega arith
    by_raises true false later s a l = absurd (grind (arith, nat_tests, numbered, last))
    by_raises false true true s a l = omega arith
    by_raises false true false s a l = omega arith
    by_raises false false true s a l = absurd (grind (arith, nat_tests, last))
    by_raises false false false s a l = omega arith

-- one ends
traces-ended : (job : ℕ) (old new : UnderWay) (end : Action) (actions : List Action) (one : Confirmation)
    → ((n : ℕ) (before : Option Raising) → pending_by n end before ≡ (if one.job == n then None else before))
    → ((n : ℕ) → ends_by n end ≡ (if one.job == n then 1 else 0)) → ((n : ℕ) → raises_by n end ≡ 0)
    → ((n : ℕ) → (end ≡ Granted n) ⊎ (end ≡ Over n) → n ≡ one.job)
    → JobsRise 0 old.confirmations old.last_job → find_job one.job old.confirmations ≡ Some one
    → old.last_job ≤ new.last_job → new.confirmations ≡ remove_job one.job old.confirmations
    → ArePlain actions → Traces job old (end ∷ actions) new
traces-ended job old new end actions one leaves ends raises whose rise there rises less plain = record {
  pending = λ before is.
      found ∙ by_pending (one.job == job) before is ∙ ap (option_map wanted) (sym (leaves job before))
      ∙ ap (option_map wanted) (sym (pending-plain job actions (pending_by job end before) plain));
  ended = omega (arith, sum_by-cons (ends_by job) end actions, ends job, (ended-plain job actions plain).0, by_ends (one.job == job) refl);
  raised = omega (arith, sum_by-cons (raises_by job) end actions, raises job, (ended-plain job actions plain).1, unused_falls job old.last_job new.last_job rises);
  granted = λ among. by_among (Granted job) among (λ is. whose job (inl is)) (λ is. is);
  over = λ among. by_among (Over job) among (λ is. whose job (inr is)) (λ is. is);
}
  where
    found : noted job new.confirmations ≡ option_map wanted_of (cond (one.job == job) None (find_job job old.confirmations))
    found = ap (noted job) less ∙ ap (option_map wanted_of) (find_job-remove job one.job 0 old.confirmations old.last_job rise)

    by_pending : (is : Bool) (before : Option Raising)
        → noted job old.confirmations ≡ option_map wanted before
        → option_map wanted_of (cond is None (find_job job old.confirmations)) ≡ option_map wanted (if is then None else before)
    by_pending true before is = refl
    by_pending false before is = is

    is_noted : job ≡ one.job → noted job old.confirmations ≡ Some (wanted_of one)
    is_noted same = ap (λ n. noted n old.confirmations) same ∙ ap (option_map wanted_of) there

    by_among : (action : Action) → IsAmong action (end ∷ actions) → (end ≡ action → job ≡ one.job)
        → (IsPlain action → ⊥) → IsSome (noted job old.confirmations)
    by_among action (inl is) own other = subst IsSome (sym (is_noted (own is))) refl
    by_among action (inr later) own other =
        absurd (among-each IsPlain action actions other plain later)

    by_ends : (is : Bool) → (one.job == job) ≡ is
        → (if is then 1 else 0) + endable job new ≤ endable job old
    by_ends true is =
        let same : job ≡ one.job = grind (arith, nat_tests) in
        let within = job_within one.job 0 old.confirmations old.last_job one rise there in
        let old_low : nat_lt old.last_job job ≡ false = grind (arith, nat_tests, within.1) in
        let new_low : nat_lt new.last_job job ≡ false = grind (arith, nat_tests, within.1) in
        omega (
          arith,
          ap {B = ℕ} (λ b. if b then 1 else noted_by (noted job new.confirmations)) new_low,
          ap {B = ℕ} (λ b. if b then 1 else noted_by (noted job old.confirmations)) old_low,
          ap noted_by found,
          ap (λ b. noted_by (option_map wanted_of (cond b None (find_job job old.confirmations)))) is,
          ap noted_by (is_noted same),
        )
    by_ends false is =
        omega (arith, endable_falls job old new rises (found ∙ ap (λ b. option_map wanted_of (cond b None (find_job job old.confirmations))) is))

-- ---- events

traces-in_turn : {job : ℕ} {old mid new : UnderWay} {more : List Action}
    → old.last_job ≤ mid.last_job → noted job mid.confirmations ≡ noted job old.confirmations
    → Traces job mid more new → Traces job old more new
traces-in_turn {job} {old} {mid} rises same later =
    let before = traces-plain job old mid [] tt rises same in
    record {
      pending = λ was is. later.pending was (same ∙ is);
      ended = omega (arith, later.ended, before.ended);
      raised = omega (arith, later.raised, before.raised);
      granted = λ among. subst IsSome same (later.granted among);
      over = λ among. subst IsSome same (later.over among);
    }

-- a quiet change leaves it
pub quiet-noted : (job : ℕ) {event : Happening} {old new : State} → Quiet event old new
    → (old.under_way.last_job ≤ new.under_way.last_job) × (noted job new.under_way.confirmations ≡ noted job old.under_way.confirmations)
quiet-noted job (alters number f change) = (omega arith, refl)
quiet-noted job (closes number may) = (omega arith, refl)
quiet-noted job (goes_on new goes) =
    (omega (arith, (same_asks goes).jobs), noted-kept job (same_asks goes).kept)
quiet-noted job (names at number new) = (omega arith, refl)
quiet-noted job {old = old} (links at number new) =
    (omega arith, noted-changed job at (linked_at number) (λ c. refl) (λ c. refl) old.under_way.confirmations)

module _ (job : ℕ) where
  traces-served : {asker : Asker} {held : KeyState} {under_way : UnderWay} {served : Served} (requesting : Requesting)
      → JobsRise 0 under_way.confirmations under_way.last_job → IsServed asker held under_way served
      → Traces job under_way (Requested requesting ∷ served.work.actions) served.work.under_way
  traces-served {under_way = under_way} requesting rise (answered reply kept same) =
      traces-plain job under_way under_way _ (tt, tt) (omega arith) refl
  traces-served {under_way = under_way} requesting rise (refused cause) =
      traces-plain job under_way under_way _ (tt, tt) (omega arith) refl
  traces-served {under_way = under_way} requesting rise (asked errand free right) =
      traces-plain job under_way _ _ (tt, (tt, tt)) (jobs-for under_way.link.state under_way.last_job) refl
  traces-served {asker = asker} {under_way = under_way} requesting rise (raised key signing free) =
      traces-raised job under_way _ requesting (record { job = under_way.last_job + 1; port = asker.port; addition = key.number; signing = signing })
      (confirmation_of (under_way.last_job + 1) (held_for asker.port key signing) (prompt_for key.comment key.blob key.purposes (host_for asker key signing) signing.message) under_way.second) rise refl refl refl refl refl

  module _ (confirmation : Confirmation) (under_way : UnderWay) (rise : JobsRise 0 under_way.confirmations under_way.last_job) (there : find_job confirmation.job under_way.confirmations ≡ Some confirmation) where
    traces-over : Traces job under_way (Over confirmation.job ∷ []) (without_confirmation confirmation.job under_way)
    traces-over =
        traces-ended job under_way _ (Over confirmation.job) [] confirmation (λ n before. refl) (λ n. refl) (λ n. refl) (λ n is. by_end n is) rise there (omega arith) refl tt
      where
        by_end : (n : ℕ) → (Over confirmation.job ≡ Granted n) ⊎ (Over confirmation.job ≡ Over n)
            → n ≡ confirmation.job
        by_end n (inl other) = absurd (cc)
        by_end n (inr is) = let same : confirmation.job ≡ n = cc in sym same

    by_grant : (n : ℕ)
        → (Granted confirmation.job ≡ Granted n) ⊎ (Granted confirmation.job ≡ Over n)
        → n ≡ confirmation.job
    by_grant n (inl is) = let same : confirmation.job ≡ n = cc in sym same
    by_grant n (inr other) = absurd (cc)

    traces-granted : {chain : List Binding} {wall : ℕ} {held : KeyState} {work : Work}
        → IsGranted chain confirmation wall held (without_confirmation confirmation.job under_way) work
        → Traces job under_way (Granted confirmation.job ∷ work.actions) work.under_way
    traces-granted (disallowed never) =
        traces-ended job under_way _ (Granted confirmation.job) [] confirmation (λ n before. refl) (λ n. refl) (λ n. refl) by_grant rise there (omega arith) refl tt
    traces-granted (unasked cause key may fault) =
        traces-ended job under_way _ (Granted confirmation.job) [] confirmation (λ n before. refl) (λ n. refl) (λ n. refl) by_grant rise there (omega arith) refl tt
    traces-granted (allowed key may free) =
        traces-ended job under_way _ (Granted confirmation.job) _ confirmation (λ n before. refl) (λ n. refl) (λ n. refl) by_grant rise there (jobs-for under_way.link.state under_way.last_job) refl (tt, tt)

  traces-loss : (fault : Option LinkFault) (old : UnderWay) (mid : State) (actions : List Action)
      → ArePlain actions → old.last_job ≤ mid.under_way.last_job
      → noted job mid.under_way.confirmations ≡ noted job old.confirmations
      → Traces job old actions (lose_if fault mid).state.under_way
  traces-loss None old mid actions plain rises same =
      traces-plain job old mid.under_way actions plain rises same
  traces-loss (Some fault) old mid actions plain rises same =
      traces-plain job old _ actions plain rises same

  traces-makes : {event : Happening} {old : State} {outcome : Outcome} → Makes event old outcome
      → IsTied old → Traces job old.under_way outcome.actions outcome.state.under_way
  traces-makes (stays state) tied =
      traces-plain job state.under_way state.under_way [] tt (omega arith) refl
  traces-makes (first quiet rest) tied =
      let change = quiet-noted job quiet in
      traces-in_turn change.0 change.1 (traces-makes rest (tied-quiet quiet tied))
  traces-makes (serves body_len port state found door nothing owed own) tied =
      traces-served _ tied.raised.order (serve-ends (asker_at state.moment port) state.held state.under_way (front_body body_len port.heard))
  traces-makes (tells piece state) tied =
      let told = telling piece state.under_way.link in
      traces-loss told.fault state.under_way (with_answers told.link (answers_in told.settled state) state) _ (plain-tells told state) (omega arith) refl
  traces-makes (loses state) tied = traces-plain job state.under_way _ _ (tt, tt) (omega arith) refl
  traces-makes (overs confirmation state there) tied =
      traces-over confirmation state.under_way tied.raised.order (in-found confirmation 0 state.under_way.last_job tied.raised.order there)
  traces-makes (grants confirmation port state there opened) tied =
      traces-granted confirmation state.under_way tied.raised.order (in-found confirmation 0 state.under_way.last_job tied.raised.order there) (grant-ends port.chain confirmation state)

  -- what a moment ends, it ends alone: nothing is raised
  record Ends (old : State) (outcome : Outcome) : Type 0 where
    traces : Traces job old.under_way outcome.actions outcome.state.under_way
    fewer : IsSome (noted job outcome.state.under_way.confirmations)
        → IsSome (noted job old.under_way.confirmations)

  left_noted : (other : ℕ) (under_way : UnderWay)
      → JobsRise 0 under_way.confirmations under_way.last_job
      → IsSome (noted job (remove_job other under_way.confirmations))
      → IsSome (noted job under_way.confirmations)
  left_noted other under_way rise some = by_test (other == job) (subst (λ found. IsSome (option_map wanted_of found)) (find_job-remove job other 0 under_way.confirmations under_way.last_job rise) some)
    where
      by_test : (is : Bool)
          → IsSome (option_map wanted_of (cond is None (find_job job under_way.confirmations)))
          → IsSome (noted job under_way.confirmations)
      by_test true none = absurd (let no : IsSome {T = Wanted} None = none in cc)
      by_test false is = is

  ends-in_turn : {old mid new : UnderWay} (some more : List Action)
      → (IsSome (noted job mid.confirmations) → IsSome (noted job old.confirmations))
      → Traces job old some mid → Traces job mid more new → Traces job old (some ++ more) new
  ends-in_turn some more fewer one two = record {
    pending = λ before is. two.pending (pending_after job some before) (one.pending before is) ∙ ap (option_map wanted) (sym (pending-append job some more before));
    ended = omega (arith, one.ended, two.ended, sum_by-append (ends_by job) some more);
    raised = omega (arith, one.raised, two.raised, sum_by-append (raises_by job) some more);
    granted = λ among. by_either one.granted (λ is. fewer (two.granted is)) (among-either (Granted job) some more among);
    over = λ among. by_either one.over (λ is. fewer (two.over is)) (among-either (Over job) some more among);
  }
    where
      by_either : {A B C : Type 0} → (A → C) → (B → C) → A ⊎ B → C
      by_either left right (inl a) = left a
      by_either left right (inr b) = right b

  moment-ends : (moment : Moment) (state : State) → IsTied state
      → Ends (taken_in moment state) (time_passes moment state)
  moment-ends moment state tied =
      tied-brings Ends moment state tied
      (λ s. record { traces = traces-plain job s.under_way s.under_way [] tt (omega arith) refl; fewer = λ is. is })
      (λ s at. record { traces = traces-makes {event = Tick} (loses s) at; fewer = λ is. is })
      (λ one s there at. record { traces = traces-makes {event = Tick} (overs one s there) at; fewer = left_noted one.job s.under_way at.raised.order })
      (λ s first later one two. record { traces = ends-in_turn first.actions later.actions one.fewer one.traces two.traces; fewer = λ is. one.fewer (two.fewer is) })

  -- what is waited for at a moment is what its actions leave
  pub moment-pending : (moment : Moment) (state : State) → IsTied state → (before : Option Raising)
      → noted job state.under_way.confirmations ≡ option_map wanted before
      → noted job (at_moment moment state).under_way.confirmations ≡ option_map wanted (pending_after job (time_passes moment state).actions before)
  moment-pending moment state tied before is =
      (moment-ends moment state tied).traces.pending before is

  pub step-traces : (state : State) (moment : Moment) (event : Happening) → IsTied state
      → Traces job state.under_way (step state moment event).actions (step state moment event).state.under_way
  step-traces state moment event tied =
      let opened : State = at_moment moment state in
      let before = moment-ends moment state tied in
      let now : Traces job opened.under_way (handle event opened).actions (handle event opened).state.under_way =
      by_event (λ outcome. Traces job opened.under_way outcome.actions outcome.state.under_way) event opened
      (λ door. traces-plain job opened.under_way opened.under_way [] tt (omega arith) refl) (λ outcome makes. traces-makes makes (tied-opened moment state tied)) in
      let both = ends-in_turn (time_passes moment state).actions (handle event opened).actions before.fewer before.traces now in
      record { pending = both.pending; ended = both.ended; raised = both.raised; granted = both.granted; over = both.over }

  -- ---- runs

  -- what is waited for is what the actions tell
  pub run-pending : (state : State) (events : List Timed) (before : Option Raising) → IsTied state
      → noted job state.under_way.confirmations ≡ option_map wanted before
      → noted job (run state events).under_way.confirmations ≡ option_map wanted (pending_after job (actions_of state events) before)
  run-pending state [] before tied is = is
  run-pending state (timed ∷ later) before tied is =
      let now = step-traces state timed.moment timed.event tied in
      let mid : State = (step state timed.moment timed.event).state in
      run-pending mid later (pending_after job (step state timed.moment timed.event).actions before) (step-fated state timed.moment timed.event tied).tied (now.pending before is)
      ∙ ap (option_map wanted) (sym (pending-append job (step state timed.moment timed.event).actions (actions_of mid later) before))

  -- each ends once, and is raised once
  pub run-ended : (state : State) (events : List Timed) → IsTied state
      → times_ended job (actions_of state events) + endable job (run state events).under_way ≤ endable job state.under_way
  run-ended state [] tied = omega arith
  run-ended state (timed ∷ later) tied =
      let now = step-traces state timed.moment timed.event tied in
      let mid : State = (step state timed.moment timed.event).state in
      omega (arith, now.ended, run-ended mid later (step-fated state timed.moment timed.event tied).tied, sum_by-append (ends_by job) (step state timed.moment timed.event).actions (actions_of mid later))

  pub run-raised : (state : State) (events : List Timed) → IsTied state
      → times_raised job (actions_of state events) + unused job (run state events).under_way.last_job ≤ unused job state.under_way.last_job
  run-raised state [] tied = omega arith
  run-raised state (timed ∷ later) tied =
      let now = step-traces state timed.moment timed.event tied in
      let mid : State = (step state timed.moment timed.event).state in
      omega (arith, now.raised, run-raised mid later (step-fated state timed.moment timed.event tied).tied, sum_by-append (raises_by job) (step state timed.moment timed.event).actions (actions_of mid later))
