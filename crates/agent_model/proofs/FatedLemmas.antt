-- Who waits for the helper stays tied to the asks at each event, and is told what becomes of its ask.
use Rattle.std.proofs.Common.{◌≡◌, ◌≢◌, ℕ, List, [], ◌∷◌, ◌++◌, refl, arith, sym, subst, ◌∙◌}
use Rattle.world_ports.specs.declared.Moment.{Moment}
use Rattle.agent_model.specs.Actions.{Outcome}
use Rattle.agent_model.specs.Events.{Ended, Happening, Tick, Timed, Took}
use Rattle.agent_model.specs.Fates.{Fate, Fails, Gets, IsTold, NoneEnds, Unanswered, actions_of, answer_verdict, fate_of, fate_verdict, or_later}
use Rattle.agent_model.specs.Runs.{run}
use Rattle.agent_model.specs.Sound.{IsTied}
use Rattle.agent_model.specs.State.{OnAsk, Settings, State, first_state}
use Rattle.agent_model.specs.Step.{handle, has_room, step}
use Rattle.agent_model.specs.Time.{at_moment, time_passes}
use Rattle.agent_model.specs.Verdicts.{Awaits, HelperLost, Refuses, Verdict}
use Rattle.agent_model.proofs.FateLemmas.{fate-append}
use Rattle.agent_model.proofs.FatedMakeLemmas.{fated-admitted, fated-makes, tied-taken}
use Rattle.agent_model.proofs.FatedServeLemmas.{Fated}
use Rattle.agent_model.proofs.MakeLemmas.{Makes, by_event}
use Rattle.agent_model.proofs.StillLemmas.{HasHeard, heard-answer, heard-refused, still-handle, still-makes}
use Rattle.agent_model.proofs.TimeLemmas.{time_passes-makes}

-- ---- a moment

-- who was told something is told nothing more
abbrev Stays : State → Outcome → Type 0
Stays old outcome =
    (number : ℕ) (verdict : Verdict) → HasHeard verdict → IsTold number verdict old.ports → IsTold number verdict outcome.state.ports

abbrev Ends : State → Outcome → Type 0
Ends old outcome = IsTied old → Fated Tick old outcome × Stays old outcome

-- what is told of an ask by one thing and then by another
told_both : (number ask : ℕ) (first later : Outcome)
    → IsTold number (fate_verdict (fate_of ask first.actions) ask) first.state.ports
    → (IsTold number (Awaits (OnAsk ask)) first.state.ports → IsTold number (fate_verdict (fate_of ask later.actions) ask) later.state.ports)
    → ((verdict : Verdict) → HasHeard verdict → IsTold number verdict first.state.ports → IsTold number verdict later.state.ports)
    → IsTold number (fate_verdict (fate_of ask (first.actions ++ later.actions)) ask) later.state.ports
told_both number ask first later told more stay =
    subst (λ f. IsTold number (fate_verdict f ask) later.state.ports) (sym (fate-append ask first.actions later.actions))
    (by_fate (fate_of ask first.actions) told)
  where
    by_fate : (fate : Fate) → IsTold number (fate_verdict fate ask) first.state.ports
        → IsTold number (fate_verdict (or_later fate (fate_of ask later.actions)) ask) later.state.ports
    by_fate Unanswered waits = more waits
    by_fate (Gets answer) has = stay (answer_verdict answer) (heard-answer answer) has
    by_fate Fails has = stay (Refuses HelperLost) (heard-refused HelperLost) has

ends_makes : {state : State} {outcome : Outcome} → Makes Tick state outcome → Ends state outcome
ends_makes makes tied =
    (fated-makes makes tied, λ number verdict heard told. still-makes number verdict heard makes (λ is. absurd (cc)) (λ count is. absurd (cc)) tied told)

-- what a moment brings
pub time-fated : (moment : Moment) (state : State) → IsTied state
    → Fated Tick state (time_passes moment state) × Stays state (time_passes moment state)
time-fated moment state tied =
    let ends = time_passes-makes Ends Tick moment state (λ s outcome makes. ends_makes makes)
    (λ s before later first rest at.
    let a = first at in
    let b = rest a.0.tied in (
      record { tied = b.0.tied; told = λ number ask open_yet waits. told_both number ask before later (a.0.told number ask open_yet waits) (b.0.told number ask open_yet) (b.1 number) },
      λ number verdict heard told. b.1 number verdict heard (a.1 number verdict heard told),
    ))
    (tied-taken moment state tied) in
    (record { tied = ends.0.tied; told = ends.0.told }, ends.1)

-- the state that a moment leaves is tied
pub tied-opened : (moment : Moment) (state : State) → IsTied state → IsTied (at_moment moment state)
tied-opened moment state tied = (time-fated moment state tied).0.tied

-- ---- an event behind its moment

-- who waited before is told what the actions make of its ask, unless its port ended, or says that it took what it wasn't
-- owed; and it goes on waiting where they make nothing of it
pub record StepsFated (event : Happening) (old : State) (outcome : Outcome) : Type 0 where
  pub tied : IsTied outcome.state
  pub told : (number ask : ℕ) → event ≢ Ended number → ((count : ℕ) → event ≢ Took number count)
      → IsTold number (Awaits (OnAsk ask)) old.ports
      → IsTold number (fate_verdict (fate_of ask outcome.actions) ask) outcome.state.ports
  pub waits : (number ask : ℕ) → event ≢ Ended number → fate_of ask outcome.actions ≡ Unanswered
      → IsTold number (Awaits (OnAsk ask)) old.ports
      → IsTold number (Awaits (OnAsk ask)) outcome.state.ports

both_unanswered : (one two : Fate) → or_later one two ≡ Unanswered
    → (one ≡ Unanswered) × (two ≡ Unanswered)
both_unanswered Unanswered two is = (refl, is)
both_unanswered (Gets answer) two is = absurd (cc)
both_unanswered Fails two is = absurd (cc)

-- each event
pub step-fated : (state : State) (moment : Moment) (event : Happening) → IsTied state
    → StepsFated event state (step state moment event)
step-fated state moment event tied = record {
  tied = fated.tied;
  told = λ number ask open_yet untaken waits.
      told_both number ask time (handle event opened) (begun.told number ask (λ is. absurd (cc)) waits) (fated.told number ask open_yet)
      (λ verdict heard told. still-handle number verdict heard event opened open_yet untaken begun.tied told);
  waits = λ number ask open_yet unanswered waits.
      let parts = both_unanswered _ _ (sym (fate-append ask time.actions (handle event opened).actions) ∙ unanswered) in
      subst (λ f. IsTold number (fate_verdict f ask) (handle event opened).state.ports) parts.1
      (fated.told number ask open_yet (subst (λ f. IsTold number (fate_verdict f ask) opened.ports) parts.0 (begun.told number ask (λ is. absurd (cc)) waits)));
}
  where
    time : Outcome
    time = time_passes moment state

    opened : State
    opened = at_moment moment state

    begun : Fated Tick state time
    begun = (time-fated moment state tied).0

    fated : Fated event opened (handle event opened)
    fated = by_event (Fated event opened) event opened (λ door. fated-admitted event door opened (has_room door opened.ports opened.under_way) begun.tied) (λ outcome makes. fated-makes makes begun.tied)

-- ---- runs

pub first-tied : (settings : Settings) → IsTied (first_state settings)
first-tied settings = record {
  rising = omega arith;
  order = omega arith;
  tied = record { waits = λ number ask port found is. absurd (cc); asks = λ ask one port there found. absurd (cc) };
  noted = λ ask asker blob put_at size there. absurd (cc);
  askers = λ ask one found. absurd (cc);
  helper = λ number port is found. absurd (cc);
  known = λ number is. absurd (cc);
  raised = record {
    order = omega arith;
    asking = record { waits = λ number job port found is. absurd (cc); asks = λ job one port there found. absurd (cc) };
    askers = λ job one found. absurd (cc);
    confirmers = λ job number one port found at there. absurd (cc);
    known = λ job number one found at. absurd (cc);
  };
}

pub run-tied : (state : State) (events : List Timed) → IsTied state → IsTied (run state events)
run-tied state [] tied = tied
run-tied state (timed ∷ later) tied = run-tied (step state timed.moment timed.event).state later (step-fated state timed.moment timed.event tied).tied

-- until its ask is answered or the helper lost, a client waits
pub waits-until : (number ask : ℕ) (state : State) (events : List Timed) → IsTied state
    → NoneEnds number events → fate_of ask (actions_of state events) ≡ Unanswered
    → IsTold number (Awaits (OnAsk ask)) state.ports
    → IsTold number (Awaits (OnAsk ask)) (run state events).ports
waits-until number ask state [] tied none is told = told
waits-until number ask state (timed ∷ later) tied none is told =
    let now = step-fated state timed.moment timed.event tied in
    let parts = both_unanswered _ _ (sym (fate-append ask (step state timed.moment timed.event).actions (actions_of (step state timed.moment timed.event).state later)) ∙ is) in
    waits-until number ask (step state timed.moment timed.event).state later now.tied none.1 parts.1 (now.waits number ask none.0 parts.0 told)
