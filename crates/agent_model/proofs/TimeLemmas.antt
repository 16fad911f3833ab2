-- What a moment brings: the helper is lost where it is late, and then the confirmations end that are late.
use Rattle.std.proofs.Common.{◌≡◌, ℕ, List, [], ◌∷◌, ◌++◌, refl, ap, ◌∙◌, Option, Some, None, Bool, true, false}
use Rattle.world_ports.specs.declared.Moment.{Moment}
use Rattle.confirm_desk.specs.Confirmations.{Confirmation}
use Rattle.agent_model.specs.Actions.{Action, Lost, Outcome, Over, and_then, behind, stay}
use Rattle.agent_model.specs.Answers.{lose, lose_where}
use Rattle.agent_model.specs.Consents.{over, over_if}
use Rattle.agent_model.specs.Events.{Happening}
use Rattle.agent_model.specs.State.{State}
use Rattle.agent_model.specs.Step.{handle, in_order, step}
use Rattle.agent_model.specs.Time.{IsOnTime, all_over, at_moment, end_late, is_helper_late, is_late, first_late, taken_in, time_passes}
use Rattle.agent_model.proofs.JobLemmas.{IsIn, in-found_by}
use Rattle.agent_model.proofs.MakeLemmas.{Makes, loses, overs, stays}

-- ---- what a moment brings, one after another

-- the helper is lost, or a confirmation ends that is there
pub data Passes : State → Outcome → Type 0 where
  passed : (state : State) → Passes state (stay state)
  lost : (state : State) {later : Outcome} → Passes (lose state).state later
      → Passes state (behind (lose state) later)
  ended : (one : Confirmation) (state : State) {later : Outcome}
      → IsIn one state.under_way.confirmations → Passes (over one state).state later
      → Passes state (behind (over one state) later)

-- confirmations end as long as one is late
passes-over : (all : List Confirmation) (state : State) → Passes state (all_over all state)
passes-over [] state = passed state
passes-over (one ∷ others) state = by_found (first_late state.under_way) refl (passes-over others)
  where
    by_found : (found : Option Confirmation) → first_late state.under_way ≡ found
        → ((s : State) → Passes s (all_over others s))
        → Passes state (and_then (over_if found state) (all_over others))
    by_found None is rest = rest state
    by_found (Some late) is rest =
        ended late state (in-found_by (is_late state.under_way) state.under_way.confirmations late is) (rest (over late state).state)

-- what a moment brings behind what it takes in
pub passes : (moment : Moment) (state : State)
    → Passes (taken_in moment state) (time_passes moment state)
passes moment state = by_late (is_helper_late (taken_in moment state).under_way)
  where
    ends : (s : State) → Passes s (end_late s)
    ends s = passes-over s.under_way.confirmations s

    by_late : (is : Bool)
        → Passes (taken_in moment state) (and_then (lose_where is (taken_in moment state)) end_late)
    by_late true = lost (taken_in moment state) (ends (lose (taken_in moment state)).state)
    by_late false = ends (taken_in moment state)

-- ---- what holds of a moment, as it holds of a loss and of an end

-- what holds of a state at each loss and each end
passes-keep : (P : State → Type 0) {state : State} {outcome : Outcome} → Passes state outcome
    → ((s : State) → P s → P (lose s).state)
    → ((one : Confirmation) (s : State) → IsIn one s.under_way.confirmations → P s → P (over one s).state)
    → P state → P outcome.state
passes-keep P (passed state) loss end holds = holds
passes-keep P (lost state later) loss end holds = passes-keep P later loss end (loss state holds)
passes-keep P (ended one state there later) loss end holds =
    passes-keep P later loss end (end one state there holds)

pub at_moment-keeps : (P : State → Type 0) (moment : Moment) (state : State)
    → ((s : State) → P s → P (lose s).state)
    → ((one : Confirmation) (s : State) → IsIn one s.under_way.confirmations → P s → P (over one s).state)
    → P (taken_in moment state) → P (at_moment moment state)
at_moment-keeps P moment state loss end holds = passes-keep P (passes moment state) loss end holds

-- what holds of outcomes one behind another
passes-bring : (R : State → Outcome → Type 0) {state : State} {outcome : Outcome}
    → Passes state outcome → ((s : State) → R s (stay s)) → ((s : State) → R s (lose s))
    → ((one : Confirmation) (s : State) → IsIn one s.under_way.confirmations → R s (over one s))
    → ((s : State) (first later : Outcome) → R s first → R first.state later → R s (behind first later))
    → R state outcome
passes-bring R (passed state) none loss end join = none state
passes-bring R (lost state {later} rest) none loss end join =
    join state (lose state) later (loss state) (passes-bring R rest none loss end join)
passes-bring R (ended one state {later} there rest) none loss end join =
    join state (over one state) later (end one state there) (passes-bring R rest none loss end join)

pub time_passes-brings : (R : State → Outcome → Type 0) (moment : Moment) (state : State)
    → ((s : State) → R s (stay s)) → ((s : State) → R s (lose s))
    → ((one : Confirmation) (s : State) → IsIn one s.under_way.confirmations → R s (over one s))
    → ((s : State) (first later : Outcome) → R s first → R first.state later → R s (behind first later))
    → R (taken_in moment state) (time_passes moment state)
time_passes-brings R moment state none loss end join =
    passes-bring R (passes moment state) none loss end join

-- what holds of each outcome that an event can make, and of one behind another, holds of a moment that passes
pub time_passes-makes : (R : State → Outcome → Type 0) (event : Happening) (moment : Moment) (state : State)
    → ((s : State) (outcome : Outcome) → Makes event s outcome → R s outcome)
    → ((s : State) (first later : Outcome) → R s first → R first.state later → R s (behind first later))
    → R (taken_in moment state) (time_passes moment state)
time_passes-makes R event moment state makes join =
    time_passes-brings R moment state (λ s. makes s (stay s) (stays s)) (λ s. makes s (lose s) (loses s)) (λ one s there. makes s (over one s) (overs one s there)) join

-- ---- its actions, and what it puts

-- the loss of the helper, or the end of a confirmation
pub data IsEnd : Action → Type 0 where
  loss : IsEnd Lost
  end : (job : ℕ) → IsEnd (Over job)

-- all are such
pub data AreEnds : List Action → Type 0 where
  no_more : AreEnds []
  one_more : (action : Action) (later : List Action) → IsEnd action → AreEnds later
      → AreEnds (action ∷ later)

ends-append : (first later : List Action) → AreEnds first → AreEnds later → AreEnds (first ++ later)
ends-append first later no_more rest = rest
ends-append first later (one_more action others is more) rest =
    one_more action (others ++ later) is (ends-append others later more rest)

pub time_passes-ends : (moment : Moment) (state : State)
    → AreEnds (time_passes moment state).actions
time_passes-ends moment state =
    time_passes-brings (λ s outcome. AreEnds outcome.actions) moment state (λ s. no_more) (λ s. one_more Lost [] loss no_more) (λ one s there. one_more (Over one.job) [] (end one.job) no_more)
    (λ s first later. ends-append first.actions later.actions)

-- nothing is put to the helper
pub time_passes-put : (moment : Moment) (state : State) → (time_passes moment state).put ≡ []
time_passes-put moment state =
    time_passes-brings (λ s outcome. outcome.put ≡ []) moment state (λ s. refl) (λ s. refl) (λ one s there. refl)
    (λ s first later none nothing. ap (λ bodies. bodies ++ later.put) none ∙ nothing)

-- ---- where nothing is late

pub none_over : (all : List Confirmation) (state : State) → first_late state.under_way ≡ None
    → all_over all state ≡ stay state
none_over [] state none = refl
none_over (one ∷ others) state none = ap (λ found. and_then (over_if found state) (all_over others)) none ∙ none_over others state none

pub on_time-stays : (moment : Moment) (state : State) → IsOnTime moment state
    → time_passes moment state ≡ stay (taken_in moment state)
on_time-stays moment state on_time =
    ap (λ is. and_then (lose_where is (taken_in moment state)) end_late) on_time.helper
    ∙ none_over state.under_way.confirmations (taken_in moment state) on_time.user

pub on_time-at_moment : (moment : Moment) (state : State) → IsOnTime moment state
    → at_moment moment state ≡ taken_in moment state
on_time-at_moment moment state on_time =
    ap (λ (o : Outcome). o.state) (on_time-stays moment state on_time)

pub on_time-step : (moment : Moment) (state : State) (event : Happening) → IsOnTime moment state
    → step state moment event ≡ in_order (handle event (taken_in moment state))
on_time-step moment state event on_time =
    ap (λ o. in_order (and_then o (handle event))) (on_time-stays moment state on_time)
