-- What a moment brings by itself: time passes, and with it lifetimes and waits come to their end (ours).
use Rattle.std.specs.Prelude.{◌≡◌, ℕ, ◌+◌, ◌<◌, ◌≤◌, max, nat_lt, not, ◌||◌, Bool, false, List, [], ◌∷◌, Option, Some, None}
use Rattle.std.specs.List.{find}
use Rattle.world_ports.specs.declared.Moment.{Moment}
use Rattle.helper_link.specs.declared.ask.Ask.{Ask}
use Rattle.confirm_desk.specs.Confirmations.{Confirmation}
use Rattle.agent_model.specs.KeyStates.{expired}
use Rattle.agent_model.specs.Actions.{Outcome, and_then, stay}
use Rattle.agent_model.specs.Answers.{lose_where}
use Rattle.agent_model.specs.Consents.{over_if}
use Rattle.agent_model.specs.State.{State, TimeLimits, UnderWay}

-- the moment is taken in: the monotonic clock never falls, the wall clock is the one given, and
-- identities whose lifetime has run out leave
abbrev pub taken_in : Moment → State → State
taken_in moment state = record state {
  moment = record { mono = max state.moment.mono moment.mono; wall = moment.wall };
  held = expired (max state.moment.mono moment.mono) state.held;
  under_way = record state.under_way { second = max state.moment.mono moment.mono };
}

-- what began at one second has lasted the limit at another, where there is one
abbrev pub has_lasted : Option ℕ → (since now : ℕ) → Bool
has_lasted None since now = false
has_lasted (Some limit) since now = not (nat_lt now (since + limit))

-- one of these asks has been unanswered for as long as it may be
abbrev pub is_one_late : Option ℕ → ℕ → List Ask → Bool
is_one_late limit now [] = false
is_one_late limit now (ask ∷ asks) = has_lasted limit ask.put_at now || is_one_late limit now asks

-- the helper hasn't answered in time
abbrev pub is_helper_late : UnderWay → Bool
is_helper_late under_way =
    is_one_late under_way.limits.ask under_way.second under_way.link.asks

-- a helper that hasn't answered in time is lost
abbrev pub lose_late : State → Outcome
lose_late state = lose_where (is_helper_late state.under_way) state

-- the user hasn't answered in time
abbrev pub is_late : UnderWay → Confirmation → Bool
is_late under_way one = has_lasted under_way.limits.confirmation one.raised_at under_way.second

-- the first confirmation that the user hasn't answered in time
abbrev pub first_late : UnderWay → Option Confirmation
first_late under_way = find (is_late under_way) under_way.confirmations

-- the first confirmation that the user hasn't answered in time ends, as often as there are
-- confirmations here
abbrev pub all_over : List Confirmation → State → Outcome
all_over [] state = stay state
all_over (one ∷ others) state =
    and_then (over_if (first_late state.under_way) state) (all_over others)

-- what the user hasn't answered in time ends without consent, in the order of the jobs
abbrev pub end_late : State → Outcome
end_late state = all_over state.under_way.confirmations state

-- time passes: identities leave, and then what was waited for too long ends
abbrev pub time_passes : Moment → State → Outcome
time_passes moment state = and_then (lose_late (taken_in moment state)) end_late

-- the state at a moment, before its event
abbrev pub at_moment : Moment → State → State
at_moment moment state = (time_passes moment state).state

-- neither the helper nor the user is late at this moment
pub record IsOnTime (moment : Moment) (state : State) : Type 0 where
  pub helper : is_helper_late (taken_in moment state).under_way ≡ false
  pub user : first_late (taken_in moment state).under_way ≡ None

-- ---- limits that give time

-- a limit, where there is one, is at least a second
abbrev pub GivesTime : Option ℕ → Type 0
GivesTime None = Unit {0}
GivesTime (Some limit) = 0 < limit

-- both limits, where they are set, are at least a second
pub record GiveTime (limits : TimeLimits) : Type 0 where
  pub ask : GivesTime limits.ask
  pub confirmation : GivesTime limits.confirmation

-- the second that is told is yet to come, if one is
abbrev pub IsAhead : ℕ → Option ℕ → Type 0
IsAhead now None = Unit {0}
IsAhead now (Some due) = now < due

-- it has come
abbrev pub IsReached : ℕ → Option ℕ → Type 0
IsReached now None = ⊥
IsReached now (Some due) = due ≤ now
