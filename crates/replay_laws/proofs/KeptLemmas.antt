-- What no event changes: the limits; and of the moment what was taken in.
use Rattle.std.proofs.Common.{◌≡◌, ◌≤◌, sym, ap, subst, ◌∙◌, max}
use Rattle.std.proofs.Math.Nat.{le-max_right}
use Rattle.world_ports.specs.declared.Moment.{Moment}
use Rattle.agent_model.specs.Events.{Happening}
use Rattle.agent_model.specs.State.{State}
use Rattle.agent_model.specs.Step.{step}
use Rattle.agent_model.specs.Time.{GiveTime, at_moment}
use Rattle.agent_model.proofs.OnTimeLemmas.{at_moment-moment}
use Rattle.agent_model.proofs.TimeKeptLemmas.{at_moment-limits, keeps_time-handle}

pub moment-time : (moment : Moment) (state : State) → GiveTime state.under_way.limits
    → GiveTime (at_moment moment state).under_way.limits
moment-time moment state time = subst GiveTime (sym (at_moment-limits moment state)) time

pub step-time : (state : State) (moment : Moment) (event : Happening)
    → GiveTime state.under_way.limits
    → GiveTime (step state moment event).state.under_way.limits
step-time state moment event time =
    subst GiveTime (sym ((keeps_time-handle event (at_moment moment state)).limits ∙ at_moment-limits moment state)) time

-- an event's moment isn't after the one that its state tells
pub step-after : (state : State) (moment : Moment) (event : Happening)
    → moment.mono ≤ (step state moment event).state.moment.mono
step-after state moment event =
    let is : (step state moment event).state.moment.mono ≡ max state.moment.mono moment.mono =
    ap (λ (m : Moment). m.mono) ((keeps_time-handle event (at_moment moment state)).moment ∙ at_moment-moment moment state) in
    subst (λ n. moment.mono ≤ n) (sym is) (le-max_right state.moment.mono moment.mono)
