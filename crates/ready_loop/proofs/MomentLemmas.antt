-- The agent's greatest second is at most the world's.
use Rattle.std.proofs.Common.{◌≡◌, ◌∙◌, ℕ, ◌≤◌, Option, Some, None, max, refl, ap, arith}
use Rattle.helper_link.specs.Telling.{telling}
use Rattle.helper_link.specs.declared.fault.LinkFault.{LinkFault}
use Rattle.world_ports.specs.declared.events.Moment.{Moment}
use Rattle.agent_model.specs.Actions.{Outcome}
use Rattle.agent_model.specs.Answers.{answers_in, lose_if, with_answers}
use Rattle.agent_model.specs.Events.{Happening}
use Rattle.agent_model.specs.State.{State}
use Rattle.agent_model.specs.Step.{handle, step}
use Rattle.agent_model.specs.Time.{at_moment}
use Rattle.agent_model.proofs.MakeLemmas.{Makes, Quiet, alters, by_event, closes, first, goes_on, grants, links, loses, names, overs, serves, stays, tells}
use Rattle.loop_model.proofs.MomentLemmas.{clocks-moment}

moment-quiet : {event : Happening} {old new : State} → Quiet event old new → new.moment ≡ old.moment
moment-quiet (alters number f change) = refl
moment-quiet (closes number may) = refl
moment-quiet (goes_on new goes) = refl
moment-quiet (names job number new) = refl
moment-quiet (links job number new) = refl

moment-lose_if : (fault : Option LinkFault) (state : State)
    → (lose_if fault state).state.moment ≡ state.moment
moment-lose_if None state = refl
moment-lose_if (Some fault) state = refl

moment-makes : {event : Happening} {old : State} {outcome : Outcome} → Makes event old outcome
    → outcome.state.moment ≡ old.moment
moment-makes (stays state) = refl
moment-makes (first quiet makes) = moment-makes makes ∙ moment-quiet quiet
moment-makes (serves body_len port state found door waits owed own) = refl
moment-makes (tells piece state) =
    let told = telling piece state.under_way.link in
    moment-lose_if told.fault (with_answers told.link (answers_in told.settled state) state)
moment-makes (loses state) = refl
moment-makes (overs confirmation state there) = refl
moment-makes (grants confirmation port state there found) = refl

moment-handle : (event : Happening) (state : State)
    → (handle event state).state.moment ≡ state.moment
moment-handle event state =
    by_event (λ (outcome : Outcome). outcome.state.moment ≡ state.moment) event state (λ door. refl)
    (λ outcome makes. moment-makes makes)

-- the second that was read is the greatest, where the agent's was at most the world's
pub second-within : (state next : State) (moment : Moment) (event : Happening) (before now : ℕ)
    → next ≡ (step state moment event).state → state.moment.mono ≤ before → before ≤ moment.mono → now ≡ moment.mono
    → next.moment.mono ≤ now
second-within state next moment event before now is within later read =
    let mono : next.moment.mono ≡ max state.moment.mono moment.mono =
    ap (λ (s : State). s.moment.mono) is
    ∙ ap (λ (m : Moment). m.mono) (moment-handle event (at_moment moment state) ∙ clocks-moment moment state) in
    omega (arith, mono, within, later, read)
