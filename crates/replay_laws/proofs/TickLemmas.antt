-- An event and the tick of its moment.
use Rattle.std.proofs.Common.{◌≡◌, List, [], ◌∷◌, ◌++◌, refl, sym, ap, ◌∙◌}
use Rattle.world_ports.specs.declared.Moment.{Moment}
use Rattle.agent_model.specs.Events.{Happening, Timed}
use Rattle.agent_model.specs.Runs.{run}
use Rattle.agent_model.specs.State.{State}
use Rattle.agent_model.specs.Step.{handle, step}
use Rattle.agent_model.specs.Time.{at_moment}
use Rattle.agent_model.proofs.RunLemmas.{at_moment-twice}
use Rattle.agent_model.proofs.TimeLemmas.{time_passes-put}
use Rattle.replay_laws.specs.Ticks.{ticked, with_ticks}

-- behind its tick an event finds the moment taken in
pub tick-state : (state : State) (moment : Moment) (event : Happening)
    → (step (ticked moment state).state moment event).state ≡ (step state moment event).state
tick-state state moment event =
    ap (λ (s : State). (handle event s).state) (at_moment-twice state moment)

pub tick-put : (state : State) (moment : Moment) (event : Happening)
    → (step (ticked moment state).state moment event).put ≡ (step state moment event).put
tick-put state moment event =
    ap (λ before. before ++ (handle event (at_moment moment (at_moment moment state))).put)
    (time_passes-put moment (at_moment moment state))
    ∙ ap (λ (s : State). (handle event s).put) (at_moment-twice state moment)
    ∙ sym (ap (λ before. before ++ (handle event (at_moment moment state)).put) (time_passes-put moment state))

pub ticks-run : (state : State) (events : List Timed)
    → run state (with_ticks events) ≡ run state events
ticks-run state [] = refl
ticks-run state (timed ∷ later) =
    ap (λ (s : State). run s (with_ticks later)) (tick-state state timed.moment timed.event)
    ∙ ticks-run (step state timed.moment timed.event).state later
