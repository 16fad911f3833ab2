use Rattle.std.proofs.Common.{ap}
use Rattle.agent_model.specs.Actions.{Outcome}
use Rattle.agent_model.specs.Events.{Tick}
use Rattle.agent_model.specs.State.{TimeLimits}
use Rattle.agent_model.proofs.OnTimeLemmas.{unlimited-on_time}
use Rattle.agent_model.proofs.TimeLemmas.{on_time-step}
use Rattle.replay_run.proofs.laws.a_moment_without_limits_closes_nothing.Goals as goal

pub returns : goal.returns
returns c = λ moment state none.
    ap (λ (outcome : Outcome). outcome.closes)
    (on_time-step moment state Tick
    (unlimited-on_time moment state (ap (λ (limits : TimeLimits). limits.ask) none)
    (ap (λ (limits : TimeLimits). limits.confirmation) none)))
