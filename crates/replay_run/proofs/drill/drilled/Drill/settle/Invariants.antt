use Rattle.std.proofs.Common.{◌≡◌, []}
use Rattle.agent_model.specs.Budget.{budget}
use Rattle.replay_run.specs.Drilling.{kept_after}
use Rattle.replay_run.specs.Settling.{takings}
use Rattle.replay_run.proofs.drill.drilled.Drill.settle.Given as goal

-- the rest of the settling leads where all of it does
abbrev pub invariant-takings : goal.invariant-takings
invariant-takings l =
    kept_after (takings l.moment [] l.self.agent) l.self ≡ kept_after (takings l.moment [] l.fn.self.agent) l.fn.self

abbrev pub decreases-takings : goal.decreases-takings
decreases-takings l = budget l.self.agent
