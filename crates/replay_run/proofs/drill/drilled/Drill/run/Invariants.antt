use Rattle.std.proofs.Common.{◌≡◌}
use Rattle.replay_run.specs.Drill.{drilled}
use Rattle.replay_run.specs.Drilling.{kept}
use Rattle.replay_run.proofs.drill.drilled.Drill.run.Given as goal

abbrev pub invariant-rounds : goal.invariant-rounds
invariant-rounds l = l.self ≡ kept (drilled l.round l.fn.self.number)
