use Rattle.std.proofs.Common.{◌≡◌}
use Rattle.replay_run.specs.Drill.{joined, start_drill}
use Rattle.replay_run.specs.Drilling.{kept}
use Rattle.replay_run.proofs.drill.drilled.Drill.join_clients.Given as goal

abbrev pub invariant-clients : goal.invariant-clients
invariant-clients l = l.self ≡ kept (joined l._client (start_drill l.fn.self.number))
