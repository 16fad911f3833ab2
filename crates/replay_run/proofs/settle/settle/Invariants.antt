use Rattle.std.proofs.Common.{◌≡◌, ◌++◌}
use Rattle.std.specs.List.{flat_map}
use Rattle.agent_model.specs.Budget.{budget}
use Rattle.replay_run.specs.Settling.{settled, takings}
use Rattle.replay_run.specs.Told.{told_from}
use Rattle.replay_run.proofs.settle.settle.Given as goal

-- what is noted, and what the rest of the settling tells, are what all of it tells
abbrev pub invariant-takings : goal.invariant-takings
invariant-takings g l = record {
  agent : settled l.moment l.held l.agent.state ≡ settled l.moment l.held l.fn.agent.state;
  notes : g.W.Watch.notes l.watch ++ flat_map g.W.Watch.notes_of (told_from l.line l.agent.state (takings l.moment l.held l.agent.state))
      ≡ g.W.Watch.notes l.fn.watch ++ flat_map g.W.Watch.notes_of (told_from l.line l.fn.agent.state (takings l.moment l.held l.fn.agent.state));
}

abbrev pub decreases-takings : goal.decreases-takings
decreases-takings g l = budget l.agent.state
