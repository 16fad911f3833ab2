use Rattle.std.proofs.Common.{◌≡◌, ◌≤◌, List, ℕ}
use Rattle.agent_model.specs.State.{State}
use Rattle.loop_model.specs.Dues.{Free}
use Rattle.loop_model.specs.LegalJournal.{in_state}
use Rattle.loop_model.specs.Lines.{IsExact, IsQuiet}
use Rattle.loop_model.specs.Orderly.{IsOrderly}
use Rattle.ready_loop.specs.Serving.{Running, Runs}
use Rattle.ready_loop.proofs.serving.run.Given as goal

-- the calls so far are a run
abbrev pub invariant-turns : goal.invariant-turns
invariant-turns g l =
    (goal.iterator-turns g).can_next l.iterator' × (goal.iterator-turns g).is_finite l.iterator'
    × ((path : List ℕ) (state : State) → Runs (record { path = path; until_idle = l.until_idle; state = state })
    (Running (in_state (g.A.Core.state l.fn.agent) l.fn.hub Free)) (g.W.World.journal l.fn.world) (g.W.World.journal l.world)
    (Running (in_state (g.A.Core.state l.agent) l.hub Free)))
    × (g.W.World.last_port l.world ≡ (g.A.Core.state l.agent).last_port)
    × IsQuiet (g.A.Core.state l.agent) l.hub
    × (g.W.World.faults l.fn.world ≤ g.W.World.faults l.world)
    × IsOrderly (g.A.Core.state l.agent)
    × IsExact (g.A.Core.state l.agent) l.hub
    × ((g.A.Core.state l.agent).moment.mono ≤ g.W.World.greatest l.world)
    × g.W.World.leads l.fn.world l.world
