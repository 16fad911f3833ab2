use Rattle.std.proofs.Common.{◌≡◌, ◌≤◌, drop}
use Rattle.loop_model.specs.Dues.{due_of}
use Rattle.loop_model.specs.LegalJournal.{in_state}
use Rattle.ready_loop.specs.Moves.{Continues}
use Rattle.ready_loop.proofs.events.close_all.Given as goal

-- the ports from the index on are to be closed
abbrev pub invariant-ports : goal.invariant-ports
invariant-ports g l = let state = g.A.Core.state l.agent in record {
  calls : Continues (in_state state l.queue (due_of (g.A.Core.closes l.agent)))
      (g.W.World.journal l.fn.world) (g.W.World.journal l.world)
      (in_state state l.queue (due_of (drop l.port-index l.port-items)));
  ports : g.W.World.last_port l.world ≡ g.W.World.last_port l.fn.world;
  second : g.W.World.greatest l.world ≡ g.W.World.greatest l.fn.world;
  later : g.W.World.faults l.fn.world ≤ g.W.World.faults l.world;
  led : g.W.World.leads l.fn.world l.world;
}
