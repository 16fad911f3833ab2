use Rattle.std.proofs.Common.{◌≡◌, drop, map}
use Rattle.loop_model.specs.declared.thing.Thing.TheVariants.{Read}
use Rattle.ready_loop.specs.Standing.{called_each}
use Rattle.ready_loop.proofs.queue.Queue.call_reads.Given as goal

-- the ports from the index on are to be called
abbrev pub invariant-ports : goal.invariant-ports
invariant-ports g l =
    called_each (g.A.Core.state l.agent) (map Read (drop l.port-index l.ports)) l.self
    ≡ called_each (g.A.Core.state l.agent) (map Read l.ports) l.fn.self
