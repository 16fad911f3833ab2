use Rattle.std.proofs.Common.{◌≡◌, drop}
use Rattle.ready_loop.specs.Standing.{without_ports}
use Rattle.ready_loop.proofs.queue.Queue.close_all.Given as goal

-- the ports from the index on are to be dropped
abbrev pub invariant-closes : goal.invariant-closes
invariant-closes g l =
    without_ports (drop l.port-index l.port-items) l.self ≡ without_ports (g.A.Core.closes l.agent) l.fn.self
