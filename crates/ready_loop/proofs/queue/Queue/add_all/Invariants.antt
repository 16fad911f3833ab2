use Rattle.std.proofs.Common.{◌≡◌, drop}
use Rattle.loop_model.specs.Lines.{queued_all}
use Rattle.ready_loop.proofs.queue.Queue.add_all.Given as goal

-- the items from the index on are to be added
abbrev pub invariant-items : goal.invariant-items
invariant-items g l =
    queued_all (g.A.Core.state l.agent) (drop l.item-index l.items) l.self
    ≡ queued_all (g.A.Core.state l.agent) l.items l.fn.self
