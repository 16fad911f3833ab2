use Rattle.std.proofs.Common.{◌∙◌, sym}
use Rattle.ready_loop.proofs.LineLemmas.{cold-both}
use Rattle.ready_loop.proofs.MarkedLemmas.{listed-placed}
use Rattle.ready_loop.proofs.queue.Queue.place.Goals as goal

pub list-requires : goal.list-requires
list-requires g c = (cold-both c.args.thing c.args.self.now c.requires).0

pub set_aside-requires : goal.set_aside-requires
set_aside-requires g c = (cold-both c.args.thing c.args.self.now c.requires).0

pub returns-in_ok-list : goal.returns-in_ok-list
returns-in_ok-list g c =
    c.in_ok-list.ensures
    ∙ listed-placed (g.A.Core.state c.args.agent.now) c.args.thing c.args.self.now c.requires (sym c.if-can_serve.ensures)
