use Rattle.std.proofs.Common.{◌∙◌, ap, subst, sym}
use Rattle.world_ports.specs.declared.events.Door.TheVariants.{Children, Clients}
use Rattle.loop_model.specs.Lines.{Line}
use Rattle.loop_model.specs.Queues.{AreApart}
use Rattle.ready_loop.specs.Standing.{door_aside}
use Rattle.ready_loop.proofs.SettlingLemmas.{settles-last, settles-left}
use Rattle.ready_loop.proofs.queue.Queue.settle.Goals as goal

pub returns-else-not-can_serve : goal.returns-else-not-can_serve
returns-else-not-can_serve g c =
    c.close_all.ensures
    ∙ settles-left (g.A.Core.state c.args.agent.now) (g.A.Core.closes c.args.agent.now) c.args.self.now c.requires
    (sym c.if-not-can_serve.ensures)

pub returns-in_ok-set_door_aside-2 : goal.returns-in_ok-set_door_aside-2
returns-in_ok-set_door_aside-2 g c =
    c.in_ok-set_door_aside-2.ensures ∙ ap (door_aside Children) c.in_ok-set_door_aside.ensures
    ∙ ap (λ (line : Line). door_aside Children (door_aside Clients line)) c.close_all.ensures
    ∙ settles-last (g.A.Core.state c.args.agent.now) (g.A.Core.closes c.args.agent.now) c.args.self.now c.requires
    (subst (λ (line : Line). AreApart line.queue) c.close_all.ensures c.stands_once.ensures)
    (sym c.if-not-can_serve.ensures)
