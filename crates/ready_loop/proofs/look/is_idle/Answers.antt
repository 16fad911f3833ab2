use Rattle.std.proofs.Common.{List, length, ap, sym, ◌∙◌, ◌==◌}
use Rattle.world_ports.specs.declared.events.Job.{Job}
use Rattle.ready_loop.proofs.IdleLemmas.{idle-is}
use Rattle.ready_loop.proofs.look.is_idle.Goals as goal

pub returns-then-is_empty : goal.returns-then-is_empty
returns-then-is_empty g c =
    idle-is (g.A.Core.state c.args.agent.now) c.args.queue.now c.is_empty-then-is_empty.result c.requires
    (ap (λ (jobs : List Job). length jobs == 0) (sym c.starts.ensures) ∙ sym c.is_empty.ensures ∙ c.if-is_empty.true)
    (sym c.is_empty-then-is_empty.ensures)
