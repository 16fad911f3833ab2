use Rattle.std.proofs.Common.{subst}
use Rattle.loop_model.specs.Lines.{Line}
use Rattle.loop_model.specs.Queues.{AreApart}
use Rattle.ready_loop.proofs.queue.Queue.stands_once.Goals as goal

pub returns : goal.returns
returns c = subst (λ (line : Line). AreApart line.queue) c.self.view_is c.self.invariant.once.apart
