use Rattle.std.proofs.Common.{subst, sym}
use Rattle.ready_loop.specs.Standing.{IsStirred}
use Rattle.ready_loop.proofs.RecallLemmas.{own-stirred}
use Rattle.ready_loop.proofs.queue.Queue.recall.Goals as goal

pub call_touched-requires : goal.call_touched-requires
call_touched-requires g c =
    let state = g.A.Core.state c.args.agent.now in
    let touched = g.A.Core.touched c.args.agent.now in
    subst (IsStirred state touched) (sym c.in_ok-call_own.ensures)
    (own-stirred state c.args.own touched c.args.self.now c.requires)
