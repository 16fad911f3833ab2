use Rattle.std.proofs.Common.{ap, subst, sym, ◌∙◌}
use Rattle.loop_model.specs.Lines.{recalled}
use Rattle.ready_loop.specs.Standing.{IsCold, IsStirred}
use Rattle.ready_loop.proofs.HandLemmas.{cold-back, stirred-settled}
use Rattle.ready_loop.proofs.queue.Queue.turn.Goals as goal

pub recall-requires : goal.recall-requires
recall-requires g c =
    let state = g.A.Core.state c.args.agent.now in
    let touched = g.A.Core.touched c.args.agent.now in
    subst (IsStirred state touched) (sym c.in_ok-settle.ensures)
    (stirred-settled state (g.A.Core.closes c.args.agent.now) touched c.args.self.now c.requires.stirred)

pub put_back-requires : goal.put_back-requires
put_back-requires g c =
    let state = g.A.Core.state c.args.agent.now in
    let closes = g.A.Core.closes c.args.agent.now in
    subst (IsCold c.args.hand) (sym (c.in_ok-recall.ensures ∙ ap (recalled state c.args.own) c.in_ok-settle.ensures))
    (cold-back state closes c.args.own c.args.hand c.args.self.now c.requires.cold)
