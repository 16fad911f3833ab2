use Rattle.std.proofs.Common.{◌∙◌, ap, subst, sym}
use Rattle.loop_model.specs.Lines.{Line}
use Rattle.loop_model.specs.Things.{set_of}
use Rattle.ready_loop.specs.Marks.{IsMarked}
use Rattle.ready_loop.proofs.MarkedLemmas.{marked-put}
use Rattle.ready_loop.proofs.queue.Queue.set_aside.Goals as goal

pub invariant_of-self-2 : goal.invariant_of-self-2
invariant_of-self-2 c =
    subst (IsMarked c.self.inside.things.items) (sym c.in_ok-set.ensures.set)
    (marked-put c.args.thing c.self.inside.things.items c.self.inside.standings c.self.invariant
    (ap (λ (line : Line). set_of line.queue c.args.thing) c.self.view_is ∙ c.requires))
