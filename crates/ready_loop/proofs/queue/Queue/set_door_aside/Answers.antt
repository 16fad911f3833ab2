use Rattle.std.proofs.Common.{List, subst, sym}
use Rattle.loop_model.specs.Queues.{dropped}
use Rattle.loop_model.specs.declared.thing.Thing.{Thing}
use Rattle.loop_model.specs.declared.thing.Thing.TheVariants.{Accept}
use Rattle.ready_loop.specs.Marks.{IsMarked}
use Rattle.ready_loop.proofs.MarkedLemmas.{marked-aside}
use Rattle.ready_loop.proofs.queue.Queue.set_door_aside.Goals as goal

pub invariant_of-self-then-has_thing : goal.invariant_of-self-then-has_thing
invariant_of-self-then-has_thing c =
    let things = c.self.inside.things.items in
    subst (λ (left : List Thing). IsMarked left c.set.new.self) (sym c.drop_from.ensures)
    (subst (IsMarked (dropped (Accept c.args.door) things)) (sym c.in_ok-set.ensures.set)
    (marked-aside (Accept c.args.door) things c.self.inside.standings c.self.invariant))
