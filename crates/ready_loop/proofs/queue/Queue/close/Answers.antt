use Rattle.std.proofs.Common.{◌∙◌, List, ap, subst, sym, Bool}
use Rattle.loop_model.specs.Queues.{dropped}
use Rattle.loop_model.specs.Things.{set_of}
use Rattle.loop_model.specs.declared.thing.Thing.{Thing}
use Rattle.loop_model.specs.declared.thing.Thing.TheVariants.{Read, Write}
use Rattle.loop_model.proofs.AsideLemmas.{set_of-dropped}
use Rattle.ready_loop.specs.Marks.{IsMarked}
use Rattle.ready_loop.proofs.MarkedLemmas.{marked-forgotten}
use Rattle.ready_loop.proofs.queue.Queue.close.Goals as goal

pub drop_if-requires : goal.drop_if-requires
drop_if-requires c =
    c.forget-read.ensures.read ∙ ap (λ (hot : Thing → Bool). hot (Read c.args.port)) c.self.invariant.listed

pub drop_if-requires-2 : goal.drop_if-requires-2
drop_if-requires-2 c =
    c.forget-read.ensures.write ∙ ap (λ (hot : Thing → Bool). hot (Write c.args.port)) c.self.invariant.listed
    ∙ sym (ap (λ (hot : Thing → Bool). hot (Write c.args.port)) (set_of-dropped (Read c.args.port) c.self.inside.things.items))
    ∙ sym (ap (λ (things : List Thing). set_of things (Write c.args.port)) c.drop_if.ensures)

pub invariant_of-self : goal.invariant_of-self
invariant_of-self c =
    subst (λ (things : List Thing). IsMarked things c.forget-read.new.self)
    (sym (c.drop_if-2.ensures ∙ ap (dropped (Write c.args.port)) c.drop_if.ensures))
    (subst (IsMarked (dropped (Write c.args.port) (dropped (Read c.args.port) c.self.inside.things.items))) (sym c.forget-read.ensures.left)
    (marked-forgotten c.args.port c.self.inside.things.items c.self.inside.standings c.self.invariant))
