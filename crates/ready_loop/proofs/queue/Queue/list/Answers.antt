use Rattle.std.proofs.Common.{◌≡◌, ◌∙◌, ◌∷◌, ◌++◌, [], List, ap, false, subst, sym}
use Rattle.loop_model.specs.Lines.{Line}
use Rattle.loop_model.specs.Things.{set_of}
use Rattle.loop_model.specs.declared.thing.Thing.{Thing}
use Rattle.ready_loop.specs.Marks.{IsMarked, stood}
use Rattle.ready_loop.specs.declared.marks.Standing.TheVariants.{Neither}
use Rattle.ready_loop.proofs.MarkedLemmas.{marked-last, marked-undone}
use Rattle.ready_loop.proofs.queue.Queue.list.Goals as goal

pub invariant_of-self-in-Ok : goal.invariant_of-self-in-Ok
invariant_of-self-in-Ok c =
    let things = c.self.inside.things.items in
    let absent : set_of things c.args.thing ≡ false =
    ap (λ (line : Line). set_of line.queue c.args.thing) c.self.view_is ∙ c.requires in
    subst (λ (ts : List Thing). IsMarked ts c.set.new.self) (sym {A = List Thing} c.in-Ok.ensures.items)
    (subst (IsMarked (things ++ c.args.thing ∷ [])) (sym c.in_ok-set.ensures.set)
    (marked-last c.args.thing things c.self.inside.standings c.self.invariant absent))

pub invariant_of-self-in_default : goal.invariant_of-self-in_default
invariant_of-self-in_default c =
    let things = c.self.inside.things.items in
    let absent : set_of things c.args.thing ≡ false =
    ap (λ (line : Line). set_of line.queue c.args.thing) c.self.view_is ∙ c.requires in
    subst (λ (ts : List Thing). IsMarked ts c.clear.new.self) (sym {A = List Thing} c.in_default.ensures.items)
    (subst (IsMarked things) (sym (c.clear.ensures ∙ ap (stood c.args.thing Neither) c.in_ok-set.ensures.set))
    (marked-undone c.args.thing things c.self.inside.standings c.self.invariant absent))
