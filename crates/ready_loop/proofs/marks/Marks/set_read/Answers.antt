use Rattle.std.proofs.Common.{◌∙◌, List, ap, refl, subst, sym}
use Rattle.lists.specs.Rising.{IsRisingList}
use Rattle.ready_loop.specs.Marks.{mark_of, marked, ports_of, with_read}
use Rattle.ready_loop.specs.declared.marks.Mark.{Mark}
use Rattle.ready_loop.specs.declared.marks.Standing.TheVariants.{Neither}
use Rattle.ready_loop.proofs.MarkLemmas.{marked-in_place, rise-in_place, rise-put}
use Rattle.ready_loop.proofs.marks.Marks.set_read.Goals as goal

pub invariant_of-self : goal.invariant_of-self
invariant_of-self c =
    rise-in_place c.args.port c.in-Ok.place c.self.inside.marks.items c.deref.result.now c.index_mut.result.now
    (with_read c.args.standing) c.deref.ensures.value c.in-Ok.ensures c.index_mut.ensures.value (λ mark. refl) c.self.invariant

pub invariant_of-self-in-Continue-1 : goal.invariant_of-self-in-Continue-1
invariant_of-self-in-Continue-1 c =
    let new : Mark = record { port = c.args.port; read = c.args.standing; write = Neither } in
    subst (λ (marks : List Mark). IsRisingList (ports_of marks)) (sym c.in_ok-insert-in-Err.ensures.items)
    (rise-put new c.in-Err.place c.self.inside.marks.items c.deref.result.now c.deref.ensures.value c.in-Err.ensures c.self.invariant)

pub returns-in-Ok-clause-set : goal.returns-in-Ok-clause-set
returns-in-Ok-clause-set c =
    marked-in_place c.args.port c.in-Ok.place c.self.inside.marks.items c.deref.result.now c.index_mut.result.now
    (with_read c.args.standing) c.deref.ensures.value c.in-Ok.ensures c.index_mut.ensures.value (λ mark. refl)
    ∙ ap (λ (marks : List Mark). marked (with_read c.args.standing (mark_of c.args.port marks)) marks) c.self.view_is
