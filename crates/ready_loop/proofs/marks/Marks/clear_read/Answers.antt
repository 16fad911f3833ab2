use Rattle.std.proofs.Common.{◌∙◌, List, ap, refl}
use Rattle.ready_loop.specs.Marks.{changed, mark_of, with_read}
use Rattle.ready_loop.specs.declared.marks.Mark.{Mark}
use Rattle.ready_loop.specs.declared.marks.Standing.TheVariants.{Neither}
use Rattle.ready_loop.proofs.MarkLemmas.{changed-in_place, rise-in_place}
use Rattle.ready_loop.proofs.marks.Marks.clear_read.Goals as goal

pub invariant_of-self : goal.invariant_of-self
invariant_of-self c =
    rise-in_place c.args.port c.in-Ok.place c.self.inside.marks.items c.deref.result.now c.index_mut.result.now
    (with_read Neither) c.deref.ensures.value c.in-Ok.ensures c.index_mut.ensures.value (λ mark. refl) c.self.invariant

pub returns-in-Ok-clause-cleared : goal.returns-in-Ok-clause-cleared
returns-in-Ok-clause-cleared c =
    changed-in_place c.args.port c.in-Ok.place c.self.inside.marks.items c.deref.result.now c.index_mut.result.now
    (with_read Neither) c.deref.ensures.value c.in-Ok.ensures c.index_mut.ensures.value (λ mark. refl)
    ∙ ap (λ (marks : List Mark). changed (with_read Neither (mark_of c.args.port marks)) marks) c.self.view_is
