use Rattle.std.proofs.Common.{◌∙◌, List, ap, subst, sym}
use Rattle.std.specs.List.{remove}
use Rattle.lists.specs.Rising.{IsRisingList}
use Rattle.ready_loop.specs.Marks.{ports_of, unmarked}
use Rattle.ready_loop.specs.declared.marks.Mark.{Mark}
use Rattle.ready_loop.proofs.MarkLemmas.{rise-unmarked}
use Rattle.ready_loop.proofs.marks.Marks.forget.Goals as goal

pub invariant_of-self : goal.invariant_of-self
invariant_of-self c =
    subst (λ (marks : List Mark). IsRisingList (ports_of marks))
    (sym (ap (unmarked c.args.port) c.deref.ensures.value) ∙ c.in-Ok.ensures.taken
    ∙ ap (λ (marks : List Mark). remove marks c.in-Ok.place) c.deref.ensures.value ∙ sym c.remove.ensures.items)
    (rise-unmarked c.args.port c.self.inside.marks.items c.self.invariant)
