use Rattle.std.proofs.Common.{◌∙◌, List, ap, subst, sym}
use Rattle.loop_model.specs.Aside.{Aside}
use Rattle.loop_model.specs.Lines.{Line, in_hand}
use Rattle.loop_model.specs.declared.thing.Thing.{Thing}
use Rattle.ready_loop.specs.Marks.{IsMarked, Standings}
use Rattle.ready_loop.specs.Standing.{IsFront}
use Rattle.ready_loop.proofs.FilterLemmas.{absent-taken}
use Rattle.ready_loop.proofs.LineLemmas.{front-in_hand}
use Rattle.ready_loop.proofs.MarkedLemmas.{front-apart, marked-front}
use Rattle.ready_loop.proofs.queue.Queue.take.Goals as goal

pub invariant_of-self : goal.invariant_of-self
invariant_of-self c =
    subst (IsMarked c.pop_front.new.self.items) (sym c.clear.ensures)
    (marked-front c.args.thing c.self.inside.things.items c.self.inside.standings c.self.invariant c.pop_front.new.self.items
    (subst (λ (line : Line). IsFront c.args.thing line.queue) (sym c.self.view_is) c.requires) c.pop_front.ensures.rest)

pub returns : goal.returns
returns c =
    let view : Line =
    record { queue = c.self.inside.things.items; aside = c.self.inside.standings.aside; joined = c.self.inside.joined } in
    let left : List Thing = c.pop_front.new.self.items in
    let front : IsFront c.args.thing view.queue =
    subst (λ (line : Line). IsFront c.args.thing line.queue) (sym c.self.view_is) c.requires in
    ap (λ (aside : Aside). record view { queue = left; aside = aside })
    (ap (λ (s : Standings). s.aside) c.clear.ensures
    ∙ absent-taken c.args.thing view.aside (front-apart c.args.thing view.queue view.aside c.self.invariant.once front))
    ∙ front-in_hand c.args.thing view left front c.self.invariant.once.apart c.pop_front.ensures.rest
    ∙ ap (in_hand c.args.thing) c.self.view_is
