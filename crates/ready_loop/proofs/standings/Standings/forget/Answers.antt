use Rattle.std.proofs.Common.{◌∙◌, ap, sym}
use Rattle.loop_model.specs.Aside.{things_aside}
use Rattle.loop_model.specs.Things.{set_of}
use Rattle.loop_model.specs.declared.thing.Thing.TheVariants.{Read, Write}
use Rattle.ready_loop.specs.Marks.{Standings, forgotten, is_listed}
use Rattle.ready_loop.specs.declared.marks.Mark.{Mark}
use Rattle.ready_loop.proofs.StoodLemmas.{listed-read, listed-write, stood-forgotten}
use Rattle.ready_loop.proofs.standings.Standings.forget.Goals as goal

pub returns-clause-read : goal.returns-clause-read
returns-clause-read c =
    c.is_listed.ensures ∙ ap (λ (mark : Mark). is_listed mark.read) c.forget-mark.ensures.mark
    ∙ sym (listed-read c.self.inside.listed.items c.self.inside.aside.items c.args.port c.self.inside.marks c.forget-mark.ensures.rising)
    ∙ ap (λ (view : Standings). set_of (things_aside view.listed) (Read c.args.port)) c.self.view_is

pub returns-clause-write : goal.returns-clause-write
returns-clause-write c =
    c.is_listed-2.ensures ∙ ap (λ (mark : Mark). is_listed mark.write) c.forget-mark.ensures.mark
    ∙ sym (listed-write c.self.inside.listed.items c.self.inside.aside.items c.args.port c.self.inside.marks c.forget-mark.ensures.rising)
    ∙ ap (λ (view : Standings). set_of (things_aside view.listed) (Write c.args.port)) c.self.view_is

pub returns-clause-left : goal.returns-clause-left
returns-clause-left c =
    stood-forgotten c.self.inside.listed.items c.self.inside.aside.items c.args.port c.self.inside.marks c.forget-mark.new.self
    c.forget-mark.ensures.rising c.forget-mark.ensures.left
    ∙ ap (forgotten c.args.port) c.self.view_is
