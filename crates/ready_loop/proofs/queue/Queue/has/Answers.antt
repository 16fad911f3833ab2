use Rattle.std.proofs.Common.{◌∙◌, ap}
use Rattle.loop_model.specs.Lines.{Line, hot_of}
use Rattle.ready_loop.proofs.MarkedLemmas.{marked-hot}
use Rattle.ready_loop.proofs.queue.Queue.has.Goals as goal

pub returns-clause-there : goal.returns-clause-there
returns-clause-there c =
    c.has.ensures.there ∙ marked-hot c.args.thing c.self.inside.things.items c.self.inside.standings c.self.invariant
    ∙ ap (λ (line : Line). hot_of line c.args.thing) c.self.view_is
