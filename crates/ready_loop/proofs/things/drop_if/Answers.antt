use Rattle.std.proofs.Common.{◌∙◌, sym}
use Rattle.loop_model.proofs.FilterLemmas.{absent-dropped}
use Rattle.ready_loop.proofs.things.drop_if.Goals as goal

pub returns-else-there : goal.returns-else-there
returns-else-there c =
    sym (absent-dropped c.args.thing c.args.things.now.items (sym c.requires ∙ c.if-there.false))
