use Rattle.std.proofs.Common.{◌∙◌, ap, sym}
use Rattle.filter_model.specs.Looking.{waits_for}
use Rattle.filter_core.specs.Slots.{listed_of}
use Rattle.filter_core.proofs.fate.fate_of.Goals as goal

pub returns-in-Ok : goal.returns-in-Ok
returns-in-Ok c = c.waits_for.ensures ∙ ap (waits_for (listed_of c.args.listed.now)) (sym c.in-Ok.ensures.exact)
