use Rattle.std.proofs.Common.{◌∙◌}
use Rattle.filter_core.proofs.SlotLemmas.{counted}
use Rattle.filter_core.proofs.filter.count_links.Goals as goal

pub returns : goal.returns
returns c = c.count_linked.ensures ∙ counted c.args.slots.now
