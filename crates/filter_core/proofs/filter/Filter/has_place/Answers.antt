use Rattle.std.proofs.Common.{◌∙◌}
use Rattle.filter_core.proofs.SlotLemmas.{has_few}
use Rattle.filter_core.proofs.filter.Filter.has_place.Goals as goal

pub returns-then-len-lt-MOST_LINKS : goal.returns-then-len-lt-MOST_LINKS
returns-then-len-lt-MOST_LINKS c =
    rw (← c.self.view_is) (has_few c.self.inside.slots.items c.len.result (c.len.ensures ∙ c.self.inside.slots.ok.0) c.if-len-lt-MOST_LINKS.true)
