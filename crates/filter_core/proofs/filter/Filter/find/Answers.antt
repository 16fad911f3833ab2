use Rattle.filter_core.proofs.SlotLemmas.{found_slot, kept_rising}
use Rattle.filter_core.proofs.filter.Filter.find.Goals as goal

pub place_of-requires : goal.place_of-requires
place_of-requires c = rw c.deref.ensures.value (kept_rising _ _ c.self.invariant)

pub returns-in-Some : goal.returns-in-Some
returns-in-Some c =
    let is = rw c.deref.ensures.value at c.in-Some.ensures in
    rw (← c.self.view_is) (found_slot _ _ _ _ is c.index.ensures)
