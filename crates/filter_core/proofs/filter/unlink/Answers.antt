use Rattle.filter_core.proofs.SlotLemmas.{unlinks_none, unlinks_slot}
use Rattle.filter_core.proofs.filter.unlink.Goals as goal

pub place_of-requires : goal.place_of-requires
place_of-requires c = rw c.deref.ensures.value c.requires

pub returns-in-Some : goal.returns-in-Some
returns-in-Some c =
    let is = rw c.deref.ensures.value at c.in-Some.ensures in
    unlinks_slot _ _ _ _ c.unlink.new.slot is c.index_mut.ensures.value c.unlink.ensures.number c.unlink.ensures.pair

pub returns-in-None : goal.returns-in-None
returns-in-None c = unlinks_none _ _ (rw c.deref.ensures.value at c.in-None.ensures)
