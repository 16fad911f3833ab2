use Rattle.agent_core.proofs.KeptLemmas.{found_slot, kept_rising}
use Rattle.agent_core.proofs.ports.Ports.find.Goals as goal

pub place_near-requires : goal.place_near-requires
place_near-requires c = rw c.deref.ensures.value (kept_rising _ _ _ _ c.self.invariant.kept)

pub returns-in-Some : goal.returns-in-Some
returns-in-Some c =
    let is = rw c.deref.ensures.value at c.in-Some.ensures in
    rw (← c.self.view_is) (found_slot _ _ _ _ is c.index.ensures)
