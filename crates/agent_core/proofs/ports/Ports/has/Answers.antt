use Rattle.agent_core.proofs.KeptLemmas.{kept_rising}
use Rattle.agent_core.proofs.ports.Ports.has.Goals as goal

pub place_near-requires : goal.place_near-requires
place_near-requires c = rw c.deref.ensures.value (kept_rising _ _ _ _ c.self.invariant.kept)
