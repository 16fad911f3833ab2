use Rattle.std.proofs.Common.{◌≡◌, drop}
use Rattle.helper_link.specs.HelperLink.{askers}
use Rattle.agent_model.specs.Answers.{tell_each}
use Rattle.agent_model.specs.Verdicts.{HelperLost, Refuses}
use Rattle.agent_core.specs.Bound.{AreSilent}
use Rattle.agent_core.specs.Slots.{Spares, open_of}
use Rattle.agent_core.proofs.helper.refuse_all.Given as goal

-- once the others are told, all were; the others are owed nothing; and all others are as they were
abbrev pub invariant-loop-ask : goal.invariant-loop-ask
invariant-loop-ask l =
    (record (open_of l.ports) { ports = tell_each (Refuses HelperLost) (askers (drop l.ask-index l.asks)) l.ports.ports }
    ≡ record (open_of l.fn.ports) { ports = tell_each (Refuses HelperLost) (askers l.asks) l.fn.ports.ports })
    × AreSilent (askers (drop l.ask-index l.asks)) l.ports.ports × Spares l.fn.ports l.ports
