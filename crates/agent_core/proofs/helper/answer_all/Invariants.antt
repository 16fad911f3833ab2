use Rattle.std.proofs.Common.{◌≡◌, drop}
use Rattle.agent_core.specs.Settlings.{AreProvable, AreShortAnswers, answered, unanswered}
use Rattle.agent_core.specs.Slots.{Spares, open_of}
use Rattle.agent_core.proofs.helper.answer_all.Given as goal

-- once the others are told, all were; the others are short; what they verify is as it was judged; and all others are as they were
abbrev pub invariant-loop-one : goal.invariant-loop-one
invariant-loop-one l =
    (record (open_of l.ports) { ports = answered (drop l.one-index l.settled) l.under_way.verifications l.ports.ports }
    ≡ record (open_of l.fn.ports) { ports = answered l.settled l.fn.under_way.verifications l.fn.ports.ports })
    × (record l.under_way { verifications = unanswered (drop l.one-index l.settled) l.under_way.verifications }
    ≡ record l.fn.under_way { verifications = unanswered l.settled l.fn.under_way.verifications })
    × AreShortAnswers (drop l.one-index l.settled)
    × AreProvable (drop l.one-index l.settled) l.under_way.verifications l.ports.ports
    × Spares l.fn.ports l.ports
