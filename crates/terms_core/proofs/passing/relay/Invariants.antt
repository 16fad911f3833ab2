use Rattle.terms_core.specs.Relays.{IsRelayed}
use Rattle.terms_core.proofs.passing.relay.Given as goal

-- all that was read is relayed
abbrev pub invariant-requests : goal.invariant-requests
invariant-requests g l = IsRelayed l.terms 0 l.asked.live l.replied.live
    (record { client = g.C.Stream.seen l.fn.client; agent = g.A.Stream.seen l.fn.agent })
    (record { client = g.C.Stream.seen l.client; agent = g.A.Stream.seen l.agent })
