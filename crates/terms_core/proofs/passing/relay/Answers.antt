use Rattle.std.proofs.Common.{[], sym, subst, arith}
use Rattle.secret_buf.specs.Buffers.{Buffer}
use Rattle.terms_core.specs.Relays.{IsRelayed}
use Rattle.terms_core.proofs.RelayLemmas.{both, broken-relayed, relayed-nil}
use Rattle.terms_core.proofs.passing.relay.Goals as goal

pub returns-in_default : goal.returns-in_default
returns-in_default g c =
    let start = both (g.C.Stream.seen c.args.client.now) (g.A.Stream.seen c.args.agent.now) in
    broken-relayed c.args.terms.now 0 [] [] start start (omega arith) (relayed-nil c.args.terms.now start)

pub requests-init : goal.requests-init
requests-init g c =
    let start = both (g.C.Stream.seen c.args.client.now) (g.A.Stream.seen c.args.agent.now) in
    subst (λ (a : Buffer). IsRelayed c.args.terms.now 0 a.live c.new-replied.result.live start start) (sym c.new-asked.ensures)
    (subst (λ (r : Buffer). IsRelayed c.args.terms.now 0 [] r.live start start) (sym c.new-replied.ensures) (relayed-nil c.args.terms.now start))

pub returns-in-Err-give_back : goal.returns-in-Err-give_back
returns-in-Err-give_back g c = c.in-Err-give_back.ensures _ _ _ (c.in-Ok-pass_on.ensures _ _ c.requests.invariant)
