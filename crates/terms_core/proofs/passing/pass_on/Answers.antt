use Rattle.std.proofs.Common.{sym, subst}
use Rattle.terms_core.specs.Claims.{Ends}
use Rattle.terms_core.specs.declared.status.TermsStatus.{TermsStatus}
use Rattle.terms_core.proofs.EndLemmas.{ends_unasked}
use Rattle.terms_core.proofs.RelayLemmas.{both, relayed-asked}
use Rattle.terms_core.proofs.passing.pass_on.Goals as goal

pub returns-in-Ok : goal.returns-in-Ok
returns-in-Ok g c = λ start replied is.
    c.send.ensures start replied (g.C.Stream.seen c.hear_frame.new.peer)
    (relayed-asked c.args.terms.now 0 c.args.asked.now.live c.hear_frame.new.heard.live replied start (g.C.Stream.seen c.args.client.now) (g.C.Stream.seen c.hear_frame.new.peer)
    (g.A.Stream.seen c.args.agent.now) is c.in-Ok.ensures.hears.on c.in-Ok.ensures.only)

pub returns-in-Err : goal.returns-in-Err
returns-in-Err g c = λ start replied is.
    subst (λ (s : TermsStatus). Ends s c.args.terms.now start (both (g.C.Stream.seen c.hear_frame.new.peer) (g.A.Stream.seen c.args.agent.now))) (sym c.request_status.ensures)
    (ends_unasked c.in-Err.stop c.args.terms.now c.args.asked.now.live c.hear_frame.new.heard.live replied start (g.C.Stream.seen c.args.client.now) (g.C.Stream.seen c.hear_frame.new.peer)
    (g.A.Stream.seen c.args.agent.now) is c.in-Err.ensures.hears c.in-Err.ensures.only)
