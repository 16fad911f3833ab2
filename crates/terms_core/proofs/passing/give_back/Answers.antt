use Rattle.std.proofs.Common.{sym, subst}
use Rattle.terms_core.specs.Claims.{Ends}
use Rattle.terms_core.specs.declared.status.TermsStatus.{TermsStatus}
use Rattle.terms_core.proofs.EndLemmas.{ends_unreplied}
use Rattle.terms_core.proofs.RelayLemmas.{both, relayed-replied}
use Rattle.terms_core.proofs.passing.give_back.Goals as goal

pub returns-in-Ok : goal.returns-in-Ok
returns-in-Ok g c = λ start terms asked is.
    c.give.ensures start terms asked (g.A.Stream.seen c.hear_frame.new.peer)
    (relayed-replied terms 1 asked c.args.replied.now.live c.hear_frame.new.heard.live start (g.C.Stream.seen c.args.client.now) (g.A.Stream.seen c.args.agent.now)
    (g.A.Stream.seen c.hear_frame.new.peer) is c.in-Ok.ensures.hears.on c.in-Ok.ensures.only)

pub returns-in-Err : goal.returns-in-Err
returns-in-Err g c = λ start terms asked is.
    subst (λ (s : TermsStatus). Ends s terms start (both (g.C.Stream.seen c.args.client.now) (g.A.Stream.seen c.hear_frame.new.peer))) (sym c.reply_status.ensures)
    (ends_unreplied c.in-Err.stop terms asked c.args.replied.now.live c.hear_frame.new.heard.live start (g.C.Stream.seen c.args.client.now) (g.A.Stream.seen c.args.agent.now)
    (g.A.Stream.seen c.hear_frame.new.peer) is c.in-Err.ensures.hears c.in-Err.ensures.only)
