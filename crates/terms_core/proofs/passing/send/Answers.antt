use Rattle.std.proofs.Common.{◌∙◌, ap, sym, subst, length, List, ℕ, Err, arith}
use Rattle.std.specs.Io.KnownBytes.{Appends}
use Rattle.terms_core.specs.Additions.{Refuses, refusal, with_terms}
use Rattle.terms_core.specs.Claims.{Ends}
use Rattle.terms_core.specs.Relays.{IsRelayed}
use Rattle.terms_core.specs.declared.status.TermsStatus.{TermsStatus}
use Rattle.terms_core.proofs.EndLemmas.{ends_refused, ends_unsent}
use Rattle.terms_core.proofs.RelayLemmas.{both, relayed-sent}
use Rattle.wire_text.specs.Bounds.{longest_body}
use Rattle.wire_text.specs.Frames.{front_body}
use Rattle.wire_text.specs.Wire.{string}
use Rattle.wire_text.proofs.FrontLemmas.{body_within, whole_within}
use Rattle.world_ports.specs.Streams.{WritesPart}
use Rattle.terms_core.proofs.passing.send.Goals as goal

pub front_body-requires : goal.front_body-requires
front_body-requires g c = omega (arith, ap length c.live.ensures, whole_within longest_body c.args.asked.now.live c.args.body_len c.requires.found)

pub put_request-requires-clause-body : goal.put_request-requires-clause-body
put_request-requires-clause-body g c =
    let body = c.front_body.ensures ∙ ap (front_body c.args.body_len) c.live.ensures in
    omega (arith, ap length body, body_within longest_body c.args.asked.now.live c.args.body_len c.requires.found)

pub returns-in-Err : goal.returns-in-Err
returns-in-Err g c = λ start replied client is.
    let body = c.front_body.ensures ∙ ap (front_body c.args.body_len) c.live.ensures in
    subst (λ (s : TermsStatus). Ends s c.args.terms.now start (both client (g.A.Stream.seen c.args.agent.now))) (sym c.refused_status.ensures)
    (ends_refused c.in-Err.fault c.args.terms.now c.args.asked.now.live replied start (both client (g.A.Stream.seen c.args.agent.now)) c.args.body_len is c.requires.found
    (subst (λ (b : List ℕ). Refuses (Err c.in-Err.fault) (refusal c.args.terms.now b)) body c.in-Err.ensures.refused))

pub consume-requires : goal.consume-requires
consume-requires g c = whole_within longest_body c.args.asked.now.live c.args.body_len c.requires.found

pub returns-in-Ok-flush : goal.returns-in-Ok-flush
returns-in-Ok-flush g c = λ start replied client is.
    let body = c.front_body.ensures ∙ ap (front_body c.args.body_len) c.live.ensures in
    let frame = c.in-Ok.ensures.frame ∙ ap (λ (b : List ℕ). string (with_terms c.args.terms.now b)) body in
    subst (λ (a : List ℕ). IsRelayed c.args.terms.now 1 a replied start (both client (g.A.Stream.seen c.flush.new.peer))) (sym c.consume.ensures.live)
    (relayed-sent c.args.terms.now c.args.asked.now.live replied start client (g.A.Stream.seen c.args.agent.now) (g.A.Stream.seen c.flush.new.peer) c.args.body_len is c.requires.found
    (ap (refusal c.args.terms.now) (sym body) ∙ c.in-Ok.ensures.refused)
    (subst (Appends (g.A.Stream.seen c.args.agent.now).written (g.A.Stream.seen c.flush.new.peer).written) frame c.in-Ok-flush.ensures.ok)
    c.in-Ok-flush.ensures.cause.kept c.in-Ok-flush.ensures.only)

pub returns : goal.returns
returns g c = λ start replied client is.
    let body = c.front_body.ensures ∙ ap (front_body c.args.body_len) c.live.ensures in
    let frame = c.in-Ok.ensures.frame ∙ ap (λ (b : List ℕ). string (with_terms c.args.terms.now b)) body in
    ends_unsent c.args.terms.now c.args.asked.now.live replied start client (g.A.Stream.seen c.args.agent.now) (g.A.Stream.seen c.flush.new.peer) c.args.body_len is c.requires.found
    (ap (refusal c.args.terms.now) (sym body) ∙ c.in-Ok.ensures.refused)
    (subst (λ (b : List ℕ). WritesPart b (g.A.Stream.seen c.args.agent.now) (g.A.Stream.seen c.flush.new.peer)) frame c.in-Err-flush.ensures.err)
    c.in-Err-flush.ensures.cause.fault c.in-Err-flush.ensures.only
