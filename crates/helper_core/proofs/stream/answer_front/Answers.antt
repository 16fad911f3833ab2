use Rattle.std.proofs.Common.{◌∙◌, ap, sym, subst, length, List, ℕ, [], Option, arith}
use Rattle.wire_text.specs.Bounds.{longest_to_child}
use Rattle.helper_core.specs.Serving.{IsUnderWay, PutsAnswer, PutsNothing}
use Rattle.wire_text.specs.Frames.{front_body}
use Rattle.helper_core.specs.Claims.{Ends}
use Rattle.helper_core.specs.declared.behind.Exchange.{Exchange}
use Rattle.helper_core.specs.declared.status.HelperStatus.TheVariants.{BadFrame}
use Rattle.helper_core.proofs.EndLemmas.{at, ends_bad_body, ends_unanswered, ends_unwritten, under_way-answered}
use Rattle.helper_core.proofs.StepLemmas.{no_request, some_answer, no_answer}
use Rattle.wire_text.proofs.FrontLemmas.{whole_within}
use Rattle.helper_core.proofs.stream.answer_front.Goals as goal

pub front_body-requires : goal.front_body-requires
front_body-requires g c = omega (arith, ap length c.live.ensures, whole_within longest_to_child c.args.heard.now.live c.args.body_len c.requires.found)

pub consume-requires : goal.consume-requires
consume-requires g c = whole_within longest_to_child c.args.heard.now.live c.args.body_len c.requires.found

pub returns-in_default-clause-talk : goal.returns-in_default-clause-talk
returns-in_default-clause-talk g c = λ talk start under.
    let body = c.front_body.ensures ∙ ap (front_body c.args.body_len) c.live.ensures in
    let route = g.A.Answerer.route c.args.answerer.now in
    ends_unanswered route talk start (g.B.HelperBehind.seen c.args.behind.now) (g.B.HelperBehind.seen c.put_answer.new.behind) (g.P.Stream.seen c.args.peer.now) c.args.heard.now.live c.args.body_len
    under c.requires.found
    (subst (λ (b : List ℕ). PutsNothing (route b) b (g.B.HelperBehind.seen c.args.behind.now) (g.B.HelperBehind.seen c.put_answer.new.behind)) body
    (no_answer c.put_answer.result (route c.front_body.result.now) c.front_body.result.now _ _ c.args.out.now.live c.put_answer.new.out.live c.in_default.not-Ok c.put_answer.ensures))

pub returns-then-not-is_request-clause-talk : goal.returns-then-not-is_request-clause-talk
returns-then-not-is_request-clause-talk g c = λ talk start under.
    let body = c.front_body.ensures ∙ ap (front_body c.args.body_len) c.live.ensures in
    let route = g.A.Answerer.route c.args.answerer.now in
    let none = no_request c.in-Ok.is_request (route c.front_body.result.now) c.front_body.result.now (g.B.HelperBehind.seen c.args.behind.now) (g.B.HelperBehind.seen c.put_answer.new.behind) c.args.out.now.live c.put_answer.new.out.live
    c.if-not-is_request.true c.in-Ok.ensures in
    subst (λ (b : Option (List Exchange)). Ends BadFrame talk start (at b (g.P.Stream.seen c.args.peer.now))) (sym none.1)
    (ends_bad_body route talk start (at (g.B.HelperBehind.seen c.args.behind.now) (g.P.Stream.seen c.args.peer.now)) c.args.heard.now.live c.args.body_len under c.requires.found
    (ap route (sym body) ∙ none.0))

pub returns-in-Ok-flush-clause-talk : goal.returns-in-Ok-flush-clause-talk
returns-in-Ok-flush-clause-talk g c = λ talk start under.
    let body = c.front_body.ensures ∙ ap (front_body c.args.body_len) c.live.ensures in
    let route = g.A.Answerer.route c.args.answerer.now in
    let puts = some_answer c.in-Ok.is_request (route c.front_body.result.now) c.front_body.result.now (g.B.HelperBehind.seen c.args.behind.now) (g.B.HelperBehind.seen c.put_answer.new.behind) c.args.out.now.live c.put_answer.new.out.live
    c.if-not-is_request.false c.in-Ok.ensures in
    subst (λ (h : List ℕ). IsUnderWay route talk start (at (g.B.HelperBehind.seen c.put_answer.new.behind) (g.P.Stream.seen c.flush.new.peer)) h) (sym c.consume.ensures.live)
    (under_way-answered route talk start (g.B.HelperBehind.seen c.args.behind.now) (g.B.HelperBehind.seen c.put_answer.new.behind) (g.P.Stream.seen c.args.peer.now) (g.P.Stream.seen c.flush.new.peer)
    c.args.heard.now.live c.args.body_len c.put_answer.new.out.live under c.requires.found
    (subst (λ (b : List ℕ). PutsAnswer (route b) b (g.B.HelperBehind.seen c.args.behind.now) (g.B.HelperBehind.seen c.put_answer.new.behind) [] c.put_answer.new.out.live) body
    (subst (λ (o : List ℕ). PutsAnswer (route c.front_body.result.now) c.front_body.result.now (g.B.HelperBehind.seen c.args.behind.now) (g.B.HelperBehind.seen c.put_answer.new.behind) o c.put_answer.new.out.live) c.requires.empty puts))
    c.in-Ok-flush.ensures.ok c.in-Ok-flush.ensures.cause.kept c.in-Ok-flush.ensures.only)

pub returns-in-Err-clause-talk : goal.returns-in-Err-clause-talk
returns-in-Err-clause-talk g c = λ talk start under.
    let body = c.front_body.ensures ∙ ap (front_body c.args.body_len) c.live.ensures in
    let route = g.A.Answerer.route c.args.answerer.now in
    let puts = some_answer c.in-Ok.is_request (route c.front_body.result.now) c.front_body.result.now (g.B.HelperBehind.seen c.args.behind.now) (g.B.HelperBehind.seen c.put_answer.new.behind) c.args.out.now.live c.put_answer.new.out.live
    c.if-not-is_request.false c.in-Ok.ensures in
    ends_unwritten route talk start (g.B.HelperBehind.seen c.args.behind.now) (g.B.HelperBehind.seen c.put_answer.new.behind) (g.P.Stream.seen c.args.peer.now) (g.P.Stream.seen c.flush.new.peer)
    c.args.heard.now.live c.args.body_len c.put_answer.new.out.live under c.requires.found
    (subst (λ (b : List ℕ). PutsAnswer (route b) b (g.B.HelperBehind.seen c.args.behind.now) (g.B.HelperBehind.seen c.put_answer.new.behind) [] c.put_answer.new.out.live) body
    (subst (λ (o : List ℕ). PutsAnswer (route c.front_body.result.now) c.front_body.result.now (g.B.HelperBehind.seen c.args.behind.now) (g.B.HelperBehind.seen c.put_answer.new.behind) o c.put_answer.new.out.live) c.requires.empty puts))
    c.in-Err.ensures.err c.in-Err.ensures.cause.fault c.in-Err.ensures.only
