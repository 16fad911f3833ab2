use Rattle.std.proofs.Common.{◌∙◌, ◌++◌, ap, sym, subst, length, List, ℕ, arith}
use Rattle.child_msg.specs.ChildFrames.{from_child_body}
use Rattle.wire_text.specs.Bounds.{longest_to_child}
use Rattle.wire_text.specs.Wire.{string}
use Rattle.standin_core.specs.Answers.{answer_of}
use Rattle.standin_core.specs.Serving.{IsUnderWay}
use Rattle.wire_text.specs.Frames.{front_body}
use Rattle.standin_core.proofs.AnswerLemmas.{no_answer, some_answer}
use Rattle.standin_core.proofs.EndLemmas.{ends_early, ends_bad_body, ends_unwritten, under_way-answered}
use Rattle.wire_text.proofs.FrontLemmas.{whole_within}
use Rattle.standin_core.proofs.stream.answer_front.Goals as goal

pub front_body-requires : goal.front_body-requires
front_body-requires g c = omega (arith, ap length c.live.ensures, whole_within longest_to_child c.args.heard.now.live c.args.body_len c.requires.found)

pub consume-requires : goal.consume-requires
consume-requires g c =
    whole_within longest_to_child c.args.heard.now.live c.args.body_len c.requires.found

pub returns-in_default-clause-talk : goal.returns-in_default-clause-talk
returns-in_default-clause-talk g c = λ hosts whole start are under. ends_early hosts whole start (g.P.Stream.seen c.args.peer.now) c.args.heard.now.live under

pub returns-then-not-is_request-clause-talk : goal.returns-then-not-is_request-clause-talk
returns-then-not-is_request-clause-talk g c = λ hosts whole start are under.
    let body = c.front_body.ensures ∙ ap (front_body c.args.body_len) c.live.ensures in
    ends_bad_body hosts whole start (g.P.Stream.seen c.args.peer.now) c.args.heard.now.live c.args.body_len under c.requires.found
    (ap (answer_of hosts) (sym body) ∙ no_answer c.in-Ok.is_request (answer_of hosts c.front_body.result.now) c.args.out.now.live c.put_answer.new.out.live
    (c.in-Ok.ensures hosts are) c.if-not-is_request.true)

pub returns-in-Ok-flush-clause-talk : goal.returns-in-Ok-flush-clause-talk
returns-in-Ok-flush-clause-talk g c = λ hosts whole start are under.
    let body = c.front_body.ensures ∙ ap (front_body c.args.body_len) c.live.ensures in
    let has = some_answer c.in-Ok.is_request (answer_of hosts c.front_body.result.now) c.args.out.now.live c.put_answer.new.out.live (c.in-Ok.ensures hosts are) c.if-not-is_request.false in
    subst (λ (h : List ℕ). IsUnderWay hosts whole start (g.P.Stream.seen c.flush.new.peer) h) (sym c.consume.ensures.live)
    (under_way-answered hosts whole start (g.P.Stream.seen c.args.peer.now) (g.P.Stream.seen c.flush.new.peer) c.args.heard.now.live c.args.body_len has.answer c.put_answer.new.out.live
    under c.requires.found (ap (answer_of hosts) (sym body) ∙ has.is) (has.frame ∙ ap (λ (b : List ℕ). b ++ string (from_child_body has.answer)) c.requires.empty)
    c.in-Ok-flush.ensures.ok c.in-Ok-flush.ensures.cause.kept c.in-Ok-flush.ensures.only)

pub returns-in-Err-clause-talk : goal.returns-in-Err-clause-talk
returns-in-Err-clause-talk g c = λ hosts whole start are under.
    let body = c.front_body.ensures ∙ ap (front_body c.args.body_len) c.live.ensures in
    let has = some_answer c.in-Ok.is_request (answer_of hosts c.front_body.result.now) c.args.out.now.live c.put_answer.new.out.live (c.in-Ok.ensures hosts are) c.if-not-is_request.false in
    ends_unwritten hosts whole start (g.P.Stream.seen c.args.peer.now) (g.P.Stream.seen c.flush.new.peer) c.args.heard.now.live c.args.body_len has.answer c.put_answer.new.out.live
    under c.requires.found (ap (answer_of hosts) (sym body) ∙ has.is) (has.frame ∙ ap (λ (b : List ℕ). b ++ string (from_child_body has.answer)) c.requires.empty)
    c.in-Err.ensures.err c.in-Err.ensures.cause.fault c.in-Err.ensures.only
