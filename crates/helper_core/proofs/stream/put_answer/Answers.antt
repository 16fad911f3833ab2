use Rattle.std.proofs.Common.{refl}
use Rattle.helper_core.proofs.StepLemmas.{puts-answered, puts-err, puts-handed_on, puts-maybe, puts_nothing, routed-handed_on}
use Rattle.helper_core.proofs.stream.put_answer.Goals as goal

pub returns-in_err-answer : goal.returns-in_err-answer
returns-in_err-answer g c =
    puts-err _ c.from_residual.result (g.A.Answerer.route c.args.answerer.now c.args.body.now) c.args.body.now (g.B.HelperBehind.seen c.args.behind.now) (g.B.HelperBehind.seen c.args.behind.now)
    c.args.out.now.live c.answer.new.out.live c.from_residual.ensures.1
    (puts_nothing (g.A.Answerer.route c.args.answerer.now c.args.body.now) c.args.body.now (g.B.HelperBehind.seen c.args.behind.now) (g.B.HelperBehind.seen c.args.behind.now) refl)

pub returns-in_err-hand_on-in-HandedOn : goal.returns-in_err-hand_on-in-HandedOn
returns-in_err-hand_on-in-HandedOn g c =
    let route = g.A.Answerer.route c.args.answerer.now c.args.body.now in
    let handed = routed-handed_on c.in_ok-answer.field-0 route c.args.out.now.live c.answer.new.out.live c.in-HandedOn.asked c.in_ok-answer.ensures c.in-HandedOn.is in
    puts-err _ c.from_residual-in_err-hand_on-in-HandedOn.result route c.args.body.now (g.B.HelperBehind.seen c.args.behind.now) (g.B.HelperBehind.seen c.hand_on.new.behind)
    c.args.out.now.live c.hand_on.new.out.live c.from_residual-in_err-hand_on-in-HandedOn.ensures.1
    (puts-maybe route c.in-HandedOn.asked c.args.body.now (g.B.HelperBehind.seen c.args.behind.now) (g.B.HelperBehind.seen c.hand_on.new.behind) (g.B.HelperBehind.given_up c.args.behind.now) (g.B.HelperBehind.given_up c.hand_on.new.behind)
    handed.0 c.in_err-hand_on-in-HandedOn.ensures)

pub returns-in-Answered : goal.returns-in-Answered
returns-in-Answered g c =
    puts-answered c.in_ok-answer.field-0 (g.A.Answerer.route c.args.answerer.now c.args.body.now) c.args.body.now (g.B.HelperBehind.seen c.args.behind.now)
    c.args.out.now.live c.answer.new.out.live c.in_ok-answer.ensures c.in-Answered.is

pub returns-in_ok-hand_on-in-HandedOn : goal.returns-in_ok-hand_on-in-HandedOn
returns-in_ok-hand_on-in-HandedOn g c =
    let route = g.A.Answerer.route c.args.answerer.now c.args.body.now in
    let handed = routed-handed_on c.in_ok-answer.field-0 route c.args.out.now.live c.answer.new.out.live c.in-HandedOn.asked c.in_ok-answer.ensures c.in-HandedOn.is in
    puts-handed_on route c.in-HandedOn.asked c.args.body.now (g.B.HelperBehind.seen c.args.behind.now) (g.B.HelperBehind.seen c.hand_on.new.behind) (g.B.HelperBehind.given_up c.args.behind.now) (g.B.HelperBehind.given_up c.hand_on.new.behind)
    c.args.out.now.live c.answer.new.out.live c.hand_on.new.out.live handed.0 handed.1 c.in_ok-hand_on-in-HandedOn.ensures
