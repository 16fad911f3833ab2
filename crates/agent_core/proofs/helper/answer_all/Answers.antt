use Rattle.std.proofs.Common.{◌∙◌, ◌+◌, ap, drop, subst, sym}
use Rattle.agent_model.specs.Answers.{find_verification}
use Rattle.agent_model.specs.State.{UnderWay, change_port}
use Rattle.agent_core.specs.Settlings.{AreProvable, told_with}
use Rattle.agent_core.specs.Slots.{OpenPorts, open_of}
use Rattle.agent_core.proofs.HelperLemmas.{answered-more, drop-one, provable-at, short-at, unanswered-more}
use Rattle.agent_core.proofs.AlikeLemmas.{spares-on}
use Rattle.agent_core.proofs.helper.answer_all.Goals as goal

pub answer_one-requires-clause-short : goal.answer_one-requires-clause-short
answer_one-requires-clause-short c =
    let l = c.loop-one in
    let more = drop-one c.args.settled.now l.one-index c.one-item.result c.loop-one-test.true c.one-item.is in
    (short-at c.one-item.result _ _ more l.invariant.2).0

pub answer_one-requires-clause-provable : goal.answer_one-requires-clause-provable
answer_one-requires-clause-provable c =
    let l = c.loop-one in
    let more = drop-one c.args.settled.now l.one-index c.one-item.result c.loop-one-test.true c.one-item.is in
    (provable-at c.one-item.result _ _ l.under_way.verifications l.ports.ports more l.invariant.3).0

pub loop-one-preserved : goal.loop-one-preserved
loop-one-preserved c =
    let l = c.loop-one in
    let item = c.one-item.result in
    let later = drop (l.one-index + 1) c.args.settled.now in
    let vs = l.under_way.verifications in
    let ports = change_port item.asker (told_with item.answer (find_verification item.ask vs)) l.ports.ports in
    let more = drop-one c.args.settled.now l.one-index item c.loop-one-test.true c.one-item.is in
    let ports_are = ap (λ (v : OpenPorts). v.ports) c.in_ok-answer_one.ensures.ports in
    let left_are = ap (λ (u : UnderWay). u.verifications) c.answer_one.ensures.under_way in
    let next = (provable-at item _ _ l.under_way.verifications l.ports.ports more l.invariant.3).1 in (
      answered-more item _ _ l.under_way.verifications _ (open_of l.ports) (open_of c.answer_one.new.ports) more left_are c.in_ok-answer_one.ensures.ports ∙ l.invariant.0,
      unanswered-more item _ _ l.under_way c.answer_one.new.under_way more c.answer_one.ensures.under_way ∙ l.invariant.1,
      (short-at item _ _ more l.invariant.2).1,
      subst (λ ps. AreProvable later c.answer_one.new.under_way.verifications ps) (sym ports_are) (subst (λ left. AreProvable later left ports) (sym left_are) next),
      spares-on c.args.ports.now l.ports c.answer_one.new.ports l.invariant.4 c.in_ok-answer_one.ensures.spared,
    )
