use Rattle.std.proofs.Common.{◌∙◌, ℕ, List, None, Some, ap, sym, subst}
use Rattle.helper_link.specs.HelperLink.{IsLinked}
use Rattle.agent_model.specs.KeyStates.{KeyState}
use Rattle.agent_model.specs.State.{UnderWay, State}
use Rattle.helper_link.specs.declared.answer.Settled.{Settled}
use Rattle.agent_core.specs.Settlings.{AreShortAnswers}
use Rattle.agent_core.proofs.BoundLemmas.{bound-answered, provable-answers}
use Rattle.agent_core.proofs.HelperLemmas.{heard_parts, linked_some}
use Rattle.agent_core.proofs.ShortLemmas.{told_short}
use Rattle.agent_core.specs.Slots.{open_of}
use Rattle.agent_core.proofs.AlikeLemmas.{spared-by}
use Rattle.agent_core.proofs.OwingNewsLemmas.{as_owed-answered}
use Rattle.agent_core.proofs.helper.hear_helper.Goals as goal

pub answer_all-requires-clause-short : goal.answer_all-requires-clause-short
answer_all-requires-clause-short c =
    let P : List Settled → Type 0 = λ s. AreShortAnswers s in
    subst P (sym (c.as_slice.ensures ∙ c.in_ok-told.ensures.settled)) (told_short c.args.piece.now c.args.under_way.now.link)

pub answer_all-requires-clause-provable : goal.answer_all-requires-clause-provable
answer_all-requires-clause-provable c =
    provable-answers c.args.piece.now (open_of c.args.ports.now) c.args.under_way.now c.helper_told.new.self c.as_slice.result.now c.requires.bound c.in_ok-told.ensures.link (c.as_slice.ensures ∙ c.in_ok-told.ensures.settled)

pub lose_helper-requires-clause-some : goal.lose_helper-requires-clause-some
lose_helper-requires-clause-some c =
    let same = ap (λ (u : UnderWay). u.link.state) (c.in_ok-answer_all.ensures.under_way) ∙ ap (λ (u : UnderWay). u.link.state) c.in_ok-told.ensures.link in
    linked_some c.answer_all.new.under_way.link.state (subst IsLinked (sym same) c.requires.linked)

pub lose_helper-requires-clause-bound : goal.lose_helper-requires-clause-bound
lose_helper-requires-clause-bound c =
    bound-answered c.args.piece.now (open_of c.args.ports.now) (open_of c.answer_all.new.ports) c.args.under_way.now c.helper_told.new.self c.answer_all.new.under_way c.as_slice.result.now c.requires.bound c.in_ok-told.ensures.link (c.as_slice.ensures ∙ c.in_ok-told.ensures.settled) c.in_ok-answer_all.ensures.under_way c.in_ok-answer_all.ensures.ports

pub returns-in-Some-clause-parts : goal.returns-in-Some-clause-parts
returns-in-Some-clause-parts c = λ (wall : ℕ) (keys : KeyState).
    c.lose_helper.ensures.parts wall keys
    ∙ heard_parts wall keys c.args.under_way.now c.helper_told.new.self c.answer_all.new.under_way (open_of c.args.ports.now) (open_of c.answer_all.new.ports) c.args.piece.now c.as_slice.result.now (Some c.in-Some.field-0) c.in_ok-told.ensures.link (c.as_slice.ensures ∙ c.in_ok-told.ensures.settled) (sym c.in-Some.is ∙ c.in_ok-told.ensures.fault) c.in_ok-answer_all.ensures.under_way c.in_ok-answer_all.ensures.ports

pub returns-clause-parts : goal.returns-clause-parts
returns-clause-parts c = λ (wall : ℕ) (keys : KeyState).
    heard_parts wall keys c.args.under_way.now c.helper_told.new.self c.answer_all.new.under_way (open_of c.args.ports.now) (open_of c.answer_all.new.ports) c.args.piece.now c.as_slice.result.now None c.in_ok-told.ensures.link (c.as_slice.ensures ∙ c.in_ok-told.ensures.settled) (sym c.in-None.is ∙ c.in_ok-told.ensures.fault) c.in_ok-answer_all.ensures.under_way c.in_ok-answer_all.ensures.ports

pub returns-in-Some-clause-spared : goal.returns-in-Some-clause-spared
returns-in-Some-clause-spared c = λ (was : State) spared.
    c.lose_helper.ensures.spared was
    (spared-by c.args.ports.now c.answer_all.new.ports c.args.under_way.now c.answer_all.new.under_way c.in_ok-answer_all.ensures.spared
    (λ port at untouched there. as_owed-answered port c.args.piece.now c.args.under_way.now c.helper_told.new.self c.answer_all.new.under_way _ c.in_ok-told.ensures.link c.in_ok-answer_all.ensures.under_way) was spared)

pub returns-clause-spared : goal.returns-clause-spared
returns-clause-spared c = λ (was : State) spared.
    spared-by c.args.ports.now c.answer_all.new.ports c.args.under_way.now c.answer_all.new.under_way c.in_ok-answer_all.ensures.spared
    (λ port at untouched there. as_owed-answered port c.args.piece.now c.args.under_way.now c.helper_told.new.self c.answer_all.new.under_way _ c.in_ok-told.ensures.link c.in_ok-answer_all.ensures.under_way) was spared
