use Rattle.std.proofs.Common.{◌∙◌, [], ap, subst, sym}
use Rattle.agent_model.specs.Actions.{Stepped}
use Rattle.agent_model.specs.State.{next_due}
use Rattle.agent_model.specs.Time.{IsAhead}
use Rattle.agent_core.specs.Parts.{after}
use Rattle.agent_core.proofs.DueLemmas.{still-passes}
use Rattle.agent_core.proofs.parts.Parts.pass.Goals as goal

pub returns-then-is_still-clause-passed : goal.returns-then-is_still-clause-passed
returns-then-is_still-clause-passed c =
    let still = c.is_still.ensures.still c.if-is_still.true in
    let state = c.args.self.now.state in
    c.begin.ensures.parts
    ∙ sym (ap (after []) (still-passes c.args.moment state c.is_still.ensures.known c.requires.rest.second still.0 c.is_still.ensures.clock
    (subst (IsAhead state.moment.mono) c.requires.due still.1)))

pub returns-then-is_still-clause-same : goal.returns-then-is_still-clause-same
returns-then-is_still-clause-same c = λ still. ap (λ (s : Stepped). next_due s.state) c.begin.ensures.parts
