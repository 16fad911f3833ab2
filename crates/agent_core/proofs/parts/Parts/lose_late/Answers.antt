use Rattle.std.proofs.Common.{◌∙◌, ap, sym}
use Rattle.agent_model.specs.Answers.{lose_where}
use Rattle.agent_model.specs.State.{State}
use Rattle.agent_core.specs.Slots.{open_of}
use Rattle.agent_core.specs.Parts.{after, state_of}
use Rattle.agent_core.proofs.parts.Parts.lose_late.Goals as goal

pub lose_helper-requires-clause-bound : goal.lose_helper-requires-clause-bound
lose_helper-requires-clause-bound c = rw (← c.self.view_is) at c.requires

pub returns-then-is_helper_late-clause-parts : goal.returns-then-is_helper_late-clause-parts
returns-then-is_helper_late-clause-parts c =
    let parts = c.self.inside in
    let state : State = state_of parts.wall parts.keys parts.under_way (open_of parts.ports) in
    rw (← c.self.view_is) (c.lose_helper.ensures.parts parts.wall parts.keys
    ∙ ap (λ is. after parts.ports.closed (lose_where is state)) (sym c.if-is_helper_late.true ∙ c.is_helper_late.ensures.value))

pub returns-else-is_helper_late-clause-parts : goal.returns-else-is_helper_late-clause-parts
returns-else-is_helper_late-clause-parts c =
    let parts = c.self.inside in
    let state : State = state_of parts.wall parts.keys parts.under_way (open_of parts.ports) in
    rw (← c.self.view_is) (ap (λ is. after parts.ports.closed (lose_where is state)) (sym c.if-is_helper_late.false ∙ c.is_helper_late.ensures.value))

pub returns-then-is_helper_late-clause-spared : goal.returns-then-is_helper_late-clause-spared
returns-then-is_helper_late-clause-spared c = rw (← c.self.view_is) c.lose_helper.ensures.spared
