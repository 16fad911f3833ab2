use Rattle.std.proofs.Common.{◌∙◌, ℕ, ap, sym}
use Rattle.agent_model.specs.Consents.{over_if}
use Rattle.agent_model.specs.KeyStates.{KeyState}
use Rattle.agent_model.specs.State.{State}
use Rattle.agent_core.specs.Parts.{after, state_of}
use Rattle.agent_core.specs.Slots.{open_of}
use Rattle.agent_core.proofs.confirmer.end_if.Goals as goal

pub returns-in-Some-clause-parts : goal.returns-in-Some-clause-parts
returns-in-Some-clause-parts c = λ (wall : ℕ) (keys : KeyState).
    let state : State = state_of wall keys c.args.under_way.now (open_of c.args.ports.now) in
    c.end_confirmation.ensures.parts wall keys c.in-Some.field-0.now (sym c.in-Some.ensures.value)
    ∙ ap (λ f. after c.args.ports.now.closed (over_if f state)) c.in-Some.ensures.value

pub returns-in-None-clause-parts : goal.returns-in-None-clause-parts
returns-in-None-clause-parts c = λ (wall : ℕ) (keys : KeyState).
    let state : State = state_of wall keys c.args.under_way.now (open_of c.args.ports.now) in
    ap (λ f. after c.args.ports.now.closed (over_if f state)) c.in-None.ensures.value
