use Rattle.std.proofs.Common.{◌≡◌, ◌∙◌, arith, length, suc, sym}
use Rattle.agent_model.specs.State.{State}
use Rattle.agent_core.specs.Slots.{open_of}
use Rattle.agent_core.specs.Parts.{state_of}
use Rattle.agent_core.proofs.LateLemmas.{end_late-none, late_fewer, late_found, late_none, late_silent, late_tied, late_turn}
use Rattle.agent_core.proofs.parts.Parts.end_late.Goals as goal

pub end_confirmation-requires : goal.end_confirmation-requires
end_confirmation-requires c =
    let parts = c.late.self-inside in
    let state : State = state_of parts.wall parts.keys parts.under_way (open_of parts.ports) in
    record { silent = late_silent c.in-Some.job state c.late.invariant.1 (sym c.in-Some.is ∙ c.late_confirmation.ensures) }

pub late-smaller : goal.late-smaller
late-smaller c =
    let parts = c.late.self-inside in
    let state : State = state_of parts.wall parts.keys parts.under_way (open_of parts.ports) in
    let one = late_found c.in-Some.job state c.late.invariant.1 (sym c.in-Some.is ∙ c.late_confirmation.ensures) in
    let fewer : suc (length c.end_confirmation.new.under_way.confirmations) ≡ length parts.under_way.confirmations =
    late_fewer parts.ports.closed one.0 state _ c.late.invariant.1 one.1 (c.end_confirmation.ensures.parts parts.wall parts.keys one.0 one.2) in
    omega (arith, fewer)

pub late-preserved : goal.late-preserved
late-preserved c =
    let parts = c.late.self-inside in
    let state : State = state_of parts.wall parts.keys parts.under_way (open_of parts.ports) in
    let one = late_found c.in-Some.job state c.late.invariant.1 (sym c.in-Some.is ∙ c.late_confirmation.ensures) in
    let over_is = c.end_confirmation.ensures.parts parts.wall parts.keys one.0 one.2 in (
      late_turn parts.ports.closed one.0 state _ c.late.invariant.1 one.1 over_is ∙ c.late.invariant.0,
      late_tied parts.ports.closed one.0 state _ c.late.invariant.1 one.1 over_is,
      λ (was : State) spared. c.end_confirmation.ensures.spared was (c.late.invariant.2 was spared),
    )

pub returns-clause-parts : goal.returns-clause-parts
returns-clause-parts c =
    let parts = c.late.self-inside in
    let state : State = state_of parts.wall parts.keys parts.under_way (open_of parts.ports) in
    let none = late_none _ (sym c.in_default.is ∙ c.late_confirmation.ensures) in
    sym (end_late-none parts.ports.closed state none) ∙ c.late.invariant.0

pub returns-clause-spared : goal.returns-clause-spared
returns-clause-spared c = c.late.invariant.2
