use Rattle.std.proofs.Common.{◌∙◌, Option, Some, IsSome, ap, refl, subst, sym}
use Rattle.confirm_desk.specs.Confirmations.{Confirmation}
use Rattle.helper_link.specs.HelperLink.{IsLinked}
use Rattle.agent_model.specs.State.{State, Unnamed}
use Rattle.agent_core.specs.Slots.{open_of}
use Rattle.agent_core.specs.Parts.{after, state_of}
use Rattle.agent_core.proofs.AgentLemmas.{agent_asks, agent_linked, bound_of, shut_parts}
use Rattle.agent_core.proofs.ConfirmerLemmas.{quiet-asking}
use Rattle.agent_core.proofs.FailLemmas.{absent_ends, client_ends, confirmer_ends, helper_ends, unnamed_ends}
use Rattle.agent_core.proofs.HelperLemmas.{linked_some}
use Rattle.agent_core.proofs.RoleLemmas.{client-kind, confirmer-kind, helper-kind, none-kind, some_of_role, unnamed-kind}
use Rattle.agent_core.proofs.AlikeLemmas.{spared-still}
use Rattle.agent_core.proofs.parts.Parts.end.Goals as goal

pub lose_client-requires : goal.lose_client-requires
lose_client-requires c =
    let rest = rw (← c.self.view_is) at c.requires.rest in
    record { order = rest.tied.raised.order }

pub returns-in-Some-Client-clause-parts : goal.returns-in-Some-Client-clause-parts
returns-in-Some-Client-clause-parts c =
    let is = client-kind _ (sym c.role_at.ensures ∙ c.in-Some-Client.is ∙ ap Some c.in-Some-Client.field-0-is) in
    let parts = c.self.inside in
    let state : State = state_of parts.wall parts.keys parts.under_way (open_of parts.ports) in
    rw (← c.self.view_is) (c.lose_client.ensures.parts parts.wall parts.keys
    ∙ ap (after parts.ports.closed) (client_ends c.args.port state is))

pub returns-in-Some-Unnamed-clause-parts : goal.returns-in-Some-Unnamed-clause-parts
returns-in-Some-Unnamed-clause-parts c =
    let is = unnamed-kind _ (sym c.role_at.ensures ∙ c.in-Some-Unnamed.is ∙ ap Some c.in-Some-Unnamed.field-0-is) in
    let some = some_of_role c.args.port c.self.inside.ports.ports c.self.inside.under_way Unnamed is in
    let parts = c.self.inside in
    let state : State = state_of parts.wall parts.keys parts.under_way (open_of parts.ports) in
    rw (← c.self.view_is) (shut_parts parts.wall parts.keys parts.under_way (open_of parts.ports) (open_of c.close.new.self) c.args.port some c.close.ensures.ports
    ∙ ap (after parts.ports.closed) (unnamed_ends c.args.port state is))

pub close-requires : goal.close-requires
close-requires c =
    let is = unnamed-kind _ (sym c.role_at.ensures ∙ c.in-Some-Unnamed.is ∙ ap Some c.in-Some-Unnamed.field-0-is) in
    some_of_role c.args.port c.self.inside.ports.ports c.self.inside.under_way Unnamed is

pub lose_helper-requires-clause-some : goal.lose_helper-requires-clause-some
lose_helper-requires-clause-some c =
    let is = helper-kind _ (sym c.role_at.ensures ∙ c.in-Some-Helper.is ∙ ap Some c.in-Some-Helper.field-0-is) in
    linked_some c.self.inside.under_way.link.state (subst IsLinked (sym (agent_linked c.args.port c.self.inside.ports.ports c.self.inside.under_way is)) tt)

pub lose_helper-requires-clause-bound : goal.lose_helper-requires-clause-bound
lose_helper-requires-clause-bound c =
    let parts = c.self.inside in
    let state : State = state_of parts.wall parts.keys parts.under_way (open_of parts.ports) in
    bound_of state (rw (← c.self.view_is) at c.requires.rest)

pub returns-in-Some-Helper-clause-parts : goal.returns-in-Some-Helper-clause-parts
returns-in-Some-Helper-clause-parts c =
    let is = helper-kind _ (sym c.role_at.ensures ∙ c.in-Some-Helper.is ∙ ap Some c.in-Some-Helper.field-0-is) in
    let rest = rw (← c.self.view_is) at c.requires.rest in
    let parts = c.self.inside in
    let state : State = state_of parts.wall parts.keys parts.under_way (open_of parts.ports) in
    rw (← c.self.view_is) (c.lose_helper.ensures.parts parts.wall parts.keys
    ∙ ap (after parts.ports.closed) (helper_ends c.args.port parts.ports.last state rest.tied.rising is))

pub lose_confirmer-requires-clause-there : goal.lose_confirmer-requires-clause-there
lose_confirmer-requires-clause-there c =
    let is = confirmer-kind _ (sym c.role_at.ensures ∙ c.in-Some-Confirmer.is ∙ ap Some c.in-Some-Confirmer.field-0-is) in
    let P : Option Confirmation → Type 0 = λ o. IsSome o in
    subst P (sym (agent_asks c.args.port c.self.inside.ports.ports c.self.inside.under_way is.0 is.1)) refl

pub lose_confirmer-requires-clause-order : goal.lose_confirmer-requires-clause-order
lose_confirmer-requires-clause-order c =
    let rest = rw (← c.self.view_is) at c.requires.rest in
    rest.tied.raised.order

pub lose_confirmer-requires-clause-quiet : goal.lose_confirmer-requires-clause-quiet
lose_confirmer-requires-clause-quiet c =
    let rest = rw (← c.self.view_is) at c.requires.rest in
    quiet-asking c.self.inside.ports.ports c.self.inside.under_way.confirmations rest.tied.raised.asking

pub returns-in-Some-Confirmer-clause-parts : goal.returns-in-Some-Confirmer-clause-parts
returns-in-Some-Confirmer-clause-parts c =
    let is = confirmer-kind _ (sym c.role_at.ensures ∙ c.in-Some-Confirmer.is ∙ ap Some c.in-Some-Confirmer.field-0-is) in
    let at = agent_asks c.args.port c.self.inside.ports.ports c.self.inside.under_way is.0 is.1 in
    let parts = c.self.inside in
    let state : State = state_of parts.wall parts.keys parts.under_way (open_of parts.ports) in
    rw (← c.self.view_is) (c.lose_confirmer.ensures.parts parts.wall parts.keys is.0 at
    ∙ ap (after parts.ports.closed) (confirmer_ends c.args.port state is.0 is.1))

pub returns-in-None-clause-parts : goal.returns-in-None-clause-parts
returns-in-None-clause-parts c =
    let parts = c.self.inside in
    let state : State = state_of parts.wall parts.keys parts.under_way (open_of parts.ports) in
    rw (← c.self.view_is) (ap (after parts.ports.closed) (absent_ends c.args.port state (none-kind _ parts.under_way (sym c.role_at.ensures ∙ c.in-None.is))))

pub returns-in-Some-Client-clause-spared : goal.returns-in-Some-Client-clause-spared
returns-in-Some-Client-clause-spared c = rw (← c.self.view_is) c.lose_client.ensures.spared

pub returns-in-Some-Unnamed-clause-spared : goal.returns-in-Some-Unnamed-clause-spared
returns-in-Some-Unnamed-clause-spared c = rw (← c.self.view_is) (spared-still c.self.inside.ports c.close.new.self c.self.inside.under_way c.close.ensures.spared)

pub returns-in-Some-Helper-clause-spared : goal.returns-in-Some-Helper-clause-spared
returns-in-Some-Helper-clause-spared c = rw (← c.self.view_is) c.lose_helper.ensures.spared

pub returns-in-Some-Confirmer-clause-spared : goal.returns-in-Some-Confirmer-clause-spared
returns-in-Some-Confirmer-clause-spared c = rw (← c.self.view_is) c.lose_confirmer.ensures.spared
