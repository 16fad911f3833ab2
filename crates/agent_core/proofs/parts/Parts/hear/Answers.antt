use Rattle.std.proofs.Common.{◌≡◌, ◌∙◌, ap, sym, subst, Option, Some}
use Rattle.std.specs.Option.{IsSomeAnd}
use Rattle.confirm_desk.specs.Confirmations.{Confirmation}
use Rattle.helper_link.specs.HelperLink.{IsLinked}
use Rattle.agent_model.specs.State.{Client, Confirmer, Helper, State, Unnamed, find_port}
use Rattle.agent_core.specs.Confirmers.{IsHeldFor}
use Rattle.agent_core.specs.Slots.{open_of}
use Rattle.agent_core.specs.Parts.{after, state_of, Moved}
use Rattle.agent_core.specs.Roles.{role_by}
use Rattle.agent_core.proofs.AgentLemmas.{agent_asks, agent_free, agent_hears, agent_linked, agent_unnamed, bound_of, held_of_all}
use Rattle.agent_core.proofs.ConfirmerLemmas.{found_linked}
use Rattle.agent_core.proofs.FailLemmas.{absent_hears}
use Rattle.agent_core.proofs.HeldLemmas.{after_ok}
use Rattle.agent_core.proofs.RoleLemmas.{client-kind, confirmer-kind, heard-as, helper-kind, none-kind, port_of_role, some_of_role, unnamed-kind}
use Rattle.agent_core.proofs.parts.Parts.hear.Goals as goal

pub returns-in-Some-Client-clause-parts : goal.returns-in-Some-Client-clause-parts
returns-in-Some-Client-clause-parts c =
    let is = client-kind _ (sym c.role_at.ensures ∙ c.in-Some-Client.is ∙ ap Some c.in-Some-Client.field-0-is) in
    let P : Moved → Type 0 = λ s. role_by (find_port c.args.port s.state.ports) s.state.under_way ≡ Some Client in
    let at = subst P c.self.view_is is in
    after_ok c.hear_client.result (λ looked.
    looked ∙ ap (after c.args.self.now.closes) (agent_hears c.args.port c.args.piece.now c.args.self.now.state at)) c.hear_client.ensures.parts

pub returns-in-Some-Unnamed-clause-parts : goal.returns-in-Some-Unnamed-clause-parts
returns-in-Some-Unnamed-clause-parts c =
    let is = unnamed-kind _ (sym c.role_at.ensures ∙ c.in-Some-Unnamed.is ∙ ap Some c.in-Some-Unnamed.field-0-is) in
    let P : Moved → Type 0 = λ s. role_by (find_port c.args.port s.state.ports) s.state.under_way ≡ Some Unnamed in
    let at = subst P c.self.view_is is in
    let state = c.args.self.now.state in
    let there = port_of_role (find_port c.args.port state.ports) state.under_way Unnamed at in
    after_ok c.hear_unnamed.result (λ told.
    told ∙ ap (after c.args.self.now.closes) (agent_unnamed c.args.port c.args.piece.now there.0 state there.1 there.2))
    (c.hear_unnamed.ensures.parts there.0 there.1)

pub returns-in-Some-Helper-clause-parts : goal.returns-in-Some-Helper-clause-parts
returns-in-Some-Helper-clause-parts c =
    let is = helper-kind _ (sym c.role_at.ensures ∙ c.in-Some-Helper.is ∙ ap Some c.in-Some-Helper.field-0-is) in
    let there = port_of_role (find_port c.args.port c.self.inside.ports.ports) c.self.inside.under_way Helper is in
    let parts = c.self.inside in
    let state : State = state_of parts.wall parts.keys parts.under_way (open_of parts.ports) in
    rw (← c.self.view_is) (after_ok c.hear_helper.result (λ told.
    told ∙ ap (after parts.ports.closed) (sym (heard-as c.args.port c.args.piece.now there.0 Helper state there.1 there.2)))
    (c.hear_helper.ensures.parts parts.wall parts.keys))

pub returns-in-Some-Confirmer-clause-parts : goal.returns-in-Some-Confirmer-clause-parts
returns-in-Some-Confirmer-clause-parts c =
    let is = confirmer-kind _ (sym c.role_at.ensures ∙ c.in-Some-Confirmer.is ∙ ap Some c.in-Some-Confirmer.field-0-is) in
    let P : Moved → Type 0 = λ s. role_by (find_port c.args.port s.state.ports) s.state.under_way ≡ Some (Confirmer is.0) in
    let at = subst P c.self.view_is is.1 in
    let state = c.args.self.now.state in
    let there = port_of_role (find_port c.args.port state.ports) state.under_way (Confirmer is.0) at in
    after_ok c.hear_confirmer.result (λ told.
    told ∙ ap (after c.args.self.now.closes) (sym (heard-as c.args.port c.args.piece.now there.0 (Confirmer is.0) state there.1 there.2)))
    (c.hear_confirmer.ensures.parts is.0 (agent_asks c.args.port state.ports state.under_way is.0 at))

pub hear_helper-requires-clause-linked : goal.hear_helper-requires-clause-linked
hear_helper-requires-clause-linked c =
    let is = helper-kind _ (sym c.role_at.ensures ∙ c.in-Some-Helper.is ∙ ap Some c.in-Some-Helper.field-0-is) in
    subst IsLinked (sym (agent_linked c.args.port c.self.inside.ports.ports c.self.inside.under_way is)) tt

pub hear_client-requires-clause-is_open : goal.hear_client-requires-clause-is_open
hear_client-requires-clause-is_open c =
    let is = client-kind _ (sym c.role_at.ensures ∙ c.in-Some-Client.is ∙ ap Some c.in-Some-Client.field-0-is) in
    let P : Moved → Type 0 = λ s. role_by (find_port c.args.port s.state.ports) s.state.under_way ≡ Some Client in
    some_of_role c.args.port c.args.self.now.state.ports c.args.self.now.state.under_way Client (subst P c.self.view_is is)

pub hear_unnamed-requires-clause-is_open : goal.hear_unnamed-requires-clause-is_open
hear_unnamed-requires-clause-is_open c =
    let is = unnamed-kind _ (sym c.role_at.ensures ∙ c.in-Some-Unnamed.is ∙ ap Some c.in-Some-Unnamed.field-0-is) in
    let P : Moved → Type 0 = λ s. role_by (find_port c.args.port s.state.ports) s.state.under_way ≡ Some Unnamed in
    some_of_role c.args.port c.args.self.now.state.ports c.args.self.now.state.under_way Unnamed (subst P c.self.view_is is)

pub returns-in-None-clause-parts : goal.returns-in-None-clause-parts
returns-in-None-clause-parts c =
    let parts = c.self.inside in
    let state : State = state_of parts.wall parts.keys parts.under_way (open_of parts.ports) in
    rw (← c.self.view_is) (ap (after parts.ports.closed) (absent_hears c.args.port c.args.piece.now state (none-kind _ parts.under_way (sym c.role_at.ensures ∙ c.in-None.is))))

pub hear_helper-requires-clause-bound : goal.hear_helper-requires-clause-bound
hear_helper-requires-clause-bound c =
    let state : State = state_of c.self.inside.wall c.self.inside.keys c.self.inside.under_way (open_of c.self.inside.ports) in
    bound_of state (rw (← c.self.view_is) at c.requires.rest)

pub hear_unnamed-requires-clause-bound : goal.hear_unnamed-requires-clause-bound
hear_unnamed-requires-clause-bound c = bound_of c.args.self.now.state c.requires.rest

pub hear_unnamed-requires-clause-held : goal.hear_unnamed-requires-clause-held
hear_unnamed-requires-clause-held c = held_of_all c.args.self.now.state c.requires.rest

pub hear_unnamed-requires-clause-free : goal.hear_unnamed-requires-clause-free
hear_unnamed-requires-clause-free c =
    let is = unnamed-kind _ (sym c.role_at.ensures ∙ c.in-Some-Unnamed.is ∙ ap Some c.in-Some-Unnamed.field-0-is) in
    let P : Moved → Type 0 = λ s. role_by (find_port c.args.port s.state.ports) s.state.under_way ≡ Some Unnamed in
    agent_free c.args.port c.args.self.now.state.ports c.args.self.now.state.under_way (subst P c.self.view_is is)

pub hear_confirmer-requires : goal.hear_confirmer-requires
hear_confirmer-requires c =
    let is = confirmer-kind _ (sym c.role_at.ensures ∙ c.in-Some-Confirmer.is ∙ ap Some c.in-Some-Confirmer.field-0-is) in
    let Q : Moved → Type 0 = λ s. role_by (find_port c.args.port s.state.ports) s.state.under_way ≡ Some (Confirmer is.0) in
    let state = c.args.self.now.state in
    let at = agent_asks c.args.port state.ports state.under_way is.0 (subst Q c.self.view_is is.1) in
    let found = found_linked c.args.port state.under_way.last_job state.under_way.confirmations is.0 c.requires.rest.tied.raised.order at in
    let P : Option Confirmation → Type 0 = λ o. IsSomeAnd o (λ one. IsHeldFor one state.ports) in
    record { asker = subst P (sym at) (held_of_all state c.requires.rest is.0.job is.0 found) }

pub returns-in-Some-Helper-clause-spared : goal.returns-in-Some-Helper-clause-spared
returns-in-Some-Helper-clause-spared c = rw (← c.self.view_is) c.hear_helper.ensures.spared
