use Rattle.std.proofs.Common.{◌∙◌, ◌++◌, Option, Some, ap, refl, subst, sym}
use Rattle.std.specs.Option.{IsSomeAnd}
use Rattle.confirm_desk.specs.Calls.{Telling}
use Rattle.confirm_desk.specs.Confirmations.{Confirmation, consent}
use Rattle.confirm_desk.specs.declared.held.Held.{Held as CodeHeld}
use Rattle.agent_model.specs.Consents.{confirmer_heard, consent_by}
use Rattle.agent_model.specs.State.{State, find_port}
use Rattle.agent_model.specs.Verdicts.{NotConfirmed, Refuses}
use Rattle.agent_model.proofs.OpenLemmas.{some_port}
use Rattle.agent_model.proofs.JobLemmas.{linked_port}
use Rattle.agent_core.specs.Confirmers.{IsHeldFor}
use Rattle.agent_core.specs.Parts.{after, state_of}
use Rattle.agent_core.proofs.ConfirmerLemmas.{ended_by, granted_parts, over_parts, told_no, told_of, told_yes}
use Rattle.agent_core.proofs.HeldLemmas.{after_ok}
use Rattle.agent_core.specs.Slots.{OpenPorts, open_of}
use Rattle.agent_core.proofs.AlikeLemmas.{spared-still}
use Rattle.agent_core.proofs.OwingNewsLemmas.{spared-told}
use Rattle.agent_core.proofs.parts.Parts.hear_confirmer.Goals as goal

pub returns-in-Granted-clause-parts : goal.returns-in-Granted-clause-parts
returns-in-Granted-clause-parts c =
    let parts = c.self.inside in
    let asker = rw (← c.self.view_is) at c.requires.asker in
    rw (← c.self.view_is) (λ (one : Confirmation) found.
    let going = parts.under_way in
    let ports = open_of c.touch.new.self in
    let number = c.args.number in
    let piece = c.args.piece.now in
    let said = sym c.in_ok-confirmer_told.ensures.verdict ∙ c.in-Granted.is in
    let agreed = told_yes (consent one.job (one.heard ++ piece)) one piece going.confirmations c.in-Granted.held (sym (ap (λ (t : Telling). t.verdict) (told_of number piece going.confirmations one found)) ∙ said) in
    let mid = c.in_ok-confirmer_told.ensures.under_way ∙ ended_by number piece going one _ found (sym said) in
    let P : Option Confirmation → Type 0 = λ f. IsSomeAnd f (λ o. IsHeldFor o parts.ports.ports) in
    let held : IsHeldFor one ports.ports = subst (λ (v : OpenPorts). IsHeldFor one v.ports) (sym c.touch.ensures.ports) (subst P found asker) in
    let there = some_port one.asker ports.ports held.is_open in
    let same = ap (λ (h : CodeHeld). h.asker) agreed.1 in
    after_ok c.grant.result
    (λ is. is ∙ ap (after ports.closed) (granted_parts piece parts.wall parts.keys going c.confirmer_told.new.self ports one there.0 agreed.0 there.1 mid)
    ∙ ap (λ (v : OpenPorts). after v.closed (confirmer_heard one piece (state_of parts.wall parts.keys going v))) c.touch.ensures.ports)
    (c.grant.ensures.parts there.0 one (ap (λ a. find_port a ports.ports) (sym same) ∙ there.1) agreed.1 (linked_port number going.confirmations one found)))

pub returns-in-Denied-clause-parts : goal.returns-in-Denied-clause-parts
returns-in-Denied-clause-parts c =
    let parts = c.self.inside in
    rw (← c.self.view_is) (λ (one : Confirmation) found.
    let going = parts.under_way in
    let number = c.args.number in
    let piece = c.args.piece.now in
    let said = sym c.in_ok-confirmer_told.ensures.verdict ∙ c.in-Denied.is in
    let refused = told_no (consent one.job (one.heard ++ piece)) one piece going.confirmations c.in-Denied.held (sym (ap (λ (t : Telling). t.verdict) (told_of number piece going.confirmations one found)) ∙ said) in
    let mid = c.in_ok-confirmer_told.ensures.under_way ∙ ended_by number piece going one _ found (sym said) in
    let ports = open_of c.touch.new.self in
    let state : State = state_of parts.wall parts.keys going ports in
    over_parts parts.wall parts.keys going c.confirmer_told.new.self ports (open_of c.conclude.new.ports) one (Some number) c.in-Denied.held.asker mid
    (c.conclude.ensures.ports (Refuses NotConfirmed) (refl, refl))
    (ap (λ (h : CodeHeld). h.asker) refused.1) (linked_port number going.confirmations one found)
    ∙ ap (λ k. after ports.closed (consent_by k one piece state)) (sym refused.0)
    ∙ ap (λ (v : OpenPorts). after v.closed (confirmer_heard one piece (state_of parts.wall parts.keys going v))) c.touch.ensures.ports)

pub returns-in-NotYet-clause-spared : goal.returns-in-NotYet-clause-spared
returns-in-NotYet-clause-spared c =
    let parts = c.self.inside in
    rw (← c.self.view_is) (λ (was : State) spared.
    (spared-told c.args.number c.args.piece.now parts.under_way c.confirmer_told.new.self parts.ports c.touch.new.self c.in_ok-confirmer_told.ensures.under_way c.jobs_rise.ensures
    c.touch.ensures.spared c.touch.ensures.touched was spared))

pub returns-in-Granted-clause-spared : goal.returns-in-Granted-clause-spared
returns-in-Granted-clause-spared c =
    let parts = c.self.inside in
    rw (← c.self.view_is) (λ (was : State) spared.
    c.grant.ensures.spared was
    (spared-told c.args.number c.args.piece.now parts.under_way c.confirmer_told.new.self parts.ports c.touch.new.self c.in_ok-confirmer_told.ensures.under_way c.jobs_rise.ensures
    c.touch.ensures.spared c.touch.ensures.touched was spared))

pub returns-in-Denied-clause-spared : goal.returns-in-Denied-clause-spared
returns-in-Denied-clause-spared c =
    let parts = c.self.inside in
    rw (← c.self.view_is) (λ (was : State) spared.
    spared-still c.touch.new.self c.conclude.new.ports c.confirmer_told.new.self c.conclude.ensures.spared was
    (spared-told c.args.number c.args.piece.now parts.under_way c.confirmer_told.new.self parts.ports c.touch.new.self c.in_ok-confirmer_told.ensures.under_way c.jobs_rise.ensures
    c.touch.ensures.spared c.touch.ensures.touched was spared))
