use Rattle.std.proofs.Common.{◌∙◌, Some, length, min, refl, ap, subst, sym}
use Rattle.agent_model.specs.State.{Client, State}
use Rattle.confirm_desk.specs.Confirmations.{owed_to}
use Rattle.agent_model.specs.Sound.{IsTied}
use Rattle.agent_core.specs.Parts.{after, state_of, parts_of}
use Rattle.agent_core.specs.Slots.{OpenPorts, open_of}
use Rattle.agent_core.proofs.AgentLemmas.{agent_asked, agent_asks, agent_linked, agent_pays, agent_sends, tied-took}
use Rattle.agent_core.proofs.ConfirmerLemmas.{found_linked}
use Rattle.agent_core.proofs.FailLemmas.{absent_takes, none_whole, unnamed_takes}
use Rattle.agent_core.proofs.HeldLemmas.{after_ok}
use Rattle.agent_core.proofs.RoleLemmas.{client-kind, confirmer-kind, helper-kind, none-kind, some_of_role, unnamed-kind}
use Rattle.agent_core.proofs.AlikeLemmas.{spared-still}
use Rattle.agent_core.proofs.OwingNewsLemmas.{spared-sent, spared-took}
use Rattle.agent_core.proofs.parts.Parts.send.Goals as goal

pub drop_sent-front-requires : goal.drop_sent-front-requires
drop_sent-front-requires c =
    let is = client-kind _ (sym c.role_at.ensures ∙ c.in-Some-Client.is ∙ ap Some c.in-Some-Client.field-0-is) in
    some_of_role c.args.port c.self.inside.ports.ports c.self.inside.under_way Client is

pub returns-in-Some-Client-clause-sent : goal.returns-in-Some-Client-clause-sent
returns-in-Some-Client-clause-sent c =
    let is = client-kind _ (sym c.role_at.ensures ∙ c.in-Some-Client.is ∙ ap Some c.in-Some-Client.field-0-is) in
    let parts = c.self.inside in
    rw (← c.self.view_is) (after_ok c.look.result (λ looked.
    looked ∙ agent_sends parts.wall parts.keys parts.under_way (open_of parts.ports) (open_of c.drop_sent-front.new.self) c.args.port c.args.count is c.drop_sent-front.ensures.ports)
    c.look.ensures.looked)

pub returns-in-Some-Client-clause-succeeds : goal.returns-in-Some-Client-clause-succeeds
returns-in-Some-Client-clause-succeeds c =
    let is = client-kind _ (sym c.role_at.ensures ∙ c.in-Some-Client.is ∙ ap Some c.in-Some-Client.field-0-is) in
    let parts = c.self.inside in
    let state : State = state_of parts.wall parts.keys parts.under_way (open_of parts.ports) in
    rw (← c.self.view_is) (λ wants.
    c.look.ensures.succeeds (none_whole c.args.port c.args.count state (open_of parts.ports) (open_of c.drop_sent-front.new.self) refl is c.drop_sent-front.ensures.ports wants))

pub returns-in-Some-Helper-clause-sent : goal.returns-in-Some-Helper-clause-sent
returns-in-Some-Helper-clause-sent c =
    let is = helper-kind _ (sym c.role_at.ensures ∙ c.in-Some-Helper.is ∙ ap Some c.in-Some-Helper.field-0-is) in
    let parts = c.self.inside in
    let linked = agent_linked c.args.port parts.ports.ports parts.under_way is in
    let least = c.min-count.ensures ∙ ap (min c.args.count) (ap length c.owed.ensures) in
    rw (← c.self.view_is) (
    ap (parts_of parts.wall parts.keys c.helper_took.new.self) c.touch.ensures.ports
    ∙ agent_pays parts.wall parts.keys parts.under_way c.helper_took.new.self (open_of parts.ports) c.args.port c.args.count c.min-count.result is linked least c.helper_took.ensures)

pub look-requires-clause-tied : goal.look-requires-clause-tied
look-requires-clause-tied c =
    let rest = rw (← c.self.view_is) at c.requires.rest in
    let parts = c.self.inside in
    let state : State = state_of parts.wall parts.keys parts.under_way (open_of parts.ports) in
    let P : OpenPorts → Type 0 = λ v. IsTied (state_of parts.wall parts.keys parts.under_way v) in
    subst P (sym c.drop_sent-front.ensures.ports) (tied-took c.args.port c.args.count state rest.tied)

pub confirmer_took-requires-clause-there : goal.confirmer_took-requires-clause-there
confirmer_took-requires-clause-there c =
    let is = confirmer-kind _ (sym c.role_at.ensures ∙ c.in-Some-Confirmer.is ∙ ap Some c.in-Some-Confirmer.field-0-is) in
    rw (agent_asks c.args.port c.self.inside.ports.ports c.self.inside.under_way is.0 is.1) refl

pub returns-in-Some-Confirmer-clause-sent : goal.returns-in-Some-Confirmer-clause-sent
returns-in-Some-Confirmer-clause-sent c =
    let is = confirmer-kind _ (sym c.role_at.ensures ∙ c.in-Some-Confirmer.is ∙ ap Some c.in-Some-Confirmer.field-0-is) in
    let parts = c.self.inside in
    let rest = rw (← c.self.view_is) at c.requires.rest in
    let at = agent_asks c.args.port parts.ports.ports parts.under_way is.0 is.1 in
    let there = found_linked c.args.port parts.under_way.last_job parts.under_way.confirmations is.0 rest.tied.raised.order at in
    let least = c.min-count-in-Some-Confirmer.ensures ∙ ap (min c.args.count) (ap length (c.confirmer_owed.ensures ∙ ap owed_to at)) in
    rw (← c.self.view_is) (
    ap (parts_of parts.wall parts.keys c.confirmer_took.new.self) c.touch-in-Some-Confirmer.ensures.ports
    ∙ agent_asked parts.wall parts.keys parts.under_way c.confirmer_took.new.self (open_of parts.ports) c.args.port c.args.count c.min-count-in-Some-Confirmer.result is.0 is.1 there least c.confirmer_took.ensures)

pub returns-in-Some-Unnamed-clause-sent : goal.returns-in-Some-Unnamed-clause-sent
returns-in-Some-Unnamed-clause-sent c =
    let is = unnamed-kind _ (sym c.role_at.ensures ∙ c.in-Some-Unnamed.is ∙ ap Some c.in-Some-Unnamed.field-0-is) in
    let parts = c.self.inside in
    let state : State = state_of parts.wall parts.keys parts.under_way (open_of parts.ports) in
    rw (← c.self.view_is) (ap (after parts.ports.closed) (unnamed_takes c.args.port c.args.count state is))

pub returns-in-None-clause-sent : goal.returns-in-None-clause-sent
returns-in-None-clause-sent c =
    let parts = c.self.inside in
    let state : State = state_of parts.wall parts.keys parts.under_way (open_of parts.ports) in
    rw (← c.self.view_is) (ap (after parts.ports.closed) (absent_takes c.args.port c.args.count state (none-kind _ parts.under_way (sym c.role_at.ensures ∙ c.in-None.is))))

pub returns-in-Some-Client-clause-same : goal.returns-in-Some-Client-clause-same
returns-in-Some-Client-clause-same c = rw (← c.self.view_is) c.look.ensures.same

pub returns-in-Some-Client-clause-spared : goal.returns-in-Some-Client-clause-spared
returns-in-Some-Client-clause-spared c = rw (← c.self.view_is) (λ (was : State) spared.
    c.look.ensures.spared was (spared-still c.self.inside.ports c.drop_sent-front.new.self c.self.inside.under_way c.drop_sent-front.ensures.spared was spared))

pub returns-in-Some-Helper-clause-spared : goal.returns-in-Some-Helper-clause-spared
returns-in-Some-Helper-clause-spared c =
    let is = helper-kind _ (sym c.role_at.ensures ∙ c.in-Some-Helper.is ∙ ap Some c.in-Some-Helper.field-0-is) in
    let parts = c.self.inside in
    rw (← c.self.view_is)
    (spared-sent c.args.port c.min-count.result parts.under_way c.helper_took.new.self parts.ports c.touch.new.self c.helper_took.ensures
    (agent_linked c.args.port parts.ports.ports parts.under_way is) c.touch.ensures.spared c.touch.ensures.touched)

pub returns-in-Some-Confirmer-clause-spared : goal.returns-in-Some-Confirmer-clause-spared
returns-in-Some-Confirmer-clause-spared c =
    let parts = c.self.inside in
    let rest = rw (← c.self.view_is) at c.requires.rest in
    rw (← c.self.view_is)
    (spared-took c.args.port c.min-count-in-Some-Confirmer.result parts.under_way c.confirmer_took.new.self parts.ports c.touch-in-Some-Confirmer.new.self c.confirmer_took.ensures
    rest.tied.raised.order c.touch-in-Some-Confirmer.ensures.spared c.touch-in-Some-Confirmer.ensures.touched)
