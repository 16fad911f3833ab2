use Rattle.std.specs.Option.{IsSomeAnd}
use Rattle.std.proofs.Common.{◌∙◌, Option, ap, refl, subst, sym}
use Rattle.wire_text.specs.Frames.{after_front, front_body}
use Rattle.child_msg.specs.Reading.{from_child_of}
use Rattle.helper_link.specs.HelperLink.{IsLinked}
use Rattle.confirm_desk.specs.Confirmations.{Confirmation, find_linked, linked_at}
use Rattle.agent_model.specs.Children.{unheard}
use Rattle.agent_model.specs.State.{Port, UnderWay, State}
use Rattle.agent_core.specs.Confirmers.{IsHeldFor}
use Rattle.agent_core.specs.Settlings.{named_job}
use Rattle.agent_core.specs.Slots.{OpenPorts, heard_in, open_of}
use Rattle.agent_core.proofs.BoundLemmas.{bound-named}
use Rattle.agent_core.proofs.ChildLemmas.{child_asks, child_named, confirmation_named, held-changed, linked_there}
use Rattle.agent_core.proofs.HeldLemmas.{after_ok}
use Rattle.agent_core.proofs.AlikeLemmas.{spared-still}
use Rattle.agent_core.proofs.OwingNewsLemmas.{spared-confirmer_named, spared-helper_named}
use Rattle.agent_core.proofs.parts.Parts.take_first.Goals as goal

pub hear_helper-requires-clause-linked : goal.hear_helper-requires-clause-linked
hear_helper-requires-clause-linked c = subst (λ (u : UnderWay). IsLinked u.link.state) (sym c.helper_named.ensures) tt

pub hear_helper-requires-clause-bound : goal.hear_helper-requires-clause-bound
hear_helper-requires-clause-bound c =
    let bound = rw (← c.self.view_is) at c.requires.bound in
    bound-named c.args.number c.in-Some.job.number (open_of c.self.inside.ports) (open_of c.take_heard-heard.new.self) c.self.inside.under_way c.helper_named.new.self bound c.helper_named.ensures c.take_heard-heard.ensures.ports

pub returns-in-Helper-clause-parts : goal.returns-in-Helper-clause-parts
returns-in-Helper-clause-parts c =
    let parts = c.self.inside in
    rw (← c.self.view_is) (λ (port : Port) there.
    let going = parts.under_way in
    let body = c.first_body.ensures.body ∙ ap (front_body c.args.body_len) (c.heard.ensures ∙ ap heard_in there) in
    let rest = c.after_front-rest.ensures ∙ ap (after_front c.args.body_len) (c.live.ensures ∙ c.take_heard-heard.ensures.heard port there) in
    let named = ap (λ b. named_job (from_child_of b) going) (sym body) ∙ sym c.job_named.ensures.job ∙ c.in-Some.is in
    after_ok c.hear_helper.result (λ told.
    told ∙ child_named parts.wall parts.keys going c.helper_named.new.self (open_of parts.ports) (open_of c.take_heard-heard.new.self) (from_child_of (front_body c.args.body_len port.heard)) c.in-Some.job c.args.number c.after_front-rest.result.now (after_front c.args.body_len port.heard) named c.in-Helper.is c.helper_named.ensures c.take_heard-heard.ensures.ports rest)
    (c.hear_helper.ensures.parts parts.wall parts.keys))

pub hear_confirmer-requires : goal.hear_confirmer-requires
hear_confirmer-requires c =
    let going = c.self.inside.under_way in
    let number = c.args.number in
    let free = rw (← c.self.view_is) at c.requires.free in
    let all_held = rw (← c.self.view_is) at c.requires.held in
    let one = confirmation_named c.in-Some.job going c.in-Some.ensures.named c.in-Confirm.is in
    let linked = ap (λ (u : UnderWay). find_linked number u.confirmations) c.confirmer_named.ensures ∙ linked_there c.in-Some.job.number number going.confirmations one.0 one.1 free in
    let P : Option Confirmation → Type 0 = λ f. IsSomeAnd f (λ o. IsHeldFor o c.take_heard-heard.new.self.ports) in
    let held = held-changed number unheard c.self.inside.ports.ports one.0 (linked_at number one.0) (λ p. refl) (λ p. refl) refl (all_held c.in-Some.job.number one.0 one.1) in
    record {
      asker = subst P (sym linked) (subst (λ ports. IsHeldFor (linked_at number one.0) ports) (sym (ap (λ (v : OpenPorts). v.ports) c.take_heard-heard.ensures.ports)) held);
    }

pub returns-clause-parts : goal.returns-clause-parts
returns-clause-parts c =
    let parts = c.self.inside in
    let free = rw (← c.self.view_is) at c.requires.free in
    rw (← c.self.view_is) (λ (port : Port) there.
    let going = parts.under_way in
    let number = c.args.number in
    let body = c.first_body.ensures.body ∙ ap (front_body c.args.body_len) (c.heard.ensures ∙ ap heard_in there) in
    let rest = c.after_front-rest.ensures ∙ ap (after_front c.args.body_len) (c.live.ensures ∙ c.take_heard-heard.ensures.heard port there) in
    let named = ap (λ b. named_job (from_child_of b) going) (sym body) ∙ sym c.job_named.ensures.job ∙ c.in-Some.is in
    let one = confirmation_named c.in-Some.job going c.in-Some.ensures.named c.in-Confirm.is in
    let linked = ap (λ (u : UnderWay). find_linked number u.confirmations) c.confirmer_named.ensures ∙ linked_there c.in-Some.job.number number going.confirmations one.0 one.1 free in
    after_ok c.hear_confirmer.result (λ told.
    told ∙ child_asks parts.wall parts.keys going c.confirmer_named.new.self (open_of parts.ports) (open_of c.take_heard-heard.new.self) (from_child_of (front_body c.args.body_len port.heard)) c.in-Some.job number c.after_front-rest.result.now (after_front c.args.body_len port.heard) one.0 named c.in-Confirm.is one.1 c.confirmer_named.ensures c.take_heard-heard.ensures.ports rest)
    (c.hear_confirmer.ensures.parts (linked_at number one.0) linked))

pub returns-in_default-clause-spared : goal.returns-in_default-clause-spared
returns-in_default-clause-spared c = rw (← c.self.view_is) (spared-still c.self.inside.ports c.close_open.new.self c.self.inside.under_way c.close_open.ensures.spared)

pub returns-in-Helper-clause-spared : goal.returns-in-Helper-clause-spared
returns-in-Helper-clause-spared c =
    let parts = c.self.inside in
    rw (← c.self.view_is) (λ (was : State) spared.
    c.hear_helper.ensures.spared was
    (spared-helper_named c.args.number c.in-Some.job parts.under_way c.helper_named.new.self _ parts.ports c.take_heard-heard.new.self c.helper_named.ensures c.in-Some.ensures.named.is_for c.in-Helper.is
    c.take_heard-heard.ensures.spared c.take_heard-heard.ensures.touched was spared))

pub returns-clause-spared : goal.returns-clause-spared
returns-clause-spared c =
    let parts = c.self.inside in
    rw (← c.self.view_is) (λ (was : State) spared.
    c.hear_confirmer.ensures.spared was
    (spared-confirmer_named c.args.number c.in-Some.job parts.under_way c.confirmer_named.new.self _ parts.ports c.take_heard-heard.new.self c.confirmer_named.ensures c.in-Some.ensures.named.is_for c.in-Confirm.is
    c.take_heard-heard.ensures.spared c.take_heard-heard.ensures.touched was spared))
