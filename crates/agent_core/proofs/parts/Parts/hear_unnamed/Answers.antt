use Rattle.std.proofs.Common.{◌∙◌, ℕ, ap, refl, subst, sym, IsSome}
use Rattle.wire_text.specs.Frames.{Bad, More, Whole}
use Rattle.confirm_desk.specs.Confirmations.{Confirmation}
use Rattle.agent_model.specs.Children.{heard_more}
use Rattle.agent_model.specs.State.{Port, State, find_port}
use Rattle.agent_core.specs.Confirmers.{IsHeldFor}
use Rattle.agent_core.specs.Slots.{OpenPorts, open_of}
use Rattle.agent_core.proofs.BoundLemmas.{bound-pushed}
use Rattle.agent_core.proofs.ChildLemmas.{held-changed, pushed_found, unnamed_state}
use Rattle.agent_core.proofs.ConfirmerLemmas.{closed_parts}
use Rattle.agent_core.proofs.HeldLemmas.{after_ok}
use Rattle.agent_core.proofs.HelperLemmas.{open-change_port}
use Rattle.agent_core.proofs.AlikeLemmas.{spared-still}
use Rattle.agent_core.proofs.parts.Parts.hear_unnamed.Goals as goal

pub take_first-requires-clause-is_open : goal.take_first-requires-clause-is_open
take_first-requires-clause-is_open c =
    let is_open = rw (← c.self.view_is) at c.requires.is_open in
    subst (λ (v : OpenPorts). IsSome (find_port c.args.number v.ports)) (sym c.in_ok-push.ensures.ports)
    (open-change_port c.args.number c.args.number (heard_more c.args.piece.now) c.self.inside.ports.ports (λ p. refl) is_open)

pub take_first-requires-clause-bound : goal.take_first-requires-clause-bound
take_first-requires-clause-bound c =
    let bound = rw (← c.self.view_is) at c.requires.bound in
    bound-pushed c.args.number c.args.piece.now (open_of c.self.inside.ports) (open_of c.push.new.self) c.self.inside.under_way bound c.in_ok-push.ensures.ports

pub take_first-requires-clause-held : goal.take_first-requires-clause-held
take_first-requires-clause-held c =
    let all_held = rw (← c.self.view_is) at c.requires.held in
    λ (job : ℕ) (one : Confirmation) found.
    subst (λ ports. IsHeldFor one ports) (sym (ap (λ (v : OpenPorts). v.ports) c.in_ok-push.ensures.ports))
    (held-changed c.args.number (heard_more c.args.piece.now) c.self.inside.ports.ports one one (λ p. refl) (λ p. refl) refl (all_held job one found))

pub returns-in-Whole-clause-parts : goal.returns-in-Whole-clause-parts
returns-in-Whole-clause-parts c =
    let parts = c.self.inside in
    rw (← c.self.view_is) (λ (port : Port) there.
    after_ok c.take_first.result (λ told.
    told ∙ unnamed_state parts.wall parts.keys parts.under_way (open_of parts.ports) (open_of c.push.new.self) c.args.number c.args.piece.now port (Whole c.in-Whole.body) there c.in_ok-push.ensures.ports c.in-Whole.ensures)
    (c.take_first.ensures.parts (heard_more c.args.piece.now port) (pushed_found (open_of parts.ports) (open_of c.push.new.self) c.args.number c.args.piece.now port there c.in_ok-push.ensures.ports)))

pub returns-in-Bad-clause-parts : goal.returns-in-Bad-clause-parts
returns-in-Bad-clause-parts c =
    let parts = c.self.inside in
    rw (← c.self.view_is) (λ (port : Port) there.
    closed_parts parts.wall parts.keys parts.under_way (open_of c.push.new.self) (open_of c.close_open.new.self) c.args.number c.close_open.ensures.ports
    ∙ unnamed_state parts.wall parts.keys parts.under_way (open_of parts.ports) (open_of c.push.new.self) c.args.number c.args.piece.now port (Bad c.in-Bad.announced) there c.in_ok-push.ensures.ports c.in-Bad.ensures)

pub returns-in-More-clause-parts : goal.returns-in-More-clause-parts
returns-in-More-clause-parts c =
    let parts = c.self.inside in
    rw (← c.self.view_is) (λ (port : Port) there.
    unnamed_state parts.wall parts.keys parts.under_way (open_of parts.ports) (open_of c.push.new.self) c.args.number c.args.piece.now port More there c.in_ok-push.ensures.ports c.in-More.ensures)

pub returns-in-Whole-clause-spared : goal.returns-in-Whole-clause-spared
returns-in-Whole-clause-spared c = rw (← c.self.view_is) (λ (was : State) spared.
    c.take_first.ensures.spared was (spared-still c.self.inside.ports c.push.new.self c.self.inside.under_way c.in_ok-push.ensures.spared was spared))

pub returns-in-Bad-clause-spared : goal.returns-in-Bad-clause-spared
returns-in-Bad-clause-spared c = rw (← c.self.view_is) (λ (was : State) spared.
    spared-still c.push.new.self c.close_open.new.self c.self.inside.under_way c.close_open.ensures.spared was (spared-still c.self.inside.ports c.push.new.self c.self.inside.under_way c.in_ok-push.ensures.spared was spared))

pub returns-in-More-clause-spared : goal.returns-in-More-clause-spared
returns-in-More-clause-spared c = rw (← c.self.view_is) (spared-still c.self.inside.ports c.push.new.self c.self.inside.under_way c.in_ok-push.ensures.spared)
