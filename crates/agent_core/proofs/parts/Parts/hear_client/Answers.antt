use Rattle.std.proofs.Common.{◌∙◌, ap, subst, sym}
use Rattle.agent_model.specs.Sound.{IsTied}
use Rattle.agent_model.specs.State.{State}
use Rattle.agent_model.specs.Step.{looked}
use Rattle.agent_core.specs.Parts.{after, state_of}
use Rattle.agent_core.specs.Slots.{OpenPorts, open_of}
use Rattle.agent_core.proofs.AgentLemmas.{tied-heard}
use Rattle.agent_core.proofs.AlikeLemmas.{spared-still}
use Rattle.agent_core.proofs.parts.Parts.hear_client.Goals as goal

pub returns-clause-parts : goal.returns-clause-parts
returns-clause-parts c =
    let parts = c.self.inside in
    rw (← c.self.view_is) (c.in_ok-look.ensures.looked
    ∙ ap (λ (v : OpenPorts). after v.closed (looked c.args.port (state_of parts.wall parts.keys parts.under_way v))) c.in_ok-front.ensures.ports)

pub look-requires-clause-tied : goal.look-requires-clause-tied
look-requires-clause-tied c =
    let rest = rw (← c.self.view_is) at c.requires.rest in
    let parts = c.self.inside in
    let state : State = state_of parts.wall parts.keys parts.under_way (open_of parts.ports) in
    let P : OpenPorts → Type 0 = λ v. IsTied (state_of parts.wall parts.keys parts.under_way v) in
    subst P (sym c.in_ok-front.ensures.ports) (tied-heard c.args.port c.args.piece.now state rest.tied)

pub returns-clause-spared : goal.returns-clause-spared
returns-clause-spared c = rw (← c.self.view_is) (λ (was : State) spared.
    c.in_ok-look.ensures.spared was (spared-still c.self.inside.ports c.push.new.self c.self.inside.under_way c.in_ok-front.ensures.spared was spared))
