use Rattle.std.proofs.Common.{◌∙◌, ap, sym, subst}
use Rattle.confirm_desk.specs.Confirmations.{Confirmation}
use Rattle.confirm_desk.specs.declared.held.Held.{Held as CodeHeld}
use Rattle.agent_model.specs.State.{Port, find_port, State}
use Rattle.agent_core.specs.Slots.{open_of}
use Rattle.agent_core.specs.Confirmers.{grant_in}
use Rattle.agent_core.proofs.ConfirmerLemmas.{grant_parts}
use Rattle.agent_core.specs.Parts.{Moved, stepped_of, IsSpared}
use Rattle.agent_core.proofs.AlikeLemmas.{spared-still}
use Rattle.agent_core.proofs.parts.Parts.grant.Goals as goal

pub conclude-requires : goal.conclude-requires
conclude-requires c = record {
  silent = λ (port : Port) found.
      let same = ap (λ (s : Moved). s.state.ports) c.self.view_is ∙ c.in_ok-asked.ensures.ports in
      c.requires.silent port (ap (find_port c.args.held.now.asker) (sym same) ∙ found);
}

pub returns-clause-parts : goal.returns-clause-parts
returns-clause-parts c = λ (port : Port) (one : Confirmation) found given at.
    let parts = c.self.inside in
    let old = stepped_of c.args.self.now in
    let work = grant_in port.chain one old.state in
    let is = c.in_ok-asked.ensures.put port one found given in
    grant_parts old parts.wall parts.keys parts.under_way (open_of parts.ports) (open_of c.conclude.new.ports) work one c.args.number c.args.held.now.asker
    (ap stepped_of c.self.view_is ∙ is.parts) (c.conclude.ensures.ports work.verdict is.told) (ap (λ (h : CodeHeld). h.asker) given) at

pub returns-clause-spared : goal.returns-clause-spared
returns-clause-spared c = λ (was : State) spared.
    spared-still c.self.inside.ports c.conclude.new.ports c.self.inside.under_way c.conclude.ensures.spared was (subst (IsSpared was) (sym c.self.view_is) (c.in_ok-asked.ensures.spared was spared))
