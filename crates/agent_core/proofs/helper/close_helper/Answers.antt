use Rattle.std.proofs.Common.{List, ap, subst, sym, ◌≡◌, ℕ, None, ◌∙◌}
use Rattle.helper_link.specs.declared.ask.Ask.{Ask}
use Rattle.agent_model.specs.Sound.{AreTied}
use Rattle.agent_core.specs.Slots.{OpenPorts, open_of}
use Rattle.agent_core.proofs.BoundLemmas.{tied-removed}
use Rattle.std.proofs.lemmas.Bool.{eqb-true}
use Rattle.agent_model.specs.State.{find_port, is_linked_to}
use Rattle.agent_core.proofs.helper.close_helper.Goals as goal

pub returns-in-Linked-clause-tied : goal.returns-in-Linked-clause-tied
returns-in-Linked-clause-tied c = λ (asks : List Ask) tied.
    let old = open_of c.args.ports.now in
    subst (λ ports. AreTied ports asks) (sym (ap (λ (v : OpenPorts). v.ports) c.close_open.ensures.ports))
    (tied-removed c.in-Linked.port old.last old.ports asks c.close_open.ensures.rising tied)

pub returns-in-Linked-clause-gone : goal.returns-in-Linked-clause-gone
returns-in-Linked-clause-gone c = λ (number : ℕ) is.
    subst (λ n. find_port n c.close_open.new.self.ports ≡ None) (eqb-true c.in-Linked.port number (sym (ap (is_linked_to number) c.in-Linked.is) ∙ is)) c.close_open.ensures.gone
