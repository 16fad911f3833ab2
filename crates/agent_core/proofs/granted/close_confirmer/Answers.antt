use Rattle.std.proofs.Common.{◌≡◌, ℕ, Some, subst, None, ◌∙◌, sym}
use Rattle.agent_model.specs.State.{Port, find_port}
use Rattle.agent_core.specs.Slots.{OpenPorts}
use Rattle.agent_model.proofs.PortsLemmas.{find_port-left}
use Rattle.agent_core.proofs.AlikeLemmas.{spares-none}
use Rattle.agent_core.proofs.granted.close_confirmer.Goals as goal

pub returns-in-Some-clause-left : goal.returns-in-Some-clause-left
returns-in-Some-clause-left c = λ (number : ℕ) (port : Port) found.
    find_port-left number c.in-Some.number 0 c.args.ports.now.last c.args.ports.now.ports port c.close_open.ensures.rising
    (subst (λ (v : OpenPorts). find_port number v.ports ≡ Some port) c.close_open.ensures.ports found)

pub returns-in-Some-clause-gone : goal.returns-in-Some-clause-gone
returns-in-Some-clause-gone c = λ (number : ℕ) is.
    let both : Some c.in-Some.number ≡ Some number = sym c.in-Some.is ∙ is in
    let same : c.in-Some.number ≡ number = cc in
    subst (λ n. find_port n c.close_open.new.self.ports ≡ None) same c.close_open.ensures.gone

pub returns-in-None-clause-spared : goal.returns-in-None-clause-spared
returns-in-None-clause-spared c = spares-none c.args.ports.now
