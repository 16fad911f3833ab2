use Rattle.std.proofs.Common.{◌∙◌, Some, ap, sym}
use Rattle.agent_model.specs.State.{find_port}
use Rattle.agent_model.proofs.PortsLemmas.{found_number}
use Rattle.agent_core.proofs.RoleLemmas.{role-child}
use Rattle.agent_core.proofs.role.role_at.Goals as goal

pub returns-in-Some-Children : goal.returns-in-Some-Children
returns-in-Some-Children c =
    let number = c.args.number in
    let ports = c.args.ports.now.ports in
    ap Some c.child_role.ensures ∙ sym (role-child (find_port number ports) number c.args.under_way.now (λ port there. found_number number ports port there) (sym c.door.ensures ∙ c.in-Some-Children.is ∙ ap (λ d. Some d) c.in-Some-Children.field-0-is))
