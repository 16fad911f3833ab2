use Rattle.std.proofs.Common.{◌∙◌, ap, sym}
use Rattle.world_ports.specs.declared.Door.TheVariants.{Children}
use Rattle.agent_model.specs.State.{is_unnamed, role_of}
use Rattle.agent_core.specs.Roles.{is_unnamed_kind}
use Rattle.agent_core.proofs.RoleLemmas.{unnamed_of_kind}
use Rattle.agent_core.proofs.counting.is_unnamed.Goals as goal

pub returns-in-Children : goal.returns-in-Children
returns-in-Children c =
    let number = c.args.slot.now.number in
    c.is_nobody.ensures ∙ ap is_unnamed_kind c.child_role.ensures
    ∙ unnamed_of_kind (role_of Children number c.args.under_way.now)
    ∙ ap (λ d. is_unnamed (role_of d number c.args.under_way.now)) (sym c.in-Children.is)
