use Rattle.std.proofs.Common.{◌<◌, arith}
use Rattle.std.proofs.lemmas.List.Elements.{All-from_get_or}
use Rattle.child_msg.proofs.Theorems.{from_child_found, from_child_only}
use Rattle.child_msg.proofs.read.read_from_child.Goals as goal

pub returns-clause-found : goal.returns-clause-found
returns-clause-found c =
    let each = All-from_get_or (λ byte. byte < 256) c.args.body.now 0 (λ i within. omega (arith, c.type_inv.body i)) in
    from_child_found c.args.body.now _ each c.from_child.ensures

pub returns-clause-only : goal.returns-clause-only
returns-clause-only c = from_child_only c.args.body.now _ c.from_child.ensures
