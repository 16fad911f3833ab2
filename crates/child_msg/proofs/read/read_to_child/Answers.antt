use Rattle.std.proofs.Common.{◌<◌, arith}
use Rattle.std.proofs.lemmas.List.Elements.{All-from_get_or}
use Rattle.child_msg.proofs.Theorems.{to_child_found, to_child_only}
use Rattle.child_msg.proofs.read.read_to_child.Goals as goal

pub returns-clause-found : goal.returns-clause-found
returns-clause-found c =
    let each = All-from_get_or (λ byte. byte < 256) c.args.body.now 0 (λ i within. omega (arith, c.type_inv.body i)) in
    to_child_found c.args.body.now _ each c.to_child.ensures

pub returns-clause-only : goal.returns-clause-only
returns-clause-only c = to_child_only c.args.body.now _ c.to_child.ensures
