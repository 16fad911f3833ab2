use Rattle.std.proofs.Common.{◌<◌, arith}
use Rattle.std.proofs.lemmas.List.Elements.{All-from_get_or, All-take}
use Rattle.filter_top.proofs.turn.front_of.Goals as goal

pub returns-clause-bytes : goal.returns-clause-bytes
returns-clause-bytes c =
    let each = All-from_get_or (λ byte. byte < 256) c.args.room.now 0 (λ i within. omega (arith, c.type_inv.room i)) in
    All-take (λ byte. byte < 256) c.args.count c.args.room.now each
