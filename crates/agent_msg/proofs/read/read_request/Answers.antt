use Rattle.std.proofs.Common.{◌<◌, arith}
use Rattle.std.proofs.lemmas.List.Elements.{All-from_get_or}
use Rattle.agent_msg.proofs.Theorems.{request_found, request_only}
use Rattle.agent_msg.proofs.read.read_request.Goals as goal

pub returns-clause-found : goal.returns-clause-found
returns-clause-found c =
    let each = All-from_get_or (λ byte. byte < 256) c.args.body.now 0 (λ i within. omega (arith, c.type_inv.body i)) in
    request_found c.args.body.now _ each c.request_in.ensures.exact

pub returns-clause-only : goal.returns-clause-only
returns-clause-only c = request_only c.args.body.now _ c.request_in.ensures.exact
