use Rattle.std.proofs.Common.{◌<◌, arith}
use Rattle.std.proofs.lemmas.List.Elements.{All-from_get_or}
use Rattle.agent_msg.proofs.ReplyReadLemmas.{reply_found, reply_only}
use Rattle.agent_msg.proofs.reply_reader.read_reply.Goals as goal

pub returns-clause-found : goal.returns-clause-found
returns-clause-found c =
    let each = All-from_get_or (λ byte. byte < 256) c.args.body.now 0 (λ i within. omega (arith, c.type_inv.body i)) in
    reply_found c.args.body.now _ each c.reply_in.ensures

pub returns-clause-only : goal.returns-clause-only
returns-clause-only c = reply_only c.args.body.now _ c.reply_in.ensures
