use Rattle.agent_msg.specs.ReplyReading.{reply_of}
use Rattle.add_core.specs.Listings.{list_reply}
use Rattle.add_core.proofs.StepLemmas.{none_is_cut}
use Rattle.add_core.proofs.listing.write_reply.Goals as goal

pub returns-in-Err-Memory-clause-told : goal.returns-in-Err-Memory-clause-told
returns-in-Err-Memory-clause-told g c = λ left peer known.
    none_is_cut (list_reply c.args.listing (reply_of c.args.body.now) left) peer (g.O.Stream.seen c.args.output.now)
