use Rattle.child_msg.specs.Messages.{from_child_message}
use Rattle.helper_core.proofs.ReplyLemmas.{small_message}
use Rattle.helper_core.proofs.reply.message_of.Goals as goal

pub returns-in-Ok-clause-small : goal.returns-in-Ok-clause-small
returns-in-Ok-clause-small c = small_message c.args.body.now (from_child_message c.in-Ok.message) c.in-Ok.ensures.found c.requires
