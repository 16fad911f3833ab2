use Rattle.std.proofs.Common.{refl}
use Rattle.agent_msg.specs.ReplyReading.{reply_body}
use Rattle.agent_msg.proofs.ReplyReadLemmas.{reply_is_read}
use Rattle.agent_msg.proofs.reply_reader.a_written_reply_is_read_back.Goals as goal

pub returns-clause-read : goal.returns-clause-read
returns-clause-read c = λ reply fit. reply_is_read (reply_body reply) reply record { printed = refl; fit = fit }
