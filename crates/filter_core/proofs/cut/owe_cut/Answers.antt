use Rattle.std.proofs.Common.{◌≡◌, Result, subst, sym}
use Rattle.std.specs.Prelude.{IfOk, OnOk, is_some}
use Rattle.agent_msg.specs.ReplyReading.{AgentReply}
use Rattle.agent_msg.specs.declared.agent_reply.ReplyFault.{ReplyFault}
use Rattle.filter_model.specs.Looking.{cut_reply}
use Rattle.filter_core.specs.Slots.{owes_reply}
use Rattle.filter_core.proofs.CutLemmas.{short_reply}
use Rattle.filter_core.proofs.cut.owe_cut.Goals as goal

pub owe_read-requires : goal.owe_read-requires
owe_read-requires c = short_reply c.args.answer.now _ c.in-Ok.ensures.found c.requires

pub returns-in-Ok-clause-is_one : goal.returns-in-Ok-clause-is_one
returns-in-Ok-clause-is_one c =
    subst (λ (r : Result AgentReply ReplyFault). IfOk c.owe_read.result (λ is_one. is_one ≡ is_some (cut_reply c.args.listed.now r))) (sym c.in-Ok.ensures.exact) c.owe_read.ensures.is_one

pub returns-in-Ok-clause-owed : goal.returns-in-Ok-clause-owed
returns-in-Ok-clause-owed c =
    subst (λ (r : Result AgentReply ReplyFault). OnOk c.owe_read.result (c.owe_read.new.client ≡ owes_reply (cut_reply c.args.listed.now r) c.args.client.now)) (sym c.in-Ok.ensures.exact) c.owe_read.ensures.owed
