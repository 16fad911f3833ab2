use Rattle.agent_msg.proofs.ReplyLemmas.{list_head-entries}
use Rattle.agent_msg.proofs.laws.a_head_and_its_entries_are_the_list.Goals as goal

pub returns : goal.returns
returns c = list_head-entries
