use Rattle.child_msg.proofs.Theorems.{to_child_writing}
use Rattle.child_msg.proofs.write.write_to_child.Goals as goal

pub returns-clause-written : goal.returns-clause-written
returns-clause-written c = to_child_writing _ c.push_to_child.ensures.fits c.requires
