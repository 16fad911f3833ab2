use Rattle.child_msg.proofs.Theorems.{from_child_writing}
use Rattle.child_msg.proofs.write.write_from_child.Goals as goal

pub returns-clause-written : goal.returns-clause-written
returns-clause-written c = from_child_writing _ c.push_from_child.ensures.fits c.requires
