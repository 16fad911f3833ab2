use Rattle.key_purposes.specs.Messages.{use_of}
use Rattle.key_purposes.proofs.message.use_of.Goals as goal

pub returns-in-Err : goal.returns-in-Err
unfolding use_of
returns-in-Err c = rw c.in-Err.ensures.exact (c.other_use.ensures c.in-Err.field-0)
