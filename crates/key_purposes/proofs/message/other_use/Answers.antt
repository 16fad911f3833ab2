use Rattle.key_purposes.proofs.message.other_use.Goals as goal

pub returns-in-Err : goal.returns-in-Err
returns-in-Err c = λ fault. rw c.in-Err.ensures.exact (c.use_by_bytes.ensures fault c.in-Err.field-0)
