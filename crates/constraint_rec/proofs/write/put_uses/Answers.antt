use Rattle.constraint_rec.proofs.ReadingLemmas.{uses_name_is_short}
use Rattle.constraint_rec.proofs.write.put_uses.Goals as goal

pub put_string-requires : goal.put_string-requires
put_string-requires c = rw c.uses_name.ensures uses_name_is_short
