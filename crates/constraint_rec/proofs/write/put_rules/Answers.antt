use Rattle.constraint_rec.proofs.ReadingLemmas.{name_is_short}
use Rattle.constraint_rec.proofs.write.put_rules.Goals as goal

pub put_string-requires : goal.put_string-requires
put_string-requires c = rw c.restrict_destination.ensures name_is_short
