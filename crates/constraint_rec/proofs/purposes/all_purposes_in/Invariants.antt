use Rattle.std.proofs.Common.{length}
use Rattle.constraint_rec.specs.PurposeReading.{all_purposes_in}
use Rattle.constraint_rec.proofs.PurposeLemmas.{PurposesGoOn}
use Rattle.constraint_rec.proofs.purposes.all_purposes_in.Given as goal

abbrev pub invariant-purposes : goal.invariant-purposes
invariant-purposes l = PurposesGoOn (all_purposes_in l.bytes) l.purposes.items l.from

abbrev pub decreases-purposes : goal.decreases-purposes
decreases-purposes l = length l.from
