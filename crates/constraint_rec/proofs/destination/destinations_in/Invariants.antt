use Rattle.std.proofs.Common.{length}
use Rattle.constraint_rec.specs.HopReading.{constraint_at, all_of}
use Rattle.constraint_rec.proofs.ElementLemmas.{GoesOn}
use Rattle.constraint_rec.proofs.destination.destinations_in.Given as goal

abbrev pub invariant-rules : goal.invariant-rules
invariant-rules l = GoesOn constraint_at (all_of constraint_at l.fn.bytes) l.rules.items l.from

abbrev pub decreases-rules : goal.decreases-rules
decreases-rules l = length l.from
