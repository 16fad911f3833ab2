use Rattle.std.proofs.Common.{length}
use Rattle.constraint_rec.specs.Reading.{terms_of}
use Rattle.constraint_rec.proofs.Theorems.{GoesOn}
use Rattle.constraint_rec.proofs.read.terms_at.Given as goal

abbrev pub invariant-constraints : goal.invariant-constraints
invariant-constraints l = GoesOn (terms_of l.fn.bytes) l.terms l.from

abbrev pub decreases-constraints : goal.decreases-constraints
decreases-constraints l = length l.from
