use Rattle.std.proofs.Common.{length}
use Rattle.constraint_rec.specs.HopReading.{key_at, all_of}
use Rattle.constraint_rec.proofs.ElementLemmas.{GoesOn}
use Rattle.constraint_rec.proofs.destination.keys_in.Given as goal

abbrev pub invariant-keys : goal.invariant-keys
invariant-keys l = GoesOn key_at (all_of key_at l.fn.bytes) l.keys.items l.from

abbrev pub decreases-keys : goal.decreases-keys
decreases-keys l = length l.from
