use Rattle.std.proofs.Common.{◌≡◌, ◌++◌, length}
use Rattle.record_world.specs.Recording.{hear_steps, lines}
use Rattle.record_world.proofs.hears.put_hears.Given as goal

-- the lines so far and those of the rest are those of all
abbrev pub invariant-pieces : goal.invariant-pieces
invariant-pieces l = l.text.items ++ lines (hear_steps l.port l.rest) ≡ l.fn.text.items ++ lines (hear_steps l.port l.bytes)

abbrev pub decreases-pieces : goal.decreases-pieces
decreases-pieces l = length l.rest
