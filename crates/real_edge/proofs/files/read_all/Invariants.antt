-- what was read so far has no more bytes than were asked for, and than there is room for
use Rattle.std.proofs.Common.{◌<◌, ◌≤◌, length}
use Rattle.real_edge.proofs.files.read_all.Given as goal

abbrev pub invariant-pieces : goal.invariant-pieces
invariant-pieces g l = (l.len ≤ l.max) × ((l.len ≤ length l.room) × (0 < length l.room))
