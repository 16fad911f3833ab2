use Rattle.std.proofs.Common.{rules}
use Rattle.ready_loop.proofs.turn.is_ticket.Goals as goal

pub returns : goal.returns
returns c = record { bytes = c.are_bytes.ensures; size = search rules }
