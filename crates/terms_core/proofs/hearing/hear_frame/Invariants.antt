use Rattle.std.proofs.Common.{◌-◌, length}
use Rattle.terms_core.specs.Hearing.{HearsOn}
use Rattle.world_ports.specs.Streams.{OnlyReads}
use Rattle.terms_core.proofs.hearing.hear_frame.Given as goal

-- what was read stands behind what had been heard, and no read failed
abbrev pub invariant-pieces : goal.invariant-pieces
invariant-pieces g l = record {
  on : HearsOn l.fn.heard.live l.heard.live (g.P.Stream.seen l.fn.peer) (g.P.Stream.seen l.peer);
  only : OnlyReads (g.P.Stream.seen l.fn.peer) (g.P.Stream.seen l.peer);
}

-- the bytes that an unfinished frame may still have
abbrev pub decreases-pieces : goal.decreases-pieces
decreases-pieces g l = 262148 - length l.heard.live
