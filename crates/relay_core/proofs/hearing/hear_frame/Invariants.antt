use Rattle.std.proofs.Common.{◌≡◌, ◌-◌, length}
use Rattle.child_peer.specs.Talk.{HasRead}
use Rattle.world_ports.specs.Streams.{OnlyReads}
use Rattle.relay_core.proofs.hearing.hear_frame.Given as goal

-- all that was read is heard, and no read failed
abbrev pub invariant-pieces : goal.invariant-pieces
invariant-pieces g l = record {
  read : HasRead (g.P.Stream.seen l.fn.peer) (g.P.Stream.seen l.peer) l.heard.live;
  reads : (g.P.Stream.seen l.peer).read_faults ≡ (g.P.Stream.seen l.fn.peer).read_faults;
  only : OnlyReads (g.P.Stream.seen l.fn.peer) (g.P.Stream.seen l.peer);
}

-- the bytes that an unfinished frame may still have
abbrev pub decreases-pieces : goal.decreases-pieces
decreases-pieces g l = 1048580 - length l.heard.live
