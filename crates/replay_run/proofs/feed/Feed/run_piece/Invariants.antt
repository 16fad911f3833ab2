use Rattle.std.proofs.Common.{length}
use Rattle.world_ports.specs.Streams.{OnlyWrites}
use Rattle.replay_run.specs.Feeding.{FedSoFar}
use Rattle.replay_run.proofs.feed.Feed.run_piece.Given as goal

-- the front of the piece was fed, and nothing else changed
abbrev pub invariant-lines : goal.invariant-lines
invariant-lines g l = record {
  fed : FedSoFar l.fn.self l.piece l.rest l.self (g.O.Stream.seen l.fn.output) (g.O.Stream.seen l.output);
  only : OnlyWrites (g.O.Stream.seen l.fn.output) (g.O.Stream.seen l.output);
}

abbrev pub decreases-lines : goal.decreases-lines
decreases-lines g l = length l.rest
