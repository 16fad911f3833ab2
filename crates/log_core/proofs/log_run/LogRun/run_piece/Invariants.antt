use Rattle.std.proofs.Common.{length}
use Rattle.world_ports.specs.Streams.{OnlyWrites}
use Rattle.log_core.specs.Logging.{IsReady, LoggedSoFar}
use Rattle.log_core.proofs.log_run.LogRun.run_piece.Given as goal

-- the front of the piece was read, and nothing else changed
abbrev pub invariant-lines : goal.invariant-lines
invariant-lines g l = record {
  so_far : LoggedSoFar l.fn.self l.piece l.rest l.self (g.O.Stream.seen l.fn.output) (g.O.Stream.seen l.output);
  ready : IsReady l.self;
  only : OnlyWrites (g.O.Stream.seen l.fn.output) (g.O.Stream.seen l.output);
}

abbrev pub decreases-lines : goal.decreases-lines
decreases-lines g l = length l.rest
