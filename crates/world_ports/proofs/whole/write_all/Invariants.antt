-- a front of the bytes is written, no write failed, and `rest` is what follows it
use Rattle.std.proofs.Common.{◌≡◌, length}
use Rattle.world_ports.specs.Streams.{OnlyWrites, WritesFront}
use Rattle.world_ports.proofs.whole.write_all.Given as goal

abbrev pub invariant-pieces : goal.invariant-pieces
invariant-pieces g l = record {
  front : WritesFront l.bytes l.rest (g.O.Stream.seen l.fn.output) (g.O.Stream.seen l.output);
  kept : (g.O.Stream.seen l.output).write_faults ≡ (g.O.Stream.seen l.fn.output).write_faults;
  only : OnlyWrites (g.O.Stream.seen l.fn.output) (g.O.Stream.seen l.output);
}

abbrev pub decreases-pieces : goal.decreases-pieces
decreases-pieces g l = length l.rest
