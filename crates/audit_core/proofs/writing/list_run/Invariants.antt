use Rattle.std.proofs.Common.{◌≡◌, [], length}
use Rattle.world_ports.specs.Streams.{OnlyWrites}
use Rattle.replay_run.specs.Counts.{IsCounted}
use Rattle.replay_run.specs.Replay.{parts_of}
use Rattle.audit_core.specs.Puts.{puts_from}
use Rattle.audit_core.specs.Writing.{IsListing}
use Rattle.audit_core.proofs.writing.list_run.Given as goal

-- the requests of the lines so far are listed, and those of the rest are left
abbrev pub invariant-lines : goal.invariant-lines
invariant-lines g l = record {
  counted : IsCounted l.run;
  puts : l.noting.puts.items ≡ [];
  listing : IsListing (puts_from l.fn.run (parts_of l.recording)) (puts_from l.run (parts_of l.rest)) l.count
      (g.O.Stream.seen l.fn.output) (g.O.Stream.seen l.output);
  only : OnlyWrites (g.O.Stream.seen l.fn.output) (g.O.Stream.seen l.output);
}

abbrev pub decreases-lines : goal.decreases-lines
decreases-lines g l = length l.rest
