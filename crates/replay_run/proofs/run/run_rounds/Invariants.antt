use Rattle.std.proofs.Common.{◌-◌}
use Rattle.world_ports.specs.Streams.{OnlyReads, OnlyWrites}
use Rattle.agent_core.specs.Parts.{settings_of}
use Rattle.replay_run.specs.Rounds.{IsUnderWay}
use Rattle.replay_run.specs.Feeding.{fed_so_far}
use Rattle.replay_run.specs.Replay.{longest_schedule}
use Rattle.replay_run.proofs.run.run_rounds.Given as goal

-- the run is under way, and nothing else changed
abbrev pub invariant-rounds : goal.invariant-rounds
invariant-rounds g l = record {
  under : IsUnderWay (settings_of l.fn.settings)
      (record { input = g.I.Stream.seen l.fn.input; output = g.O.Stream.seen l.fn.output })
      (record { input = g.I.Stream.seen l.input; output = g.O.Stream.seen l.output })
      l.feed;
  input_only : OnlyReads (g.I.Stream.seen l.fn.input) (g.I.Stream.seen l.input);
  output_only : OnlyWrites (g.O.Stream.seen l.fn.output) (g.O.Stream.seen l.output);
}

-- the bytes that the schedule may still have
abbrev pub decreases-rounds : goal.decreases-rounds
decreases-rounds g l = longest_schedule - fed_so_far l.feed
