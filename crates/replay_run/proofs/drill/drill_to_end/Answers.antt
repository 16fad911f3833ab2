use Rattle.std.proofs.Common.{subst, ◌∙◌, ℕ, List}
use Rattle.world_ports.specs.Streams.{WritesPart}
use Rattle.std.specs.Io.KnownBytes.{Appends}
use Rattle.replay_run.specs.Drill.{summary}
use Rattle.replay_run.specs.DrillClaims.{DrillEnds}
use Rattle.replay_run.proofs.TallyLemmas.{nothing_told}
use Rattle.replay_run.proofs.drill.drill_to_end.Goals as goal

pub returns-in_default-clause-ends : goal.returns-in_default-clause-ends
unfolding DrillEnds
returns-in_default-clause-ends g c =
    nothing_told (summary c.args.rounds c.args.seed) (g.O.Stream.seen c.args.output.now)

pub returns-in-Ok-write_all-clause-ends : goal.returns-in-Ok-write_all-clause-ends
unfolding DrillEnds
returns-in-Ok-write_all-clause-ends g c = record {
  written =
      subst (λ (t : List ℕ). Appends (g.O.Stream.seen c.args.output.now).written (g.O.Stream.seen c.write_all.new.output).written t)
      (c.deref.ensures.value ∙ c.in-Ok.ensures.text) c.in-Ok-write_all.ensures.ok;
  kept = c.in-Ok-write_all.ensures.cause.kept;
}

pub returns-clause-ends : goal.returns-clause-ends
unfolding DrillEnds
returns-clause-ends g c = record {
  front =
      subst (λ (t : List ℕ). WritesPart t (g.O.Stream.seen c.args.output.now) (g.O.Stream.seen c.write_all.new.output))
      (c.deref.ensures.value ∙ c.in-Ok.ensures.text) c.in-Err.ensures.err;
  cause = c.in-Err.ensures.cause.fault;
}
