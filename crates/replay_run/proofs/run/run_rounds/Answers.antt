use Rattle.std.proofs.Common.{arith}
use Rattle.agent_core.specs.Parts.{settings_of}
use Rattle.replay_run.specs.Claims.{Seen}
use Rattle.replay_run.proofs.run.run_rounds.Goals as goal

pub rounds-smaller : goal.rounds-smaller
rounds-smaller g c =
    let start : Seen = record { input = g.I.Stream.seen c.args.input.now; output = g.O.Stream.seen c.args.output.now } in
    let longer = (c.in_default.ensures.round (settings_of c.args.settings) start c.rounds.invariant.under).1 in
    omega (arith, longer.more, longer.within)
