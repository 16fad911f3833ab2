use Rattle.std.proofs.Common.{arith, refl, subst, sym}
use Rattle.agent_core.specs.Parts.{settings_of}
use Rattle.log_core.proofs.PieceLemmas.{round-start, start-ready}
use Rattle.log_core.specs.Logging.{IsUnderWay, Logging}
use Rattle.replay_run.specs.Claims.{Seen}
use Rattle.log_core.proofs.rounds.run_rounds.Goals as goal

pub rounds-init : goal.rounds-init
rounds-init g c =
    let start : Seen = record { input = g.I.Stream.seen c.args.input.now; output = g.O.Stream.seen c.args.output.now } in
    record {
      under = subst (λ (l : Logging). IsUnderWay (settings_of c.args.settings) start start l) (sym c.new-log.ensures) (round-start (settings_of c.args.settings) start (start-ready (settings_of c.args.settings)));
      input_only = record { written = refl; write_faults = refl; later = omega arith };
      output_only = record { taken = refl; left = refl; read_faults = refl; later = omega arith };
    }

pub rounds-smaller : goal.rounds-smaller
rounds-smaller g c =
    let start : Seen = record { input = g.I.Stream.seen c.args.input.now; output = g.O.Stream.seen c.args.output.now } in
    let longer = (c.in_default.ensures.round (settings_of c.args.settings) start c.rounds.invariant.under).1 in
    omega (arith, longer.more, longer.within)
