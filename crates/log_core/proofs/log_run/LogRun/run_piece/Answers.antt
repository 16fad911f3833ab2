use Rattle.std.proofs.Common.{◌+◌, ◌-◌, length, take, drop, arith, refl}
use Rattle.world_ports.proofs.StreamLemmas.{OnlyWrites-trans}
use Rattle.replay_run.proofs.FeedsLemmas.{line_cut}
use Rattle.log_core.proofs.PieceLemmas.{piece-ends, piece-goes, piece-halts, piece-size, piece-starts}
use Rattle.log_core.proofs.log_run.LogRun.run_piece.Goals as goal

pub returns-in-Some-run_line-clause-logs : goal.returns-in-Some-run_line-clause-logs
returns-in-Some-run_line-clause-logs g c =
    let rest = c.lines.rest.now in
    let place = c.in-Some.place in
    piece-halts c.args.self.now c.lines.self c.args.piece.now rest (g.O.Stream.seen c.args.output.now) (g.O.Stream.seen c.lines.output) c.lines.invariant.so_far
    (take place rest) (take (length rest - (place + 1)) (drop (place + 1) rest)) (line_cut rest place c.in-Some.ensures) (g.O.Stream.seen c.run_line.new.output)
    c.in-Some-run_line.ended c.in-Some-run_line.ensures.logs

pub lines-preserved : goal.lines-preserved
lines-preserved g c =
    let so_far = c.lines.invariant in
    let rest = c.lines.rest.now in
    let place = c.in-Some.place in
    record {
      so_far = piece-goes c.args.self.now c.lines.self c.args.piece.now rest (g.O.Stream.seen c.args.output.now) (g.O.Stream.seen c.lines.output) so_far.so_far
          (take place rest) (take (length rest - (place + 1)) (drop (place + 1) rest)) (line_cut rest place c.in-Some.ensures) (g.O.Stream.seen c.run_line.new.output)
          c.run_line.new.self c.in_default-run_line.ensures.logs (c.in_default-run_line.ensures.size refl);
      ready = c.in_default-run_line.ensures.ready refl;
      only = OnlyWrites-trans _ _ _ so_far.only c.run_line.ensures.only;
    }

pub returns-clause-logs : goal.returns-clause-logs
returns-clause-logs g c =
    piece-ends c.args.self.now c.lines.self c.args.piece.now c.lines.rest.now (g.O.Stream.seen c.args.output.now) (g.O.Stream.seen c.lines.output) c.lines.invariant.so_far
    c.run_front.result c.run_front.new.self (g.O.Stream.seen c.run_front.new.output) c.run_front.ensures.logs

pub returns-clause-size : goal.returns-clause-size
returns-clause-size g c is =
    piece-size c.args.self.now c.lines.self c.args.piece.now c.lines.rest.now (g.O.Stream.seen c.args.output.now) (g.O.Stream.seen c.lines.output) c.lines.invariant.so_far
    c.run_front.new.self (c.run_front.ensures.size is)

pub lines-init : goal.lines-init
lines-init g c = record {
  so_far = piece-starts c.args.self.now c.args.piece.now (g.O.Stream.seen c.args.output.now);
  ready = c.requires.ready;
  only = record { taken = refl; left = refl; read_faults = refl; later = omega arith };
}
