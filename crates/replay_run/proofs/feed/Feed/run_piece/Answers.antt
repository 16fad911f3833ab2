use Rattle.std.proofs.Common.{◌+◌, ◌-◌, length, take, drop, arith, [], refl}
use Rattle.world_ports.proofs.StreamLemmas.{OnlyWrites-trans}
use Rattle.replay_run.proofs.FeedsLemmas.{piece_halts, piece_fed, last_fed, line_cut, feeds_same}
use Rattle.replay_run.proofs.feed.Feed.run_piece.Goals as goal

pub returns-in-Some-run_line-clause-feeds : goal.returns-in-Some-run_line-clause-feeds
returns-in-Some-run_line-clause-feeds g c =
    let so_far = c.lines.invariant in
    let rest = c.lines.rest.now in
    let place = c.in-Some.place in
    piece_halts c.in-Some-run_line.end c.args.self.now c.lines.self so_far.fed.front (take place rest) (take (length rest - (place + 1)) (drop (place + 1) rest)) rest c.args.piece.now c.run_line.new.self.run
    (g.O.Stream.seen c.args.output.now) (g.O.Stream.seen c.lines.output) (g.O.Stream.seen c.run_line.new.output)
    so_far.fed.fed so_far.fed.is (line_cut rest place c.in-Some.ensures) c.in-Some-run_line.ensures.feeds

pub lines-preserved : goal.lines-preserved
lines-preserved g c =
    let so_far = c.lines.invariant in
    let rest = c.lines.rest.now in
    let place = c.in-Some.place in
    record {
      fed = piece_fed c.args.self.now c.lines.self c.run_line.new.self so_far.fed.front (take place rest) (take (length rest - (place + 1)) (drop (place + 1) rest)) rest c.args.piece.now
          (g.O.Stream.seen c.args.output.now) (g.O.Stream.seen c.lines.output) (g.O.Stream.seen c.run_line.new.output)
          so_far.fed.fed so_far.fed.is (line_cut rest place c.in-Some.ensures) c.in_default-run_line.ensures.feeds.0;
      only = OnlyWrites-trans _ _ _ so_far.only c.run_line.ensures.only;
    }

pub returns-clause-feeds : goal.returns-clause-feeds
returns-clause-feeds g c =
    let so_far = c.lines.invariant in
    last_fed c.run_front.result c.args.self.now c.lines.self c.run_front.new.self so_far.fed.front c.lines.rest.now c.args.piece.now 0
    (g.O.Stream.seen c.args.output.now) (g.O.Stream.seen c.lines.output) (g.O.Stream.seen c.run_front.new.output)
    so_far.fed.fed so_far.fed.is c.run_front.ensures.feeds

pub lines-init : goal.lines-init
lines-init g c = record {
  fed = record {
    front = [];
    is = refl;
    fed = record {
      accepted = c.requires.ready.counted.accepted;
      feeds = feeds_same c.args.self.now (g.O.Stream.seen c.args.output.now);
      ready = c.requires.ready;
      size = omega arith;
    };
  };
  only = record { taken = refl; left = refl; read_faults = refl; later = omega arith };
}
