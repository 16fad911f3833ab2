use Rattle.std.proofs.Common.{◌++◌, ◌∷◌, []}
use Rattle.replay_run.proofs.FeedsLemmas.{fed_then}
use Rattle.replay_run.proofs.feed.Feed.run_line.Goals as goal

pub returns-clause-feeds : goal.returns-clause-feeds
returns-clause-feeds g c =
    fed_then c.look_back.result c.args.self.now c.end_line.new.self c.look_back.new.self (c.args.line.now ++ 10 ∷ []) 65536
    (g.O.Stream.seen c.args.output.now) (g.O.Stream.seen c.look_back.new.output)
    c.requires.ready.counted.accepted c.in-Ok.ensures.goes c.in-Ok.ensures.size c.look_back.ensures.feeds
