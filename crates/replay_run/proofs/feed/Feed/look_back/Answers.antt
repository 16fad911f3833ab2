use Rattle.std.proofs.Common.{ap, ◌∙◌, []}
use Rattle.replay_run.specs.Feeding.{Feeding}
use Rattle.replay_run.proofs.FeedsLemmas.{refusal_written, front_written}
use Rattle.replay_run.proofs.feed.Feed.look_back.Goals as goal

pub returns-in-Ok-clause-feeds : goal.returns-in-Ok-clause-feeds
returns-in-Ok-clause-feeds g c =
    rw (c.line-line.ensures ∙ ap (λ (f : Feeding). f.run.line) c.self.view_is, ap (λ (f : Feeding). f.run) c.in-Ok.ensures.new)
    (refusal_written c.args.self.now c.in-Some.fault (g.O.Stream.seen c.args.output.now) (g.O.Stream.seen c.write_out.new.output)
    (c.in-Some.ensures ∙ ap (λ (f : Feeding). f.run.refused) c.self.view_is) c.in-Ok.ensures.ok)

pub returns-in-Err-clause-feeds : goal.returns-in-Err-clause-feeds
returns-in-Err-clause-feeds g c = record {
  front = front_written c.args.self.now [] (g.O.Stream.seen c.args.output.now) (g.O.Stream.seen c.write_out.new.output) c.in-Err.ensures.err;
  cause = c.in-Err.ensures.cause.fault;
}

pub returns-in-Err-write_out-clause-feeds : goal.returns-in-Err-write_out-clause-feeds
returns-in-Err-write_out-clause-feeds g c = record {
  front = front_written c.args.self.now [] (g.O.Stream.seen c.args.output.now) (g.O.Stream.seen c.write_out-2.new.output) c.in-Err-write_out.ensures.err;
  cause = c.in-Err-write_out.ensures.cause.fault;
}
