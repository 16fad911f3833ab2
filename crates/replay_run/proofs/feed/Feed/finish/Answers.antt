use Rattle.std.proofs.Common.{ap}
use Rattle.replay_run.specs.Feeding.{Feeding}
use Rattle.replay_run.specs.Finishing.{ending_text}
use Rattle.replay_run.proofs.EndLemmas.{nothing_left, ends_text, finished, finishes_at_write_fault}
use Rattle.replay_run.proofs.feed.Feed.finish.Goals as goal

pub returns-in_default-clause-ends : goal.returns-in_default-clause-ends
returns-in_default-clause-ends g c =
    nothing_left (ending_text c.args.self.now) (g.O.Stream.seen c.args.output.now)

pub returns-in_default-put_end-clause-ends : goal.returns-in_default-put_end-clause-ends
returns-in_default-put_end-clause-ends g c =
    nothing_left (ending_text c.args.self.now) (g.O.Stream.seen c.args.output.now)

pub returns-in-Ok-write_out-clause-ends : goal.returns-in-Ok-write_out-clause-ends
returns-in-Ok-write_out-clause-ends g c =
    let texts = ends_text c.args.self.now c.run_pending.new.self c.put_end.new.self c.requires.ready c.in-Ok.ensures.run c.in-Ok.ensures.out c.in-Ok-put_end.ensures.run c.in-Ok-put_end.ensures.out in
    rw (c.verdict-end.ensures, ap (λ (f : Feeding). f.run) c.in-Ok-write_out.ensures.new) (finished c.args.self.now c.put_end.new.self (g.O.Stream.seen c.args.output.now) (g.O.Stream.seen c.write_out.new.output)
    texts.0 texts.1 c.in-Ok-write_out.ensures.ok)

pub returns-in-Err-clause-ends : goal.returns-in-Err-clause-ends
returns-in-Err-clause-ends g c =
    let texts = ends_text c.args.self.now c.run_pending.new.self c.put_end.new.self c.requires.ready c.in-Ok.ensures.run c.in-Ok.ensures.out c.in-Ok-put_end.ensures.run c.in-Ok-put_end.ensures.out in
    finishes_at_write_fault c.args.self.now c.put_end.new.self (g.O.Stream.seen c.args.output.now) (g.O.Stream.seen c.write_out.new.output)
    texts.1 c.in-Err.ensures.err c.in-Err.ensures.cause.fault
