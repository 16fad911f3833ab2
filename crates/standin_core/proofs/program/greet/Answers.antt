use Rattle.std.proofs.Common.{◌∙◌, ◌++◌, ap}
use Rattle.child_msg.specs.ChildFrames.{from_child_body}
use Rattle.child_msg.specs.Messages.{Hello}
use Rattle.secret_buf.specs.Buffers.{Buffer}
use Rattle.wire_text.specs.Wire.{string}
use Rattle.standin_core.proofs.ProgramLemmas.{ends_half_greeted, ends_ungreeted, under_way-greeted}
use Rattle.standin_core.proofs.program.greet.Goals as goal

pub returns-in_default : goal.returns-in_default
returns-in_default g c =
    λ hosts whole greets. ends_ungreeted whole (g.P.Stream.seen c.args.peer.now)

pub returns-in-Ok-flush : goal.returns-in-Ok-flush
returns-in-Ok-flush g c = λ hosts whole greets.
    let frame = string (from_child_body (Hello c.args.words.now.job c.args.words.now.ticket)) in
    under_way-greeted hosts whole (g.P.Stream.seen c.args.peer.now) (g.P.Stream.seen c.flush.new.peer) frame c.write_from_child.new.out.live greets
    (c.in-Ok.ensures.ok ∙ ap (λ (b : Buffer). b.live ++ frame) c.new-out.ensures)
    c.in-Ok-flush.ensures.ok c.in-Ok-flush.ensures.cause.kept c.in-Ok-flush.ensures.only

pub returns : goal.returns
returns g c = λ hosts whole greets.
    let frame = string (from_child_body (Hello c.args.words.now.job c.args.words.now.ticket)) in
    ends_half_greeted hosts whole (g.P.Stream.seen c.args.peer.now) (g.P.Stream.seen c.flush.new.peer) frame c.write_from_child.new.out.live greets
    (c.in-Ok.ensures.ok ∙ ap (λ (b : Buffer). b.live ++ frame) c.new-out.ensures)
    c.in-Err.ensures.err c.in-Err.ensures.cause.fault c.in-Err.ensures.only
