use Rattle.std.proofs.Common.{take, refl}
use Rattle.replay_run.specs.Claims.{Seen}
use Rattle.replay_run.proofs.RoundLemmas.{round_answer, round_finishes, round_at_read_fault, take_some}
use Rattle.replay_run.proofs.run.run_round.Goals as goal

pub returns-in-Ok-Bytes-clause-round : goal.returns-in-Ok-Bytes-clause-round
returns-in-Ok-Bytes-clause-round g c settings start under =
    let reads = rw c.in-Ok-Bytes.field-0-is at c.in-Ok-Bytes.ensures.reads in
    let mid : Seen = record { input = g.I.Stream.seen c.args.input.now; output = g.O.Stream.seen c.args.output.now } in
    let new : Seen = record { input = g.I.Stream.seen c.read.new.self; output = g.O.Stream.seen c.run_piece.new.output } in
    round_answer settings c.run_piece.result start mid new c.args.feed.now c.run_piece.new.self (take c.in-Ok-Bytes.n c.read.new.room)
    under c.run_piece.ensures.feeds reads.taken reads.left
    c.in-Ok-Bytes.ensures.cause.kept
    (take_some c.in-Ok-Bytes.n c.read.new.room reads.some reads.within)

pub returns-in-Ok-End-clause-round : goal.returns-in-Ok-End-clause-round
returns-in-Ok-End-clause-round g c settings start under =
    let reads = rw c.in-Ok-End.field-0-is at c.in-Ok-End.ensures.reads in
    let mid : Seen = record { input = g.I.Stream.seen c.args.input.now; output = g.O.Stream.seen c.args.output.now } in
    let new : Seen = record { input = g.I.Stream.seen c.read.new.self; output = g.O.Stream.seen c.finish.new.output } in
    round_finishes settings c.finish.result start mid new c.args.feed.now c.finish.new.self.run under c.finish.ensures.ends reads.taken reads.left reads.end c.in-Ok-End.ensures.cause.kept

pub returns-in-Err-clause-round : goal.returns-in-Err-clause-round
returns-in-Err-clause-round g c settings start under =
    let mid : Seen = record { input = g.I.Stream.seen c.args.input.now; output = g.O.Stream.seen c.args.output.now } in
    let new : Seen = record { input = g.I.Stream.seen c.read.new.self; output = g.O.Stream.seen c.args.output.now } in
    round_at_read_fault settings start mid new c.args.feed.now c.args.feed.now.run under c.in-Err.ensures.reads.taken c.in-Err.ensures.reads.left refl c.in-Err.ensures.cause.fault
