use Rattle.std.proofs.Common.{take, refl}
use Rattle.log_core.proofs.PieceLemmas.{round-answer, round-finishes, round-read_fault}
use Rattle.replay_run.proofs.RoundLemmas.{take_some}
use Rattle.replay_run.specs.Claims.{Seen}
use Rattle.log_core.proofs.rounds.run_round.Goals as goal

pub returns-in-Ok-Bytes-clause-round : goal.returns-in-Ok-Bytes-clause-round
returns-in-Ok-Bytes-clause-round g c settings start under =
    let reads = rw c.in-Ok-Bytes.field-0-is at c.in-Ok-Bytes.ensures.reads in
    let mid : Seen = record { input = g.I.Stream.seen c.args.input.now; output = g.O.Stream.seen c.args.output.now } in
    let new : Seen = record { input = g.I.Stream.seen c.read.new.self; output = g.O.Stream.seen c.run_piece.new.output } in
    round-answer settings start mid new c.args.log.now under (take c.in-Ok-Bytes.n c.read.new.room) reads.taken reads.left c.in-Ok-Bytes.ensures.cause.kept
    c.run_piece.result c.run_piece.new.self c.run_piece.ensures.logs c.run_piece.ensures.ready c.run_piece.ensures.size
    (take_some c.in-Ok-Bytes.n c.read.new.room reads.some reads.within)

pub returns-in-Ok-End-clause-round : goal.returns-in-Ok-End-clause-round
returns-in-Ok-End-clause-round g c settings start under =
    let reads = rw c.in-Ok-End.field-0-is at c.in-Ok-End.ensures.reads in
    let mid : Seen = record { input = g.I.Stream.seen c.args.input.now; output = g.O.Stream.seen c.args.output.now } in
    let new : Seen = record { input = g.I.Stream.seen c.read.new.self; output = g.O.Stream.seen c.finish.new.output } in
    round-finishes settings start mid new c.args.log.now under reads.taken reads.left reads.end c.in-Ok-End.ensures.cause.kept c.finish.result
    (c.finish.ensures.says settings under.bytes start.output under.logging)

pub returns-in-Err-clause-round : goal.returns-in-Err-clause-round
returns-in-Err-clause-round g c settings start under =
    let mid : Seen = record { input = g.I.Stream.seen c.args.input.now; output = g.O.Stream.seen c.args.output.now } in
    let new : Seen = record { input = g.I.Stream.seen c.read.new.self; output = g.O.Stream.seen c.args.output.now } in
    round-read_fault settings start mid new c.args.log.now under c.in-Err.ensures.reads.taken c.in-Err.ensures.reads.left refl c.in-Err.ensures.cause.fault
