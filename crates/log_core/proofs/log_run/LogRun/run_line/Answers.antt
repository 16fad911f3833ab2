use Rattle.std.proofs.Common.{◌∷◌, [], ◌++◌, ap}
use Rattle.log_core.specs.Logging.{Logging}
use Rattle.log_core.proofs.EndLemmas.{halts-later, halts-memory, halts-telling, line-answer}
use Rattle.log_core.proofs.LoggingLemmas.{log-line, log-told}
use Rattle.log_core.proofs.PieceLemmas.{answer-ready, answer-size}
use Rattle.audit_core.specs.declared.writing.Stop.TheVariants as stops
use Rattle.log_core.specs.declared.status.LogStatus.TheVariants as status
use Rattle.log_core.proofs.log_run.LogRun.run_line.Goals as goal

pub returns-in_default-clause-logs : goal.returns-in_default-clause-logs
returns-in_default-clause-logs g c settings bytes start is =
    halts-later status.Memory settings bytes (c.args.line.now ++ 10 ∷ []) start (g.O.Stream.seen c.args.output.now)
    (halts-memory settings bytes start (g.O.Stream.seen c.args.output.now) c.args.self.now is)

pub returns-in-Ok-tell-clause-logs : goal.returns-in-Ok-tell-clause-logs
returns-in-Ok-tell-clause-logs g c settings bytes start is =
    let before = g.O.Stream.seen c.args.output.now in
    let mid = g.O.Stream.seen c.tell.new.output in
    let run = log-line settings bytes start before c.args.self.now c.end_line.new.self is c.args.line.now c.requires.ready.begun.part c.requires.part c.requires.ready.told c.in-Ok.ensures in
    let told = log-told settings (bytes ++ (c.args.line.now ++ 10 ∷ [])) start before c.end_line.new.self c.tell.new.self run mid c.in-Ok-tell.ensures.told c.in-Ok-tell.ensures.writes in
    line-answer settings (bytes ++ (c.args.line.now ++ 10 ∷ [])) start mid c.tell.new.self told (g.O.Stream.seen c.look_back.new.output)
    (ap (λ (l : Logging). l.sights) c.in-Ok-tell.ensures.told) c.look_back.result c.look_back.ensures.ends

pub returns-in-Ok-tell-clause-ready : goal.returns-in-Ok-tell-clause-ready
returns-in-Ok-tell-clause-ready g c =
    answer-ready _ _ c.look_back.result c.args.self.now c.end_line.new.self c.tell.new.self c.args.line.now c.requires.ready c.in-Ok.ensures c.in-Ok-tell.ensures.told c.look_back.ensures.ends

pub returns-in-Ok-tell-clause-size : goal.returns-in-Ok-tell-clause-size
returns-in-Ok-tell-clause-size g c =
    answer-size _ _ c.look_back.result c.args.self.now c.end_line.new.self c.tell.new.self c.args.line.now c.requires.ready c.in-Ok.ensures c.in-Ok-tell.ensures.told c.look_back.ensures.ends

pub returns-in-Err-Memory-clause-logs : goal.returns-in-Err-Memory-clause-logs
returns-in-Err-Memory-clause-logs g c settings bytes start is =
    let before = g.O.Stream.seen c.args.output.now in
    let run = log-line settings bytes start before c.args.self.now c.end_line.new.self is c.args.line.now c.requires.ready.begun.part c.requires.part c.requires.ready.told c.in-Ok.ensures in
    halts-telling settings (bytes ++ (c.args.line.now ++ 10 ∷ [])) start before c.end_line.new.self run (g.O.Stream.seen c.tell.new.output) stops.Memory (rw c.in-Err-Memory.field-0-is at c.in-Err-Memory.ensures.writes)

pub returns-in-Err-Write-clause-logs : goal.returns-in-Err-Write-clause-logs
returns-in-Err-Write-clause-logs g c settings bytes start is =
    let before = g.O.Stream.seen c.args.output.now in
    let run = log-line settings bytes start before c.args.self.now c.end_line.new.self is c.args.line.now c.requires.ready.begun.part c.requires.part c.requires.ready.told c.in-Ok.ensures in
    halts-telling settings (bytes ++ (c.args.line.now ++ 10 ∷ [])) start before c.end_line.new.self run (g.O.Stream.seen c.tell.new.output) stops.Write (rw c.in-Err-Write.field-0-is at c.in-Err-Write.ensures.writes)
