use Rattle.std.proofs.Common.{◌+◌, ◌<◌, ◌≤◌, ap, arith, inr}
use Rattle.schedule_text.proofs.Theorems.{step_says_some}
use Rattle.replay_run.specs.Replay.{Run, longest_schedule}
use Rattle.replay_run.proofs.RunLemmas.{turned-too_long, turned-step}
use Rattle.replay_run.proofs.TurnLemmas.{fault_run, fault_notes}
use Rattle.replay_run.proofs.replay.Replay.turn.Goals as goal

pub returns-then-self-size-gt-LONGEST_SCHEDULE-clause-run :
    goal.returns-then-self-size-gt-LONGEST_SCHEDULE-clause-run
returns-then-self-size-gt-LONGEST_SCHEDULE-clause-run g c =
    let read_is = ap (λ (r : Run). r.read) c.self.view_is in
    let late : longest_schedule < c.args.self.now.read + c.args.size = omega arith in
    rw (turned-too_long c.args.line.now c.args.size c.args.self.now c.requires.counted.accepted (inr late)) c.refuse.ensures.run

pub returns-then-self-size-gt-LONGEST_SCHEDULE-clause-notes :
    goal.returns-then-self-size-gt-LONGEST_SCHEDULE-clause-notes
returns-then-self-size-gt-LONGEST_SCHEDULE-clause-notes g c =
    let read_is = ap (λ (r : Run). r.read) c.self.view_is in
    let late : longest_schedule < c.args.self.now.read + c.args.size = omega arith in
    rw (turned-too_long c.args.line.now c.args.size c.args.self.now c.requires.counted.accepted (inr late)) c.refuse.ensures.notes

pub take_step-requires-clause-says : goal.take_step-requires-clause-says
take_step-requires-clause-says g c =
    step_says_some c.args.line.now c.in-Ok.step c.in-Ok.ensures.found

pub returns-in-Ok-clause-run : goal.returns-in-Ok-clause-run
returns-in-Ok-clause-run g c =
    let read_is = ap (λ (r : Run). r.read) c.self.view_is in
    let within : c.args.self.now.read + c.args.size ≤ longest_schedule = omega arith in
    rw (turned-step c.args.line.now c.args.size c.args.self.now c.in-Ok.step c.requires.counted.accepted within c.in-Ok.ensures.found) c.take_step.ensures.run

pub returns-in-Ok-clause-notes : goal.returns-in-Ok-clause-notes
returns-in-Ok-clause-notes g c =
    let read_is = ap (λ (r : Run). r.read) c.self.view_is in
    let within : c.args.self.now.read + c.args.size ≤ longest_schedule = omega arith in
    rw (turned-step c.args.line.now c.args.size c.args.self.now c.in-Ok.step c.requires.counted.accepted within c.in-Ok.ensures.found) c.take_step.ensures.notes

pub returns-in-Err-clause-run : goal.returns-in-Err-clause-run
returns-in-Err-clause-run g c =
    let read_is = ap (λ (r : Run). r.read) c.self.view_is in
    let within : c.args.self.now.read + c.args.size ≤ longest_schedule = omega arith in
    fault_run c.args.line.now c.args.size c.args.self.now c.in-Err.fault c.refuse_for.result c.refuse_for.new.self
    c.requires.counted.accepted within c.in-Err.ensures.exact c.refuse_for.ensures.fault c.refuse_for.ensures.run

pub returns-in-Err-clause-notes : goal.returns-in-Err-clause-notes
returns-in-Err-clause-notes g c =
    let read_is = ap (λ (r : Run). r.read) c.self.view_is in
    let within : c.args.self.now.read + c.args.size ≤ longest_schedule = omega arith in
    fault_notes g.W.Watch.notes_of c.args.line.now c.args.size c.args.self.now c.in-Err.fault c.refuse_for.result (g.W.Watch.notes c.args.watch.now) (g.W.Watch.notes c.refuse_for.new.watch)
    c.requires.counted.accepted within c.in-Err.ensures.exact c.refuse_for.ensures.fault c.refuse_for.ensures.notes
