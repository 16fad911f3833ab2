use Rattle.std.proofs.Common.{refl, None, Ok, Err, Result, List, ℕ, ap, ◌∙◌, arith}
use Rattle.world_ports.specs.declared.answers.WorldFault.{WorldFault}
use Rattle.world_ports.specs.declared.answers.WorldFault.TheVariants.{Failed, Memory}
use Rattle.world_ports.specs.declared.entry.Entry.TheVariants as entry
use Rattle.loop_model.specs.Lines.{after_event}
use Rattle.ready_loop.proofs.CallLemmas as calls
use Rattle.ready_loop.proofs.RoundingLemmas.{keeps-event, keeps-is}
use Rattle.ready_loop.proofs.TurningLemmas.{serves_then, told_at}
use Rattle.ready_loop.proofs.turn.start.Goals as goal

pub returns-in-Ok-clause-legal : goal.returns-in-Ok-clause-legal
returns-in-Ok-clause-legal g c =
    let answer : Result (List ℕ) WorldFault = Ok c.in-Ok.ticket in
    serves_then (entry.Start c.args.job answer) refl
    (omega arith, c.is_ticket.ensures)
    (calls.start-any (g.A.Core.state c.args.agent.now) c.args.queue.now c.args.job answer c.requires.first)
    c.in-Ok.ensures.told c.happen.ensures.legal

pub returns-in-Err-Failed-clause-legal : goal.returns-in-Err-Failed-clause-legal
returns-in-Err-Failed-clause-legal g c =
    let answer : Result (List ℕ) WorldFault = Err Failed in
    serves_then (entry.Start c.args.job answer) refl (omega arith, tt)
    (calls.start-any (g.A.Core.state c.args.agent.now) c.args.queue.now c.args.job answer c.requires.first)
    (told_at (λ r. entry.Start c.args.job r) _ _
    (c.in-Err-Failed.is ∙ ap Err c.in-Err-Failed.field-0-is) c.start.ensures.told)
    c.happen-in-Err-Failed.ensures.legal

pub returns-in-Err-Memory-clause-legal : goal.returns-in-Err-Memory-clause-legal
returns-in-Err-Memory-clause-legal g c =
    calls.serves_short _ refl (omega arith, tt)
    (calls.start-any (g.A.Core.state c.args.agent.now) c.args.queue.now c.args.job (Err Memory) c.requires.first)
    (told_at (λ r. entry.Start c.args.job r) _ _ (c.in-Err-Memory.is ∙ ap Err c.in-Err-Memory.field-0-is) c.start.ensures.told)

pub returns-in-Ok-clause-round : goal.returns-in-Ok-clause-round
returns-in-Ok-clause-round g c =
    let left = g.A.Core.state c.happen.new.agent in
    let closes = g.A.Core.closes c.happen.new.agent in
    keeps-is c.happen.result c.args.queue.now.queue (after_event left closes None None c.args.queue.now) c.happen.new.queue
    c.happen.ensures.after (keeps-event left closes None c.args.queue.now)

pub returns-in-Err-Failed-clause-round : goal.returns-in-Err-Failed-clause-round
returns-in-Err-Failed-clause-round g c =
    let left = g.A.Core.state c.happen-in-Err-Failed.new.agent in
    let closes = g.A.Core.closes c.happen-in-Err-Failed.new.agent in
    keeps-is c.happen-in-Err-Failed.result c.args.queue.now.queue (after_event left closes None None c.args.queue.now) c.happen-in-Err-Failed.new.queue
    c.happen-in-Err-Failed.ensures.after (keeps-event left closes None c.args.queue.now)
