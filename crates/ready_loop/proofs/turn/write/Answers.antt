use Rattle.std.proofs.Common.{Ok, Err, Result, ap, arith, length, subst, ◌∙◌, refl}
use Rattle.world_ports.specs.Worlds.{TookWithin}
use Rattle.world_ports.specs.declared.answers.Wrote.{Wrote}
use Rattle.world_ports.specs.declared.answers.Wrote.TheVariants as wrote
use Rattle.world_ports.specs.declared.answers.WorldFault.{WorldFault}
use Rattle.world_ports.specs.declared.answers.WorldFault.TheVariants.{Failed, Memory}
use Rattle.world_ports.specs.declared.entry.Entry.TheVariants as entry
use Rattle.loop_model.specs.declared.thing.Thing.TheVariants.{Write}
use Rattle.ready_loop.proofs.CallLemmas as calls
use Rattle.ready_loop.proofs.TurningLemmas.{serves_then, told_at}
use Rattle.ready_loop.proofs.HandingLemmas.{front-next, write-at}
use Rattle.ready_loop.proofs.RoundingLemmas.{rounds-none}
use Rattle.ready_loop.proofs.turn.write.Goals as goal

pub write-requires : goal.write-requires
write-requires g c = rw c.owed.ensures (calls.write-some (g.A.Core.state c.args.agent.now) c.args.queue.now c.args.port c.requires.next)

pub end-requires-clause-fits : goal.end-requires-clause-fits
end-requires-clause-fits g c =
    calls.write-open (g.A.Core.state c.args.agent.now) c.args.queue.now c.args.port c.requires.next

pub returns-in-Ok-Took-clause-legal : goal.returns-in-Ok-Took-clause-legal
returns-in-Ok-Took-clause-legal g c =
    let within = subst (λ r. TookWithin r (length c.owed.result.now)) (c.in-Ok-Took.is ∙ ap Ok c.in-Ok-Took.field-0-is) c.write.ensures.within in
    let answer = Ok (wrote.Took c.in-Ok-Took.n) in
    serves_then (entry.Write c.args.port c.owed.result.now answer) refl (omega arith, omega arith)
    (calls.write-any (g.A.Core.state c.args.agent.now) c.args.queue.now c.args.port c.owed.result.now answer c.requires.jobs c.requires.next c.owed.ensures
    (calls.taken-within (length c.owed.result.now) c.in-Ok-Took.n within))
    (told_at (λ r. entry.Write c.args.port c.owed.result.now r) _ _
    (c.in-Ok-Took.is ∙ ap Ok c.in-Ok-Took.field-0-is) c.write.ensures.told)
    c.send.ensures.legal

pub returns-in-Ok-NotNow-clause-legal : goal.returns-in-Ok-NotNow-clause-legal
returns-in-Ok-NotNow-clause-legal g c =
    calls.serves_dropped (Write c.args.port) _ refl (omega arith, omega arith)
    (calls.write-any (g.A.Core.state c.args.agent.now) c.args.queue.now c.args.port c.owed.result.now (Ok wrote.NotNow) c.requires.jobs c.requires.next c.owed.ensures refl)
    c.take.ensures
    (told_at (λ r. entry.Write c.args.port c.owed.result.now r) _ _ (c.in-Ok-NotNow.is ∙ ap Ok c.in-Ok-NotNow.field-0-is) c.write.ensures.told)

pub returns-in-Ok-NotNow-clause-round : goal.returns-in-Ok-NotNow-clause-round
returns-in-Ok-NotNow-clause-round g c =
    rw c.take.ensures
    (rounds-none (g.A.Core.state c.args.agent.now) (Write c.args.port) c.args.queue.now c.requires.ready.fit.ordered.listed c.requires.ready.apart c.requires.next)

pub take-requires : goal.take-requires
take-requires g c =
    front-next (g.A.Core.state c.args.agent.now) c.args.queue.now (Write c.args.port) c.requires.ready.fit.ordered c.requires.next

pub end-requires-clause-at : goal.end-requires-clause-at
end-requires-clause-at g c = write-at c.args.port

pub returns-in-Err-Failed-clause-legal : goal.returns-in-Err-Failed-clause-legal
returns-in-Err-Failed-clause-legal g c =
    let answer : Result Wrote WorldFault = Err Failed in
    serves_then (entry.Write c.args.port c.owed.result.now answer) refl (omega arith, omega arith)
    (calls.write-any (g.A.Core.state c.args.agent.now) c.args.queue.now c.args.port c.owed.result.now answer c.requires.jobs c.requires.next c.owed.ensures refl)
    (told_at (λ r. entry.Write c.args.port c.owed.result.now r) _ _
    (c.in-Err-Failed.is ∙ ap Err c.in-Err-Failed.field-0-is) c.write.ensures.told)
    c.end.ensures.legal

pub returns-in-Err-Memory-clause-legal : goal.returns-in-Err-Memory-clause-legal
returns-in-Err-Memory-clause-legal g c =
    calls.serves_short _ refl (omega arith, omega arith)
    (calls.write-any (g.A.Core.state c.args.agent.now) c.args.queue.now c.args.port c.owed.result.now (Err Memory) c.requires.jobs c.requires.next c.owed.ensures refl)
    (told_at (λ r. entry.Write c.args.port c.owed.result.now r) _ _ (c.in-Err-Memory.is ∙ ap Err c.in-Err-Memory.field-0-is) c.write.ensures.told)
