use Rattle.std.proofs.Common.{Ok, Err, Result, [], refl, take, length, arith, rules, subst, ap, ◌∙◌}
use Rattle.std.proofs.lemmas.List.{length-take}
use Rattle.world_ports.specs.Journal.{got_of}
use Rattle.world_ports.specs.Worlds.{GotWithin, KeepsRest}
use Rattle.world_ports.specs.declared.answers.Got.{Got}
use Rattle.world_ports.specs.declared.answers.Got.TheVariants as got
use Rattle.world_ports.specs.declared.answers.WorldFault.{WorldFault}
use Rattle.world_ports.specs.declared.answers.WorldFault.TheVariants.{Failed, Memory}
use Rattle.world_ports.specs.declared.entry.Entry.TheVariants as entry
use Rattle.loop_model.specs.declared.thing.Thing.TheVariants.{Read}
use Rattle.ready_loop.proofs.CallLemmas as calls
use Rattle.ready_loop.proofs.TurningLemmas.{serves_then, told_at}
use Rattle.ready_loop.proofs.RoomLemmas.{no_bytes, wiped_again}
use Rattle.ready_loop.proofs.HandingLemmas.{front-next, read-at}
use Rattle.ready_loop.proofs.RoundingLemmas.{rounds-none}
use Rattle.ready_loop.proofs.turn.read.Goals as goal

pub hear-heard-requires-clause-fits : goal.hear-heard-requires-clause-fits
hear-heard-requires-clause-fits g c =
    let within = subst (λ r. GotWithin r (length c.args.room.now)) (c.in-Ok-Bytes.is ∙ ap Ok c.in-Ok-Bytes.field-0-is) c.read.ensures.within in (
      calls.read-open (g.A.Core.state c.args.agent.now) c.args.queue.now c.args.port c.requires.next,
      omega (arith, length-take c.in-Ok-Bytes.n c.read.new.room, within.0, within.1),
    )

pub end-requires-clause-fits : goal.end-requires-clause-fits
end-requires-clause-fits g c =
    calls.read-open (g.A.Core.state c.args.agent.now) c.args.queue.now c.args.port c.requires.next

pub end-requires-in-Err-Failed-clause-fits : goal.end-requires-in-Err-Failed-clause-fits
end-requires-in-Err-Failed-clause-fits g c =
    calls.read-open (g.A.Core.state c.args.agent.now) c.args.queue.now c.args.port c.requires.next

pub returns-in-Ok-Bytes-clause-legal : goal.returns-in-Ok-Bytes-clause-legal
returns-in-Ok-Bytes-clause-legal g c =
    let within = subst (λ r. GotWithin r (length c.args.room.now)) (c.in-Ok-Bytes.is ∙ ap Ok c.in-Ok-Bytes.field-0-is) c.read.ensures.within in
    let answer = Ok (got.Bytes c.in-Ok-Bytes.n) in
    let bytes = take c.in-Ok-Bytes.n c.read.new.room in
    serves_then (entry.Read c.args.port (length c.args.room.now) bytes answer) refl
    (omega arith, c.hear-heard.ensures.bytes)
    (calls.read-any (g.A.Core.state c.args.agent.now) c.args.queue.now c.args.port (length c.args.room.now) bytes answer c.requires.jobs c.requires.next c.requires.room
    (calls.read-within (length c.args.room.now) c.in-Ok-Bytes.n bytes (omega (arith, length-take c.in-Ok-Bytes.n c.read.new.room, within.1)) within))
    (told_at (λ r. entry.Read c.args.port (length c.args.room.now) (got_of r c.read.new.room) r) _ _
    (c.in-Ok-Bytes.is ∙ ap Ok c.in-Ok-Bytes.field-0-is) c.read.ensures.told)
    c.hear-heard.ensures.legal

pub returns-in-Ok-Bytes-clause-zero : goal.returns-in-Ok-Bytes-clause-zero
returns-in-Ok-Bytes-clause-zero g c =
    let rest = subst (λ r. KeepsRest r c.args.room.now c.read.new.room) (c.in-Ok-Bytes.is ∙ ap Ok c.in-Ok-Bytes.field-0-is) c.read.ensures.rest in
    wiped_again c.fill.new.self c.read.new.room c.args.room.now c.in-Ok-Bytes.n (length (take c.in-Ok-Bytes.n c.read.new.room))
    (c.fill.ensures.after (λ y is. search rules)) rest c.requires.zero

pub returns-in-Ok-End-clause-legal : goal.returns-in-Ok-End-clause-legal
returns-in-Ok-End-clause-legal g c =
    let answer = Ok got.End in
    serves_then (entry.Read c.args.port (length c.args.room.now) [] answer) refl (omega arith, no_bytes)
    (calls.read-any (g.A.Core.state c.args.agent.now) c.args.queue.now c.args.port (length c.args.room.now) [] answer c.requires.jobs c.requires.next c.requires.room refl)
    (told_at (λ r. entry.Read c.args.port (length c.args.room.now) (got_of r c.read.new.room) r) _ _
    (c.in-Ok-End.is ∙ ap Ok c.in-Ok-End.field-0-is) c.read.ensures.told)
    c.end.ensures.legal

pub returns-in-Ok-NotNow-clause-legal : goal.returns-in-Ok-NotNow-clause-legal
returns-in-Ok-NotNow-clause-legal g c =
    calls.serves_dropped (Read c.args.port) _ refl (omega arith, no_bytes)
    (calls.read-any (g.A.Core.state c.args.agent.now) c.args.queue.now c.args.port (length c.args.room.now) [] (Ok got.NotNow) c.requires.jobs c.requires.next c.requires.room refl)
    c.take.ensures
    (told_at (λ r. entry.Read c.args.port (length c.args.room.now) (got_of r c.read.new.room) r) _ _ (c.in-Ok-NotNow.is ∙ ap Ok c.in-Ok-NotNow.field-0-is) c.read.ensures.told)

pub returns-in-Ok-NotNow-clause-round : goal.returns-in-Ok-NotNow-clause-round
returns-in-Ok-NotNow-clause-round g c =
    rw c.take.ensures
    (rounds-none (g.A.Core.state c.args.agent.now) (Read c.args.port) c.args.queue.now c.requires.ready.fit.ordered.listed c.requires.ready.apart c.requires.next)

pub take-requires : goal.take-requires
take-requires g c =
    front-next (g.A.Core.state c.args.agent.now) c.args.queue.now (Read c.args.port) c.requires.ready.fit.ordered c.requires.next

pub end-requires-clause-at : goal.end-requires-clause-at
end-requires-clause-at g c = read-at c.args.port

pub end-requires-in-Err-Failed-clause-at : goal.end-requires-in-Err-Failed-clause-at
end-requires-in-Err-Failed-clause-at g c = read-at c.args.port

pub returns-in-Err-Failed-clause-legal : goal.returns-in-Err-Failed-clause-legal
returns-in-Err-Failed-clause-legal g c =
    let answer : Result Got WorldFault = Err Failed in
    serves_then (entry.Read c.args.port (length c.args.room.now) [] answer) refl (omega arith, no_bytes)
    (calls.read-any (g.A.Core.state c.args.agent.now) c.args.queue.now c.args.port (length c.args.room.now) [] answer c.requires.jobs c.requires.next c.requires.room refl)
    (told_at (λ r. entry.Read c.args.port (length c.args.room.now) (got_of r c.read.new.room) r) _ _
    (c.in-Err-Failed.is ∙ ap Err c.in-Err-Failed.field-0-is) c.read.ensures.told)
    c.end-in-Err-Failed.ensures.legal

pub returns-in-Err-Memory-clause-legal : goal.returns-in-Err-Memory-clause-legal
returns-in-Err-Memory-clause-legal g c =
    calls.serves_short _ refl (omega arith, no_bytes)
    (calls.read-any (g.A.Core.state c.args.agent.now) c.args.queue.now c.args.port (length c.args.room.now) [] (Err Memory) c.requires.jobs c.requires.next c.requires.room refl)
    (told_at (λ r. entry.Read c.args.port (length c.args.room.now) (got_of r c.read.new.room) r) _ _ (c.in-Err-Memory.is ∙ ap Err c.in-Err-Memory.field-0-is) c.read.ensures.told)
