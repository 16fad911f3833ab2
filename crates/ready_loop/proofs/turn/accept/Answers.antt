use Rattle.std.proofs.Common.{refl, Ok, Err, ap, subst, sym, ◌≡◌, ◌∙◌, false, Some}
use Rattle.world_ports.specs.declared.answers.Accepted.TheVariants as accepted
use Rattle.world_ports.specs.declared.answers.WorldFault.TheVariants.{Failed, Memory}
use Rattle.world_ports.specs.declared.entry.Entry.TheVariants as entry
use Rattle.agent_model.specs.Events.{Joined}
use Rattle.loop_model.specs.Dues.{Free, NowFor, port_of}
use Rattle.loop_model.specs.declared.thing.Thing.TheVariants.{Accept}
use Rattle.loop_model.specs.LegalJournal.{after_entry, in_state}
use Rattle.loop_model.specs.Lines.{Line, hot_of, in_hand}
use Rattle.ready_loop.proofs.HandLemmas.{cold-in_hand}
use Rattle.ready_loop.proofs.HandingLemmas.{adds-joined, cold-joined, front-next, joined_line, ordered-joined}
use Rattle.ready_loop.proofs.IdleLemmas.{first_is_found}
use Rattle.ready_loop.proofs.KeepingLemmas.{ordered_is}
use Rattle.ready_loop.proofs.RoundingLemmas.{round-event, rounds-none}
use Rattle.ready_loop.proofs.CallLemmas as calls
use Rattle.ready_loop.proofs.TurningLemmas.{one_call, serves_then, stops_there, told_at}
use Rattle.ready_loop.proofs.turn.accept.Goals as goal

pub accept-requires : goal.accept-requires
accept-requires g c =
    rw c.requires.ready.ports (calls.joined-fits (g.A.Core.state c.args.agent.now) c.args.queue.now c.args.door c.requires.next)

pub happen-requires-clause-fits : goal.happen-requires-clause-fits
happen-requires-clause-fits g c =
    calls.joined-fits (g.A.Core.state c.args.agent.now) c.args.queue.now c.args.door c.requires.next

pub take-requires : goal.take-requires
take-requires g c =
    front-next (g.A.Core.state c.args.agent.now) c.args.queue.now (Accept c.args.door) c.requires.ready.fit.ordered c.requires.next

pub returns-in_default-clause-legal : goal.returns-in_default-clause-legal
returns-in_default-clause-legal g c =
    let state = g.A.Core.state c.args.agent.now in
    let line = c.args.queue.now in
    let answer = Ok (accepted.Port c.in-Ok-Port.number) in
    let next = entry.Accept c.args.door answer in
    record {
      by = stops_there (one_call (in_state state line Free) (after_entry (in_state state line Free) next)
          (g.W.World.journal c.args.world.now) (g.W.World.journal c.accept.new.self) next refl tt
          (calls.accept-any state line c.args.door answer c.requires.jobs c.requires.next)
          (told_at (λ r. entry.Accept c.args.door r) (g.W.World.journal c.args.world.now) (g.W.World.journal c.accept.new.self)
          (c.in-Ok-Port.is ∙ ap Ok c.in-Ok-Port.field-0-is) c.accept.ensures.told));
    }

pub happen-requires-clause-ordered : goal.happen-requires-clause-ordered
happen-requires-clause-ordered g c =
    let state = g.A.Core.state c.args.agent.now in
    let line = c.args.queue.now in
    ordered_is state (joined_line state c.args.door c.in-Ok-Port.number (in_hand (Accept c.args.door) line))
    c.accept-in-Ok-Port.new.self (c.in-Ok.ensures ∙ ap (joined_line state c.args.door c.in-Ok-Port.number) c.take.ensures)
    (ordered-joined state c.args.door c.in-Ok-Port.number line c.requires.ready.fit.ordered c.requires.jobs c.requires.next)

pub happen-requires-clause-cold : goal.happen-requires-clause-cold
happen-requires-clause-cold g c =
    let state = g.A.Core.state c.args.agent.now in
    let line = c.args.queue.now in
    subst (λ (l : Line). hot_of l (Accept c.args.door) ≡ false)
    (sym (c.in-Ok.ensures ∙ ap (joined_line state c.args.door c.in-Ok-Port.number) c.take.ensures))
    (cold-joined state c.args.door c.in-Ok-Port.number (in_hand (Accept c.args.door) line)
    (cold-in_hand state line (Accept c.args.door) c.requires.ready.fit.ordered
    (first_is_found state line.queue (Accept c.args.door) c.requires.next).servable))

pub returns-in-Ok-clause-legal : goal.returns-in-Ok-clause-legal
returns-in-Ok-clause-legal g c =
    let state = g.A.Core.state c.args.agent.now in
    serves_then (entry.Accept c.args.door (Ok (accepted.Port c.in-Ok-Port.number))) refl tt
    (calls.accept-any (g.A.Core.state c.args.agent.now) c.args.queue.now c.args.door (Ok (accepted.Port c.in-Ok-Port.number)) c.requires.jobs c.requires.next
    ∙ ap (λ (l : Line). Some (in_state state l (NowFor (Joined c.args.door))))
    (sym (c.in-Ok.ensures ∙ ap (joined_line state c.args.door c.in-Ok-Port.number) c.take.ensures)))
    (told_at (λ r. entry.Accept c.args.door r) _ _
    (c.in-Ok-Port.is ∙ ap Ok c.in-Ok-Port.field-0-is) c.accept.ensures.told)
    c.happen.ensures.legal

pub returns-in-Ok-clause-round : goal.returns-in-Ok-clause-round
returns-in-Ok-clause-round g c =
    let state = g.A.Core.state c.args.agent.now in
    let line = c.args.queue.now in
    let left = g.A.Core.state c.happen.new.agent in
    let closes = g.A.Core.closes c.happen.new.agent in
    let own = port_of (Joined c.args.door) left.last_port in
    let mid = joined_line state c.args.door c.in-Ok-Port.number (in_hand (Accept c.args.door) line) in
    round-event c.happen.result state left closes own (Accept c.args.door) line mid c.accept-in-Ok-Port.new.self c.happen.new.queue
    c.happen.ensures.after (c.in-Ok.ensures ∙ ap (joined_line state c.args.door c.in-Ok-Port.number) c.take.ensures)
    c.requires.ready.fit.ordered.listed c.requires.ready.apart c.requires.next
    (adds-joined state c.args.door c.in-Ok-Port.number (in_hand (Accept c.args.door) line))

pub returns-in-Ok-NotNow-clause-legal : goal.returns-in-Ok-NotNow-clause-legal
returns-in-Ok-NotNow-clause-legal g c =
    calls.serves_dropped (Accept c.args.door) _ refl tt
    (calls.accept-any (g.A.Core.state c.args.agent.now) c.args.queue.now c.args.door (Ok accepted.NotNow) c.requires.jobs c.requires.next)
    c.take-in-Ok-NotNow.ensures
    (told_at (λ r. entry.Accept c.args.door r) _ _ (c.in-Ok-NotNow.is ∙ ap Ok c.in-Ok-NotNow.field-0-is) c.accept.ensures.told)

pub returns-in-Err-Failed-clause-legal : goal.returns-in-Err-Failed-clause-legal
returns-in-Err-Failed-clause-legal g c =
    calls.serves_dropped (Accept c.args.door) _ refl tt
    (calls.accept-any (g.A.Core.state c.args.agent.now) c.args.queue.now c.args.door (Err Failed) c.requires.jobs c.requires.next)
    c.take-in-Err-Failed.ensures
    (told_at (λ r. entry.Accept c.args.door r) _ _ (c.in-Err-Failed.is ∙ ap Err c.in-Err-Failed.field-0-is) c.accept.ensures.told)

pub returns-in-Ok-NotNow-clause-round : goal.returns-in-Ok-NotNow-clause-round
returns-in-Ok-NotNow-clause-round g c =
    rw c.take-in-Ok-NotNow.ensures
    (rounds-none (g.A.Core.state c.args.agent.now) (Accept c.args.door) c.args.queue.now c.requires.ready.fit.ordered.listed c.requires.ready.apart c.requires.next)

pub returns-in-Err-Failed-clause-round : goal.returns-in-Err-Failed-clause-round
returns-in-Err-Failed-clause-round g c =
    rw c.take-in-Err-Failed.ensures
    (rounds-none (g.A.Core.state c.args.agent.now) (Accept c.args.door) c.args.queue.now c.requires.ready.fit.ordered.listed c.requires.ready.apart c.requires.next)

pub take-requires-in-Ok-NotNow : goal.take-requires-in-Ok-NotNow
take-requires-in-Ok-NotNow g c =
    front-next (g.A.Core.state c.args.agent.now) c.args.queue.now (Accept c.args.door) c.requires.ready.fit.ordered c.requires.next

pub take-requires-in-Err-Failed : goal.take-requires-in-Err-Failed
take-requires-in-Err-Failed g c =
    front-next (g.A.Core.state c.args.agent.now) c.args.queue.now (Accept c.args.door) c.requires.ready.fit.ordered c.requires.next

pub returns-in-Err-Memory-clause-legal : goal.returns-in-Err-Memory-clause-legal
returns-in-Err-Memory-clause-legal g c =
    calls.serves_short _ refl tt
    (calls.accept-any (g.A.Core.state c.args.agent.now) c.args.queue.now c.args.door (Err Memory) c.requires.jobs c.requires.next)
    (told_at (λ r. entry.Accept c.args.door r) _ _ (c.in-Err-Memory.is ∙ ap Err c.in-Err-Memory.field-0-is) c.accept.ensures.told)
