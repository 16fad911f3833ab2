use Rattle.std.proofs.Common.{◌≡◌, false, subst, sym}
use Rattle.loop_model.specs.Dues.{port_of}
use Rattle.loop_model.specs.Lines.{Line, hot_of, in_hand}
use Rattle.loop_model.specs.declared.thing.Thing.TheVariants.{Write}
use Rattle.agent_model.specs.Events.{Took}
use Rattle.loop_model.proofs.AddingLemmas.{adds-none}
use Rattle.ready_loop.proofs.HandLemmas.{cold-in_hand}
use Rattle.ready_loop.proofs.HandingLemmas.{front-next, ordered-in_hand}
use Rattle.ready_loop.proofs.IdleLemmas.{first_is_found}
use Rattle.ready_loop.proofs.KeepingLemmas.{ordered_is}
use Rattle.ready_loop.proofs.RoundingLemmas.{round-event}
use Rattle.ready_loop.proofs.turn.send.Goals as goal

pub take-requires : goal.take-requires
take-requires g c =
    front-next (g.A.Core.state c.args.agent.now) c.args.queue.now (Write c.args.port) c.requires.ready.fit.ordered c.requires.next

pub happen-requires-clause-ordered : goal.happen-requires-clause-ordered
happen-requires-clause-ordered g c =
    ordered_is (g.A.Core.state c.args.agent.now) (in_hand (Write c.args.port) c.args.queue.now) c.take.new.self c.take.ensures
    (ordered-in_hand (g.A.Core.state c.args.agent.now) c.args.queue.now (Write c.args.port) c.requires.ready.fit.ordered)

pub happen-requires-clause-cold : goal.happen-requires-clause-cold
happen-requires-clause-cold g c =
    subst (λ (l : Line). hot_of l (Write c.args.port) ≡ false) (sym c.take.ensures)
    (cold-in_hand (g.A.Core.state c.args.agent.now) c.args.queue.now (Write c.args.port) c.requires.ready.fit.ordered
    (first_is_found (g.A.Core.state c.args.agent.now) c.args.queue.now.queue (Write c.args.port) c.requires.next).servable)

pub returns-clause-round : goal.returns-clause-round
returns-clause-round g c =
    let state = g.A.Core.state c.args.agent.now in
    let left = g.A.Core.state c.happen.new.agent in
    let closes = g.A.Core.closes c.happen.new.agent in
    let own = port_of (Took c.args.port c.args.count) left.last_port in
    let mid = in_hand (Write c.args.port) c.args.queue.now in
    round-event c.happen.result state left closes own (Write c.args.port) c.args.queue.now mid c.take.new.self c.happen.new.queue
    c.happen.ensures.after c.take.ensures c.requires.ready.fit.ordered.listed c.requires.ready.apart c.requires.next (adds-none mid)
