use Rattle.agent_model.specs.Events.{Ended}
use Rattle.loop_model.specs.Dues.{port_of}
use Rattle.loop_model.specs.Lines.{in_hand}
use Rattle.ready_loop.proofs.HandingLemmas.{front-next, ordered-in_hand}
use Rattle.ready_loop.proofs.KeepingLemmas.{ordered_is}
use Rattle.ready_loop.proofs.RoundingLemmas.{round-ended}
use Rattle.ready_loop.proofs.turn.end.Goals as goal

pub take-requires : goal.take-requires
take-requires g c =
    front-next (g.A.Core.state c.args.agent.now) c.args.queue.now c.args.found c.requires.ready.fit.ordered c.requires.next

pub happen-requires-clause-ordered : goal.happen-requires-clause-ordered
happen-requires-clause-ordered g c =
    ordered_is (g.A.Core.state c.args.agent.now) (in_hand c.args.found c.args.queue.now) c.take.new.self c.take.ensures
    (ordered-in_hand (g.A.Core.state c.args.agent.now) c.args.queue.now c.args.found c.requires.ready.fit.ordered)

pub returns-clause-round : goal.returns-clause-round
returns-clause-round g c =
    let state = g.A.Core.state c.args.agent.now in
    let left = g.A.Core.state c.happen.new.agent in
    let closes = g.A.Core.closes c.happen.new.agent in
    let own = port_of (Ended c.args.port) left.last_port in
    round-ended c.happen.result state left closes own c.args.port c.args.found c.args.queue.now c.take.new.self c.happen.new.queue
    c.happen.ensures.after c.take.ensures c.happen.ensures.happened c.requires.ready.fit.orderly.sound.rising c.requires.at
    c.requires.ready.fit.ordered.listed c.requires.ready.apart c.requires.next
