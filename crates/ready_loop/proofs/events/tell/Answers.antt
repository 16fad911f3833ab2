use Rattle.std.proofs.Common.{ℕ, Option, ap, subst, sym, ◌∙◌}
use Rattle.agent_core.specs.Happenings.{happening}
use Rattle.ready_loop.specs.Happenings.{number_after}
use Rattle.loop_model.specs.Dues.{port_of}
use Rattle.loop_model.specs.Lines.{after_event}
use Rattle.loop_model.specs.declared.thing.Thing.{Thing}
use Rattle.ready_loop.specs.Standing.{IsCold}
use Rattle.ready_loop.proofs.TellLemmas.{kept-after, last-stepped, stirs}
use Rattle.ready_loop.proofs.events.tell.Goals as goal

pub turn-requires-clause-kept : goal.turn-requires-clause-kept
turn-requires-clause-kept g c =
    kept-after (g.A.Core.state c.args.agent.now) (g.A.Core.state c.step.new.self) (g.A.Core.closes c.step.new.self)
    c.args.moment (happening c.args.event.now) c.args.queue.now c.in_ok-step.ensures.stepped c.in_ok-step.ensures.closed
    c.requires.orderly c.requires.ordered.listed c.requires.cold

pub turn-requires-clause-stirred : goal.turn-requires-clause-stirred
turn-requires-clause-stirred g c =
    stirs (g.A.Core.state c.args.agent.now) (g.A.Core.state c.step.new.self) (g.A.Core.closes c.step.new.self)
    (g.A.Core.touched c.step.new.self) c.args.moment (happening c.args.event.now) c.args.queue.now
    c.in_ok-step.ensures.stepped c.in_ok-step.ensures.closed c.in_ok-step.ensures.spared
    c.requires.orderly.sound.rising c.requires.ordered.quiet

pub turn-requires-clause-cold : goal.turn-requires-clause-cold
turn-requires-clause-cold g c =
    subst (λ hand. IsCold hand c.args.queue.now) (sym c.served_of.ensures) c.requires.cold

pub returns-clause-after : goal.returns-clause-after
returns-clause-after g c =
    let event = happening c.args.event.now in
    let left = g.A.Core.state c.step.new.self in
    let closes = g.A.Core.closes c.step.new.self in
    c.in_ok-turn.ensures
    ∙ ap (λ (own : Option ℕ). after_event left closes own c.served_of.result c.args.queue.now)
    (c.port_of-own.ensures ∙ ap (λ (n : ℕ). port_of event (number_after event n)) c.ports_so_far.ensures.last
    ∙ ap (port_of event) (last-stepped (g.A.Core.state c.args.agent.now) left c.args.moment event c.in_ok-step.ensures.stepped))
    ∙ ap (λ (hand : Option Thing). after_event left closes (port_of event left.last_port) hand c.args.queue.now)
    c.served_of.ensures
