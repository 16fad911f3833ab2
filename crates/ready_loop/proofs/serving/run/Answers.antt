use Rattle.std.proofs.Common.{◌∙◌, Ok, Err, ap, sym, arith, ◌&&◌}
use Rattle.loop_model.specs.Dues.{Free}
use Rattle.loop_model.specs.Lines.{is_idle}
use Rattle.loop_model.specs.LegalJournal.{in_state}
use Rattle.ready_loop.specs.Serving.{Running, Setting, is_deserted}
use Rattle.ready_loop.specs.declared.outcome.ServeEnd.TheVariants as ends
use Rattle.ready_loop.proofs.ServingLemmas.{fault_ends, memory_ends, over_ends, polled_runs, runs_more, served_runs, serves_more, turn_at}
use Rattle.loop_model.proofs.TestLemmas.{and_both}
use Rattle.ready_loop.proofs.KeepingLemmas.{ordered_of}
use Rattle.ready_loop.proofs.serving.run.Goals as goal

pub is_done-requires : goal.is_done-requires
is_done-requires g c =
    ordered_of (g.A.Core.state c.turns.agent) c.turns.hub c.turns.invariant.7 c.turns.invariant.4

pub returns-then-is_done-clause-serves : goal.returns-then-is_done-clause-serves
returns-then-is_done-clause-serves g c = λ path state.
    let here = in_state (g.A.Core.state c.turns.agent) c.turns.hub Free in
    let idle = is_idle (g.A.Core.state c.turns.agent) c.turns.hub in
    let first = and_both c.args.until_idle (is_deserted here && idle) (sym c.is_done.ensures ∙ c.if-is_done.true) in
    let second = and_both (is_deserted here) idle first.1 in
    record {
      reading = here;
      calls = c.turns.invariant.2 path state;
      asked = first.0;
      deserted = second.0;
      idle = second.1;
    }

pub turns-preserved-in-Ok-Served : goal.turns-preserved-in-Ok-Served
turns-preserved-in-Ok-Served g c = (
  tt,
  tt,
  λ path state. runs_more (c.turns.invariant.2 path state)
      (served_runs (record { path = path; until_idle = c.args.until_idle; state = state })
      (in_state (g.A.Core.state c.turns.agent) c.turns.hub Free) (in_state (g.A.Core.state c.turn.new.agent) c.turn.new.self Free)
      (turn_at (in_state (g.A.Core.state c.turns.agent) c.turns.hub Free) (g.W.World.journal c.turns.world) (g.W.World.journal c.turn.new.world)
      (g.A.Core.state c.turn.new.agent) c.turn.new.self (c.in-Ok-Served.is ∙ ap Ok c.in-Ok-Served.field-0-is) c.turn.ensures.legal)),
  c.in-Ok-Served.ensures.ports,
  c.in-Ok-Served.ensures.quiet,
  omega (arith, c.turns.invariant.5, c.turn.ensures.later),
  c.in-Ok-Served.ensures.orderly,
  c.in-Ok-Served.ensures.exact,
  c.in-Ok-Served.ensures.second,
  g.met.W.World.goes_on c.args.world.now c.turns.world c.turn.new.world c.turns.invariant.9 c.turn.ensures.led,
)

pub turns-preserved : goal.turns-preserved
turns-preserved g c = (
  tt,
  tt,
  λ path state. runs_more (c.turns.invariant.2 path state)
      (polled_runs (record { path = path; until_idle = c.args.until_idle; state = state })
      (g.A.Core.state c.turns.agent) (g.A.Core.state c.turn.new.agent) c.turns.hub c.turn.new.self
      c.turns.invariant.6.sound.rising (sym c.is_done.ensures ∙ c.if-is_done.false)
      (turn_at (in_state (g.A.Core.state c.turns.agent) c.turns.hub Free) (g.W.World.journal c.turns.world) (g.W.World.journal c.turn.new.world)
      (g.A.Core.state c.turn.new.agent) c.turn.new.self (c.in-Ok-Polled.is ∙ ap Ok c.in-Ok-Polled.field-0-is) c.turn.ensures.legal)),
  c.in-Ok-Polled.ensures.ports,
  c.in-Ok-Polled.ensures.quiet,
  omega (arith, c.turns.invariant.5, c.turn.ensures.later),
  c.in-Ok-Polled.ensures.orderly,
  c.in-Ok-Polled.ensures.exact,
  c.in-Ok-Polled.ensures.second,
  g.met.W.World.goes_on c.args.world.now c.turns.world c.turn.new.world c.turns.invariant.9 c.turn.ensures.led,
)

pub returns-in-Ok-Over-clause-serves : goal.returns-in-Ok-Over-clause-serves
returns-in-Ok-Over-clause-serves g c = λ path state.
    let setting : Setting = record { path = path; until_idle = c.args.until_idle; state = state } in
    serves_more ends.Over setting (Running (in_state (g.A.Core.state c.args.agent.now) c.args.hub.now Free))
    (Running (in_state (g.A.Core.state c.turns.agent) c.turns.hub Free))
    (g.W.World.journal c.args.world.now) (g.W.World.journal c.turns.world) (g.W.World.journal c.turn.new.world)
    (c.turns.invariant.2 path state)
    (over_ends setting (g.A.Core.state c.turns.agent) (g.A.Core.state c.turn.new.agent) c.turns.hub c.turn.new.self
    c.turns.invariant.6.sound.rising (sym c.is_done.ensures ∙ c.if-is_done.false)
    (turn_at (in_state (g.A.Core.state c.turns.agent) c.turns.hub Free) (g.W.World.journal c.turns.world) (g.W.World.journal c.turn.new.world)
    (g.A.Core.state c.turn.new.agent) c.turn.new.self (c.in-Ok-Over.is ∙ ap Ok c.in-Ok-Over.field-0-is) c.turn.ensures.legal))

pub returns-in-Err-Poll-clause-serves : goal.returns-in-Err-Poll-clause-serves
returns-in-Err-Poll-clause-serves g c = λ path state.
    let setting : Setting = record { path = path; until_idle = c.args.until_idle; state = state } in
    serves_more ends.PollFault setting (Running (in_state (g.A.Core.state c.args.agent.now) c.args.hub.now Free))
    (Running (in_state (g.A.Core.state c.turns.agent) c.turns.hub Free))
    (g.W.World.journal c.args.world.now) (g.W.World.journal c.turns.world) (g.W.World.journal c.turn.new.world)
    (c.turns.invariant.2 path state)
    (fault_ends setting (g.A.Core.state c.turns.agent) (g.A.Core.state c.turn.new.agent) c.turns.hub c.turn.new.self
    c.turns.invariant.6.sound.rising (sym c.is_done.ensures ∙ c.if-is_done.false)
    (turn_at (in_state (g.A.Core.state c.turns.agent) c.turns.hub Free) (g.W.World.journal c.turns.world) (g.W.World.journal c.turn.new.world)
    (g.A.Core.state c.turn.new.agent) c.turn.new.self (c.in-Err-Poll.is ∙ ap Err c.in-Err-Poll.field-0-is) c.turn.ensures.legal))

pub returns-in-Err-Memory-clause-serves : goal.returns-in-Err-Memory-clause-serves
returns-in-Err-Memory-clause-serves g c = λ path state.
    let setting : Setting = record { path = path; until_idle = c.args.until_idle; state = state } in
    serves_more ends.Memory setting (Running (in_state (g.A.Core.state c.args.agent.now) c.args.hub.now Free))
    (Running (in_state (g.A.Core.state c.turns.agent) c.turns.hub Free))
    (g.W.World.journal c.args.world.now) (g.W.World.journal c.turns.world) (g.W.World.journal c.turn.new.world)
    (c.turns.invariant.2 path state)
    (memory_ends setting (g.A.Core.state c.turns.agent) (g.A.Core.state c.turn.new.agent) c.turns.hub c.turn.new.self
    c.turns.invariant.6.sound.rising (sym c.is_done.ensures ∙ c.if-is_done.false)
    (turn_at (in_state (g.A.Core.state c.turns.agent) c.turns.hub Free) (g.W.World.journal c.turns.world) (g.W.World.journal c.turn.new.world)
    (g.A.Core.state c.turn.new.agent) c.turn.new.self (c.in-Err-Memory.is ∙ ap Err c.in-Err-Memory.field-0-is) c.turn.ensures.legal))
