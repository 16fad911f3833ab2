use Rattle.std.proofs.Common.{refl, ◌∙◌, Ok, ◌+◌, ap, drop, get_or, arith}
use Rattle.std.specs.Prelude.{is_err}
use Rattle.world_ports.specs.declared.entry.Entry.TheVariants as entry
use Rattle.loop_model.specs.Dues.{Closing, Due, due_of}
use Rattle.loop_model.specs.LegalJournal.{after_entry, in_state}
use Rattle.ready_loop.proofs.CallLemmas.{close-any, close-taken, due-drop}
use Rattle.ready_loop.proofs.TurningLemmas.{goes_on, lands_at, one_call, stops_later, stops_short}
use Rattle.ready_loop.proofs.events.close_all.Goals as goal

pub returns-in_default-clause-legal : goal.returns-in_default-clause-legal
returns-in_default-clause-legal g c =
    let state = g.A.Core.state c.args.agent.now in
    let line = c.args.queue.now in
    let items = c.closes-port-items.result.now in
    let port = get_or items c.ports.port-index 0 in
    let later = drop (c.ports.port-index + 1) items in
    let next = entry.Close port c.close.result in
    let due = due-drop items c.ports.port-index c.ports-test.true in
    let before = lands_at (in_state state line (due_of (drop c.ports.port-index items))) (in_state state line (Closing port later))
    (ap (λ (d : Due). in_state state line d) due) c.ports.invariant.calls in
    record {
      by = stops_later before
          (stops_short (in_state state line (Closing port later)) (after_entry (in_state state line (Closing port later)) next)
          (g.W.World.journal c.ports.world) (g.W.World.journal c.close.new.self) (is_err c.close.result) next refl tt
          (close-any state line port later c.close.result) c.close.ensures.told);
    }

pub ports-preserved : goal.ports-preserved
ports-preserved g c =
    let state = g.A.Core.state c.args.agent.now in
    let line = c.args.queue.now in
    let items = c.closes-port-items.result.now in
    let port = get_or items c.ports.port-index 0 in
    let later = drop (c.ports.port-index + 1) items in
    let next = entry.Close port (Ok tt) in
    let due = due-drop items c.ports.port-index c.ports-test.true in
    let before = lands_at (in_state state line (due_of (drop c.ports.port-index items))) (in_state state line (Closing port later))
    (ap (λ (d : Due). in_state state line d) due) c.ports.invariant.calls in
    record {
      calls = goes_on before (one_call (in_state state line (Closing port later)) (in_state state line (due_of later))
          (g.W.World.journal c.ports.world) (g.W.World.journal c.close.new.self) next refl tt
          (close-taken state line port later) c.in-Ok.ensures.told);
      ports = c.close.ensures.ports ∙ c.ports.invariant.ports;
      second = c.close.ensures.moment ∙ c.ports.invariant.second;
      later = omega (arith, c.close.ensures.cause, c.ports.invariant.later);
      led = g.met.W.World.goes_on c.args.world.now c.ports.world c.close.new.self c.ports.invariant.led c.close.ensures.led;
    }
