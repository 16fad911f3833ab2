use Rattle.std.proofs.Common.{refl, inl, ◌≡◌, ◌∙◌, Ok, Result, Some, List, ℕ, true, false, length, [], ◌==◌, ap, subst, sym, arith, rules}
use Rattle.std.specs.declared.alloc.AllocError.{AllocError}
use Rattle.world_ports.specs.declared.events.Moment.{Moment}
use Rattle.std.specs.Prelude.{IfOk, is_err}
use Rattle.world_ports.specs.declared.entry.Entry.TheVariants as entry
use Rattle.loop_model.specs.Dues.{Due, Free, Polling, due_look, due_of}
use Rattle.loop_model.specs.Lines.{is_idle}
use Rattle.loop_model.specs.Fitting.{IsMoment}
use Rattle.loop_model.specs.LegalJournal.{after_entry, in_state}
use Rattle.ready_loop.proofs.CallLemmas.{look-any, look-closes, look-none, looked-at}
use Rattle.agent_model.specs.Events.{Tick}
use Rattle.ready_loop.proofs.KeepingLemmas.{then_ok, told-fit, told-ordered}
use Rattle.ready_loop.proofs.MomentLemmas.{second-within}
use Rattle.ready_loop.proofs.TellLemmas.{last-stepped}
use Rattle.ready_loop.proofs.TurningLemmas.{advances, advances_once, goes_stops, one_call, stops_later, stops_short, stops_there, looks_by}
use Rattle.ready_loop.proofs.look.look.Goals as goal

pub returns-in_default-clause-legal : goal.returns-in_default-clause-legal
returns-in_default-clause-legal g c =
    let state = g.A.Core.state c.args.agent.now in
    let line = c.args.queue.now in
    let next = entry.Now c.now.result in
    inl (stops_short (in_state state line Free) (after_entry (in_state state line Free) next)
    (g.W.World.journal c.args.world.now) (g.W.World.journal c.now.new.self) (is_err c.now.result) next refl
    (subst (λ (r : Result Moment AllocError). IfOk r IsMoment) (sym c.in_default.is) tt)
    (look-any state line c.now.result c.requires.idle) c.now.ensures.told)

pub returns-in_default-tell-clause-legal : goal.returns-in_default-tell-clause-legal
returns-in_default-tell-clause-legal g c =
    let state = g.A.Core.state c.args.agent.now in
    let line = c.args.queue.now in
    let answer : Result Moment AllocError = Ok c.in-Ok.moment in
    let next = entry.Now answer in
    inl (stops_there (one_call (in_state state line Free) (after_entry (in_state state line Free) next)
    (g.W.World.journal c.args.world.now) (g.W.World.journal c.now.new.self) next refl (record { mono = omega arith; wall = omega arith })
    (look-any state line answer c.requires.idle) c.in-Ok.ensures.told))

pub returns-in_default-close_all-clause-legal : goal.returns-in_default-close_all-clause-legal
returns-in_default-close_all-clause-legal g c =
    let state = g.A.Core.state c.args.agent.now in
    let after = g.A.Core.state c.tell.new.agent in
    let closes = g.A.Core.closes c.tell.new.agent in
    let line = c.tell.new.queue in
    let full : c.is_empty.result ≡ false = grind arith in
    let some : (length closes == 0) ≡ false =
    ap (λ (ps : List ℕ). length ps == 0) (sym c.closes.ensures) ∙ sym c.is_empty.ensures ∙ full in
    inl (stops_later (one_call (in_state state c.args.queue.now Free) (in_state after line (due_of closes))
    (g.W.World.journal c.args.world.now) (g.W.World.journal c.now.new.self) (entry.Now (Ok c.in-Ok.moment)) refl (record { mono = omega arith; wall = omega arith })
    (looked-at state after closes c.args.queue.now line c.in-Ok.moment c.requires.idle c.in-Ok-tell.ensures.stepped c.in-Ok-tell.ensures.closed c.in-Ok-tell.ensures.after
    ∙ ap (λ (d : Due). Some (in_state after line d)) (look-closes closes (is_idle after line) some))
    c.in-Ok.ensures.told) (goes_stops c.close_all.ensures.legal))

pub returns-then-not-is_empty-clause-legal : goal.returns-then-not-is_empty-clause-legal
returns-then-not-is_empty-clause-legal g c =
    let state = g.A.Core.state c.args.agent.now in
    let after = g.A.Core.state c.tell.new.agent in
    let closes = g.A.Core.closes c.tell.new.agent in
    let line = c.tell.new.queue in
    let full : c.is_empty.result ≡ false = grind arith in
    let some : (length closes == 0) ≡ false =
    ap (λ (ps : List ℕ). length ps == 0) (sym c.closes.ensures) ∙ sym c.is_empty.ensures ∙ full in
    advances (entry.Now (Ok c.in-Ok.moment)) refl (record { mono = omega arith; wall = omega arith })
    (looked-at state after closes c.args.queue.now line c.in-Ok.moment c.requires.idle c.in-Ok-tell.ensures.stepped c.in-Ok-tell.ensures.closed c.in-Ok-tell.ensures.after
    ∙ ap (λ (d : Due). Some (in_state after line d)) (look-closes closes (is_idle after line) some))
    c.in-Ok.ensures.told c.in-Ok-close_all.ensures.legal.by

pub returns-then-not-is_idle-clause-legal : goal.returns-then-not-is_idle-clause-legal
returns-then-not-is_idle-clause-legal g c =
    let state = g.A.Core.state c.args.agent.now in
    let after = g.A.Core.state c.tell.new.agent in
    let closes = g.A.Core.closes c.tell.new.agent in
    let line = c.tell.new.queue in
    let bare : c.is_empty.result ≡ true = grind arith in
    let busy : c.is_idle.result ≡ false = grind arith in
    let none : (length closes == 0) ≡ true =
    ap (λ (ps : List ℕ). length ps == 0) (sym c.closes.ensures) ∙ sym c.is_empty.ensures ∙ bare in
    advances_once (in_state state c.args.queue.now Free) (in_state after line Free)
    (g.W.World.journal c.args.world.now) (g.W.World.journal c.now.new.self) (entry.Now (Ok c.in-Ok.moment)) refl (record { mono = omega arith; wall = omega arith })
    (looked-at state after closes c.args.queue.now line c.in-Ok.moment c.requires.idle c.in-Ok-tell.ensures.stepped c.in-Ok-tell.ensures.closed c.in-Ok-tell.ensures.after
    ∙ ap (λ (d : Due). Some (in_state after line d))
    (look-none closes (is_idle after line) none ∙ ap (due_look []) (sym c.is_idle.ensures ∙ busy)))
    c.in-Ok.ensures.told

pub returns-clause-legal : goal.returns-clause-legal
returns-clause-legal g c =
    let state = g.A.Core.state c.args.agent.now in
    let after = g.A.Core.state c.tell.new.agent in
    let closes = g.A.Core.closes c.tell.new.agent in
    let line = c.tell.new.queue in
    let bare : c.is_empty.result ≡ true = grind arith in
    let idle : c.is_idle.result ≡ true = grind arith in
    let none : (length closes == 0) ≡ true =
    ap (λ (ps : List ℕ). length ps == 0) (sym c.closes.ensures) ∙ sym c.is_empty.ensures ∙ bare in
    looks_by c.poll.result c.in-Ok.moment (in_state state c.args.queue.now Free) (in_state after line Polling)
    (g.W.World.journal c.args.world.now) (g.W.World.journal c.now.new.self) (g.W.World.journal c.poll.new.world)
    after c.poll.new.queue (record { mono = omega arith; wall = omega arith })
    (looked-at state after closes c.args.queue.now line c.in-Ok.moment c.requires.idle c.in-Ok-tell.ensures.stepped c.in-Ok-tell.ensures.closed c.in-Ok-tell.ensures.after
    ∙ ap (λ (d : Due). Some (in_state after line d))
    (look-none closes (is_idle after line) none ∙ ap (due_look []) (sym c.is_idle.ensures ∙ idle)))
    c.in-Ok.ensures.told c.poll.ensures.legal

pub is_idle-requires : goal.is_idle-requires
is_idle-requires g c =
    told-ordered (g.A.Core.state c.tell.new.agent) (g.A.Core.closes c.tell.new.agent) c.args.queue.now c.tell.new.queue
    c.in-Ok-tell.ensures.after

pub returns-then-not-is_empty-clause-fit : goal.returns-then-not-is_empty-clause-fit
returns-then-not-is_empty-clause-fit g c =
    told-fit (g.A.Core.state c.args.agent.now) (g.A.Core.state c.tell.new.agent) c.in-Ok.moment (g.A.Core.closes c.tell.new.agent)
    c.args.queue.now c.tell.new.queue c.in-Ok-tell.ensures.stepped c.in-Ok-tell.ensures.after c.requires.ready.fit.orderly

pub returns-then-not-is_empty-clause-gone : goal.returns-then-not-is_empty-clause-gone
returns-then-not-is_empty-clause-gone g c = record {
  ports = c.in-Ok-close_all.ensures.ports ∙ c.in-Ok.ensures.ports ∙ c.requires.ready.ports ∙ last-stepped (g.A.Core.state c.args.agent.now) (g.A.Core.state c.tell.new.agent) c.in-Ok.moment Tick
      c.in-Ok-tell.ensures.stepped;
  second = second-within (g.A.Core.state c.args.agent.now) (g.A.Core.state c.tell.new.agent) c.in-Ok.moment Tick
      (g.W.World.greatest c.args.world.now) (g.W.World.greatest c.close_all.new.world) c.in-Ok-tell.ensures.stepped
      c.requires.ready.second c.in-Ok.ensures.moment.0 (c.in-Ok-close_all.ensures.second ∙ c.in-Ok.ensures.moment.1);
  later = grind arith;
  led = search rules;
}

pub returns-then-not-is_idle-clause-fit : goal.returns-then-not-is_idle-clause-fit
returns-then-not-is_idle-clause-fit g c =
    told-fit (g.A.Core.state c.args.agent.now) (g.A.Core.state c.tell.new.agent) c.in-Ok.moment (g.A.Core.closes c.tell.new.agent)
    c.args.queue.now c.tell.new.queue c.in-Ok-tell.ensures.stepped c.in-Ok-tell.ensures.after c.requires.ready.fit.orderly

pub returns-then-not-is_idle-clause-gone : goal.returns-then-not-is_idle-clause-gone
returns-then-not-is_idle-clause-gone g c = record {
  ports = c.in-Ok.ensures.ports ∙ c.requires.ready.ports ∙ last-stepped (g.A.Core.state c.args.agent.now) (g.A.Core.state c.tell.new.agent) c.in-Ok.moment Tick
      c.in-Ok-tell.ensures.stepped;
  second = second-within (g.A.Core.state c.args.agent.now) (g.A.Core.state c.tell.new.agent) c.in-Ok.moment Tick
      (g.W.World.greatest c.args.world.now) (g.W.World.greatest c.now.new.self) c.in-Ok-tell.ensures.stepped
      c.requires.ready.second c.in-Ok.ensures.moment.0 c.in-Ok.ensures.moment.1;
  later = grind arith;
  led = search rules;
}

pub returns-clause-fit : goal.returns-clause-fit
returns-clause-fit g c =
    let fit = told-fit (g.A.Core.state c.args.agent.now) (g.A.Core.state c.tell.new.agent) c.in-Ok.moment (g.A.Core.closes c.tell.new.agent)
    c.args.queue.now c.tell.new.queue c.in-Ok-tell.ensures.stepped c.in-Ok-tell.ensures.after c.requires.ready.fit.orderly in
    then_ok c.poll.result (c.poll.ensures.ordered fit.ordered) (λ ordered. record { orderly = fit.orderly; ordered = ordered })

pub returns-clause-gone : goal.returns-clause-gone
returns-clause-gone g c = record {
  ports = then_ok c.poll.result c.poll.ensures.ports (λ same.
      same ∙ c.in-Ok.ensures.ports ∙ c.requires.ready.ports ∙ last-stepped (g.A.Core.state c.args.agent.now) (g.A.Core.state c.tell.new.agent) c.in-Ok.moment Tick
      c.in-Ok-tell.ensures.stepped);
  second = then_ok c.poll.result c.poll.ensures.second (λ same.
      second-within (g.A.Core.state c.args.agent.now) (g.A.Core.state c.tell.new.agent) c.in-Ok.moment Tick
      (g.W.World.greatest c.args.world.now) (g.W.World.greatest c.poll.new.world) c.in-Ok-tell.ensures.stepped
      c.requires.ready.second c.in-Ok.ensures.moment.0 (same ∙ c.in-Ok.ensures.moment.1));
  later = grind arith;
  led = search rules;
}
