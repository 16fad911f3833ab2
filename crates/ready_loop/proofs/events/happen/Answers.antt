use Rattle.std.proofs.Common.{refl, Ok, Result, Some, ap, subst, sym, ◌∙◌, arith, rules}
use Rattle.std.specs.declared.alloc.AllocError.{AllocError}
use Rattle.world_ports.specs.declared.events.Moment.{Moment}
use Rattle.std.specs.Prelude.{IfOk, is_err}
use Rattle.world_ports.specs.declared.entry.Entry.TheVariants as entry
use Rattle.loop_model.specs.Dues.{NowFor, due_of}
use Rattle.agent_core.specs.Happenings.{happening}
use Rattle.loop_model.specs.Fitting.{IsMoment}
use Rattle.loop_model.specs.LegalJournal.{after_entry, in_state}
use Rattle.loop_model.specs.Lines.{Line}
use Rattle.ready_loop.proofs.TellLemmas.{last-stepped}
use Rattle.ready_loop.proofs.MomentLemmas.{second-within}
use Rattle.ready_loop.proofs.KeepingLemmas.{on_ok}
use Rattle.ready_loop.proofs.CallLemmas.{now-any, now-taken}
use Rattle.ready_loop.proofs.TurningLemmas.{goes_then, one_call, stops_short, stops_there}
use Rattle.ready_loop.proofs.events.happen.Goals as goal

pub returns-in_default-clause-legal : goal.returns-in_default-clause-legal
returns-in_default-clause-legal g c =
    let state = g.A.Core.state c.args.agent.now in
    let line = c.args.queue.now in
    let event = happening c.args.event.now in
    let next = entry.Now c.now.result in
    record {
      by = stops_short (in_state state line (NowFor event))
          (after_entry (in_state state line (NowFor event)) next)
          (g.W.World.journal c.args.world.now) (g.W.World.journal c.now.new.self) (is_err c.now.result) next refl
          (subst (λ (r : Result Moment AllocError). IfOk r IsMoment) (sym c.in_default.is) tt)
          (now-any state line event c.now.result) c.now.ensures.told;
    }

pub returns-in_default-tell-clause-legal : goal.returns-in_default-tell-clause-legal
returns-in_default-tell-clause-legal g c =
    let state = g.A.Core.state c.args.agent.now in
    let line = c.args.queue.now in
    let event = happening c.args.event.now in
    let answer : Result Moment AllocError = Ok c.in-Ok.moment in
    let next = entry.Now answer in
    record {
      by = stops_there (one_call (in_state state line (NowFor event))
          (after_entry (in_state state line (NowFor event)) next)
          (g.W.World.journal c.args.world.now) (g.W.World.journal c.now.new.self) next refl (record { mono = omega arith; wall = omega arith })
          (now-any state line event answer) c.in-Ok.ensures.told);
    }

pub returns-clause-legal : goal.returns-clause-legal
returns-clause-legal g c =
    let state = g.A.Core.state c.args.agent.now in
    let after = g.A.Core.state c.tell.new.agent in
    let closes = g.A.Core.closes c.tell.new.agent in
    goes_then (entry.Now (Ok c.in-Ok.moment)) refl (record { mono = omega arith; wall = omega arith })
    (now-taken state after closes c.args.queue.now (happening c.args.event.now) c.in-Ok.moment c.in-Ok-tell.ensures.stepped c.in-Ok-tell.ensures.closed
    ∙ ap (λ (line : Line). Some (in_state after line (due_of closes))) (sym c.in-Ok-tell.ensures.after))
    c.in-Ok.ensures.told c.close_all.ensures.legal

pub returns-clause-after : goal.returns-clause-after
returns-clause-after g c = on_ok c.close_all.result c.in-Ok-tell.ensures.after

pub returns-clause-happened : goal.returns-clause-happened
returns-clause-happened g c =
    on_ok c.close_all.result (record { moment = c.in-Ok.moment; is = c.in-Ok-tell.ensures.stepped })

pub returns-clause-gone : goal.returns-clause-gone
returns-clause-gone g c = record {
  ports = on_ok c.close_all.result (c.close_all.ensures.ports ∙ c.in-Ok.ensures.ports ∙ c.requires.ports
      ∙ last-stepped (g.A.Core.state c.args.agent.now) (g.A.Core.state c.tell.new.agent) c.in-Ok.moment
      (happening c.args.event.now) c.in-Ok-tell.ensures.stepped);
  second = on_ok c.close_all.result
      (second-within (g.A.Core.state c.args.agent.now) (g.A.Core.state c.tell.new.agent) c.in-Ok.moment
      (happening c.args.event.now) (g.W.World.greatest c.args.world.now) (g.W.World.greatest c.close_all.new.world)
      c.in-Ok-tell.ensures.stepped c.requires.second c.in-Ok.ensures.moment.0
      (c.close_all.ensures.second ∙ c.in-Ok.ensures.moment.1));
  later = grind arith;
  led = search rules;
}
