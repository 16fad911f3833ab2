use Rattle.std.proofs.Common.{Ok, Err, Result, Some, List, ap, sym, ◌∙◌, inr}
use Rattle.world_ports.specs.declared.answers.Polled.{Polled}
use Rattle.world_ports.specs.declared.answers.Polled.TheVariants as polled
use Rattle.world_ports.specs.declared.answers.Ready.{Ready}
use Rattle.world_ports.specs.declared.answers.WorldFault.{WorldFault}
use Rattle.world_ports.specs.declared.answers.WorldFault.TheVariants.{Failed, Memory}
use Rattle.world_ports.specs.declared.entry.Entry.TheVariants as entry
use Rattle.loop_model.specs.Dues.{Free, Polling}
use Rattle.loop_model.specs.LegalJournal.{after_entry, in_state}
use Rattle.loop_model.specs.Lines.{Line, queued_all}
use Rattle.loop_model.proofs.QuietLemmas.{ordered_taken}
use Rattle.ready_loop.proofs.KeepingLemmas.{ordered_is}
use Rattle.ready_loop.proofs.CallLemmas.{poll-any}
use Rattle.ready_loop.proofs.TurningLemmas.{told_at, waits_once, waits_short}
use Rattle.ready_loop.proofs.look.poll.Goals as goal

pub returns-in_default-clause-legal : goal.returns-in_default-clause-legal
returns-in_default-clause-legal g c =
    let state = g.A.Core.state c.args.agent.now in
    let line = c.args.queue.now in
    let items = c.poll.new.out.items in
    let answer : Result Polled WorldFault = Ok polled.Some in
    let to = after_entry (in_state state line Polling) (entry.Poll c.wait_of.result items answer) in
    inr (record {
      answer = answer;
      last = record {
        to = to;
        waits = waits_once (in_state state line Polling) to (g.W.World.journal c.args.world.now) (g.W.World.journal c.poll.new.self) c.wait_of.result items answer
            (poll-any state line c.wait_of.result items answer c.wait_of.ensures)
            (told_at (λ r. entry.Poll c.wait_of.result c.poll.new.out.items r) (g.W.World.journal c.args.world.now) (g.W.World.journal c.poll.new.self)
            (c.in-Ok-Some.is ∙ ap Ok c.in-Ok-Some.field-0-is) c.poll.ensures.told);
      };
    })

pub returns-in-Ok-clause-legal : goal.returns-in-Ok-clause-legal
returns-in-Ok-clause-legal g c =
    let state = g.A.Core.state c.args.agent.now in
    let line = c.args.queue.now in
    let items = c.poll.new.out.items in
    let added = c.in-Ok.ensures ∙ ap (λ (is : List Ready). queued_all state is line) c.deref.ensures.value in
    waits_once (in_state state line Polling) (in_state state c.add_all.new.self Free) (g.W.World.journal c.args.world.now) (g.W.World.journal c.poll.new.self) c.wait_of.result items (Ok polled.Some)
    (poll-any state line c.wait_of.result items (Ok polled.Some) c.wait_of.ensures
    ∙ ap (λ (l : Line). Some (in_state state l Free)) (sym added))
    (told_at (λ r. entry.Poll c.wait_of.result c.poll.new.out.items r) (g.W.World.journal c.args.world.now) (g.W.World.journal c.poll.new.self)
    (c.in-Ok-Some.is ∙ ap Ok c.in-Ok-Some.field-0-is) c.poll.ensures.told)

pub returns-in-Ok-Over-clause-legal : goal.returns-in-Ok-Over-clause-legal
returns-in-Ok-Over-clause-legal g c =
    let state = g.A.Core.state c.args.agent.now in
    let line = c.args.queue.now in
    let items = c.poll.new.out.items in
    let answer : Result Polled WorldFault = Ok polled.Over in
    let to = after_entry (in_state state line Polling) (entry.Poll c.wait_of.result items answer) in
    record {
      to = to;
      waits = waits_once (in_state state line Polling) to (g.W.World.journal c.args.world.now) (g.W.World.journal c.poll.new.self) c.wait_of.result items answer
          (poll-any state line c.wait_of.result items answer c.wait_of.ensures)
          (told_at (λ r. entry.Poll c.wait_of.result c.poll.new.out.items r) (g.W.World.journal c.args.world.now) (g.W.World.journal c.poll.new.self)
          (c.in-Ok-Over.is ∙ ap Ok c.in-Ok-Over.field-0-is) c.poll.ensures.told);
    }

pub returns-in-Err-Failed-clause-legal : goal.returns-in-Err-Failed-clause-legal
returns-in-Err-Failed-clause-legal g c =
    let state = g.A.Core.state c.args.agent.now in
    let line = c.args.queue.now in
    let items = c.poll.new.out.items in
    let answer : Result Polled WorldFault = Err Failed in
    let to = after_entry (in_state state line Polling) (entry.Poll c.wait_of.result items answer) in
    record {
      to = to;
      waits = waits_once (in_state state line Polling) to (g.W.World.journal c.args.world.now) (g.W.World.journal c.poll.new.self) c.wait_of.result items answer
          (poll-any state line c.wait_of.result items answer c.wait_of.ensures)
          (told_at (λ r. entry.Poll c.wait_of.result c.poll.new.out.items r) (g.W.World.journal c.args.world.now) (g.W.World.journal c.poll.new.self)
          (c.in-Err-Failed.is ∙ ap Err c.in-Err-Failed.field-0-is) c.poll.ensures.told);
    }

pub returns-in-Err-Memory-clause-legal : goal.returns-in-Err-Memory-clause-legal
returns-in-Err-Memory-clause-legal g c =
    let state = g.A.Core.state c.args.agent.now in
    let line = c.args.queue.now in
    let items = c.poll.new.out.items in
    let answer : Result Polled WorldFault = Err Memory in
    let to = after_entry (in_state state line Polling) (entry.Poll c.wait_of.result items answer) in
    waits_short (in_state state line Polling) to (g.W.World.journal c.args.world.now) (g.W.World.journal c.poll.new.self) c.wait_of.result items
    (poll-any state line c.wait_of.result items answer c.wait_of.ensures)
    (told_at (λ r. entry.Poll c.wait_of.result c.poll.new.out.items r) (g.W.World.journal c.args.world.now) (g.W.World.journal c.poll.new.self)
    (c.in-Err-Memory.is ∙ ap Err c.in-Err-Memory.field-0-is) c.poll.ensures.told)

pub returns-in-Ok-clause-ordered : goal.returns-in-Ok-clause-ordered
returns-in-Ok-clause-ordered g c =
    λ ordered. let state = g.A.Core.state c.args.agent.now in
    let line = c.args.queue.now in
    let items = c.poll.new.out.items in
    let answer : Result Polled WorldFault = Ok polled.Some in
    let from = in_state state line Polling in
    let next = entry.Poll c.wait_of.result items answer in
    ordered_is state (queued_all state items line) c.add_all.new.self
    (c.in-Ok.ensures ∙ ap (λ (is : List Ready). queued_all state is line) c.deref.ensures.value)
    (ordered_taken from (after_entry from next) next (poll-any state line c.wait_of.result items answer c.wait_of.ensures) ordered)
