use Rattle.std.proofs.Common.{Ok, Err, Result, List, ap, sym, ◌∙◌, true, Some}
use Rattle.world_ports.specs.declared.answers.Polled.{Polled}
use Rattle.world_ports.specs.declared.answers.Polled.TheVariants as polled
use Rattle.world_ports.specs.declared.answers.WorldFault.{WorldFault}
use Rattle.world_ports.specs.declared.answers.WorldFault.TheVariants.{Failed, Memory}
use Rattle.pair_ports.specs.declared.entry.PairEntry.TheVariants as entry
use Rattle.pair_ports.specs.declared.entry.PairReady.{PairReady}
use Rattle.filter_model.specs.declared.thing.Thing.{Thing}
use Rattle.filter_model.specs.Lines.{queued_all}
use Rattle.filter_model.specs.Answered.{Free, after_poll, at}
use Rattle.filter_top.proofs.CallLemmas.{poll_any}
use Rattle.filter_top.proofs.MoveLemmas.{first_call, one_call, stops_short, stops_there, told_at, up_to}
use Rattle.filter_top.proofs.turn.poll.Goals as goal

pub returns-in-Ok-clause-legal : goal.returns-in-Ok-clause-legal
returns-in-Ok-clause-legal g c =
    let state = c.args.filter.now in
    let line = c.args.line.now in
    let answer : Result Polled WorldFault = Ok polled.Some in
    let added = c.in-Ok.ensures ∙ ap (λ (items : List PairReady). queued_all state items line) c.deref.ensures.value in
    first_call (at state line Free) (at state c.add_all.new.self Free) (g.P.Pairs.journal c.args.pairs.now) (g.P.Pairs.journal c.poll.new.self)
    (entry.Poll c.poll.new.out.items answer) (poll_any state line c.poll.new.out.items answer c.requires.idle ∙ ap (λ (l : List Thing). Some (at state l Free)) (sym added))
    (told_at (λ r. entry.Poll c.poll.new.out.items r) (g.P.Pairs.journal c.args.pairs.now) (g.P.Pairs.journal c.poll.new.self)
    (c.in-Ok-Some.is ∙ ap Ok c.in-Ok-Some.field-0-is) c.poll.ensures.told)

pub returns-in-Err-clause-legal : goal.returns-in-Err-clause-legal
returns-in-Err-clause-legal g c =
    let state = c.args.filter.now in
    let line = c.args.line.now in
    let answer : Result Polled WorldFault = Ok polled.Some in
    stops_there (one_call (at state line Free) (after_poll c.poll.new.out.items state line answer) (g.P.Pairs.journal c.args.pairs.now) (g.P.Pairs.journal c.poll.new.self)
    (entry.Poll c.poll.new.out.items answer) (poll_any state line c.poll.new.out.items answer c.requires.idle)
    (told_at (λ r. entry.Poll c.poll.new.out.items r) (g.P.Pairs.journal c.args.pairs.now) (g.P.Pairs.journal c.poll.new.self)
    (c.in-Ok-Some.is ∙ ap Ok c.in-Ok-Some.field-0-is) c.poll.ensures.told))

pub returns-in-Ok-Over-clause-legal : goal.returns-in-Ok-Over-clause-legal
returns-in-Ok-Over-clause-legal g c =
    let state = c.args.filter.now in
    let line = c.args.line.now in
    let answer : Result Polled WorldFault = Ok polled.Over in
    record {
      items = c.poll.new.out.items;
      moves = up_to (at state line Free) (after_poll c.poll.new.out.items state line answer) (g.P.Pairs.journal c.args.pairs.now) (g.P.Pairs.journal c.poll.new.self)
          (entry.Poll c.poll.new.out.items answer) (poll_any state line c.poll.new.out.items answer c.requires.idle)
          (told_at (λ r. entry.Poll c.poll.new.out.items r) (g.P.Pairs.journal c.args.pairs.now) (g.P.Pairs.journal c.poll.new.self)
          (c.in-Ok-Over.is ∙ ap Ok c.in-Ok-Over.field-0-is) c.poll.ensures.told);
    }

pub returns-in-Err-Failed-clause-legal : goal.returns-in-Err-Failed-clause-legal
returns-in-Err-Failed-clause-legal g c =
    let state = c.args.filter.now in
    let line = c.args.line.now in
    let answer : Result Polled WorldFault = Err Failed in
    record {
      items = c.poll.new.out.items;
      moves = up_to (at state line Free) (after_poll c.poll.new.out.items state line answer) (g.P.Pairs.journal c.args.pairs.now) (g.P.Pairs.journal c.poll.new.self)
          (entry.Poll c.poll.new.out.items answer) (poll_any state line c.poll.new.out.items answer c.requires.idle)
          (told_at (λ r. entry.Poll c.poll.new.out.items r) (g.P.Pairs.journal c.args.pairs.now) (g.P.Pairs.journal c.poll.new.self)
          (c.in-Err-Failed.is ∙ ap Err c.in-Err-Failed.field-0-is) c.poll.ensures.told);
    }

pub returns-in-Err-Memory-clause-legal : goal.returns-in-Err-Memory-clause-legal
returns-in-Err-Memory-clause-legal g c =
    let state = c.args.filter.now in
    let line = c.args.line.now in
    let answer : Result Polled WorldFault = Err Memory in
    stops_short (at state line Free) (after_poll c.poll.new.out.items state line answer) (g.P.Pairs.journal c.args.pairs.now) (g.P.Pairs.journal c.poll.new.self) true
    (entry.Poll c.poll.new.out.items answer) (poll_any state line c.poll.new.out.items answer c.requires.idle)
    (told_at (λ r. entry.Poll c.poll.new.out.items r) (g.P.Pairs.journal c.args.pairs.now) (g.P.Pairs.journal c.poll.new.self)
    (c.in-Err-Memory.is ∙ ap Err c.in-Err-Memory.field-0-is) c.poll.ensures.told)
