use Rattle.std.proofs.Common.{Ok, Err, Result, List, ap, sym, ◌∙◌, true, Some}
use Rattle.world_ports.specs.declared.answers.WorldFault.{WorldFault}
use Rattle.world_ports.specs.declared.answers.WorldFault.TheVariants.{Failed, Memory}
use Rattle.pair_ports.specs.declared.entry.Linked.{Linked}
use Rattle.pair_ports.specs.declared.entry.Linked.TheVariants as linked
use Rattle.pair_ports.specs.declared.entry.PairEntry.TheVariants as entry
use Rattle.pair_ports.specs.declared.side.Side.TheVariants.{Upstream}
use Rattle.filter_model.specs.declared.thing.Thing.{Thing}
use Rattle.filter_model.specs.Filters.{Connected, Ended}
use Rattle.filter_model.specs.Answered.{Free, after_connect, after_event, at}
use Rattle.filter_top.proofs.CallLemmas.{connect_any, connected_fits, write_open}
use Rattle.filter_top.proofs.MoveLemmas.{call_then, first_call, one_call, stops_short, stops_there, told_at}
use Rattle.filter_top.proofs.turn.connect.Goals as goal

pub happen-requires-clause-fits : goal.happen-requires-clause-fits
happen-requires-clause-fits g c = connected_fits c.args.filter.now c.args.line.now c.args.pair c.requires.next c.requires.apart

pub happen-requires-in-Err-Failed-clause-fits : goal.happen-requires-in-Err-Failed-clause-fits
happen-requires-in-Err-Failed-clause-fits g c = write_open c.args.filter.now c.args.line.now c.args.pair Upstream c.requires.next

pub returns-in_default-clause-legal : goal.returns-in_default-clause-legal
returns-in_default-clause-legal g c =
    let state = c.args.filter.now in
    let line = c.args.line.now in
    let answer : Result Linked WorldFault = Ok linked.Made in
    stops_there (one_call (at state line Free) (after_connect c.args.pair state line answer) (g.P.Pairs.journal c.args.pairs.now) (g.P.Pairs.journal c.connect.new.self)
    (entry.Connect c.args.pair answer) (connect_any state line c.args.pair answer c.requires.next c.requires.apart)
    (told_at (λ r. entry.Connect c.args.pair r) (g.P.Pairs.journal c.args.pairs.now) (g.P.Pairs.journal c.connect.new.self)
    (c.in-Ok-Made.is ∙ ap Ok c.in-Ok-Made.field-0-is) c.connect.ensures.told))

pub returns-in-Ok-clause-legal : goal.returns-in-Ok-clause-legal
returns-in-Ok-clause-legal g c =
    let state = c.args.filter.now in
    let line = c.args.line.now in
    let answer : Result Linked WorldFault = Ok linked.Made in
    call_then c.happen.result (at state line Free) (after_event (Connected c.args.pair) state c.send_back.new.self) (at c.happen.new.filter c.happen.new.line Free)
    (g.P.Pairs.journal c.args.pairs.now) (g.P.Pairs.journal c.connect.new.self) (g.P.Pairs.journal c.happen.new.pairs) (entry.Connect c.args.pair answer)
    (connect_any state line c.args.pair answer c.requires.next c.requires.apart ∙ ap (λ (l : List Thing). Some (after_event (Connected c.args.pair) state l)) (sym c.in-Ok.ensures))
    (told_at (λ r. entry.Connect c.args.pair r) (g.P.Pairs.journal c.args.pairs.now) (g.P.Pairs.journal c.connect.new.self)
    (c.in-Ok-Made.is ∙ ap Ok c.in-Ok-Made.field-0-is) c.connect.ensures.told)
    c.happen.ensures.legal

pub returns-in-Ok-NotNow-clause-legal : goal.returns-in-Ok-NotNow-clause-legal
returns-in-Ok-NotNow-clause-legal g c =
    let state = c.args.filter.now in
    let line = c.args.line.now in
    let answer : Result Linked WorldFault = Ok linked.NotNow in
    first_call (at state line Free) (at state c.remove.new.self Free) (g.P.Pairs.journal c.args.pairs.now) (g.P.Pairs.journal c.connect.new.self)
    (entry.Connect c.args.pair answer) (connect_any state line c.args.pair answer c.requires.next c.requires.apart ∙ ap (λ (l : List Thing). Some (at state l Free)) (sym c.remove.ensures))
    (told_at (λ r. entry.Connect c.args.pair r) (g.P.Pairs.journal c.args.pairs.now) (g.P.Pairs.journal c.connect.new.self)
    (c.in-Ok-NotNow.is ∙ ap Ok c.in-Ok-NotNow.field-0-is) c.connect.ensures.told)

pub returns-in-Err-Failed-clause-legal : goal.returns-in-Err-Failed-clause-legal
returns-in-Err-Failed-clause-legal g c =
    let state = c.args.filter.now in
    let line = c.args.line.now in
    let answer : Result Linked WorldFault = Err Failed in
    call_then c.happen-in-Err-Failed.result (at state line Free) (after_event (Ended c.args.pair) state c.remove-in-Err-Failed.new.self) (at c.happen-in-Err-Failed.new.filter c.happen-in-Err-Failed.new.line Free)
    (g.P.Pairs.journal c.args.pairs.now) (g.P.Pairs.journal c.connect.new.self) (g.P.Pairs.journal c.happen-in-Err-Failed.new.pairs) (entry.Connect c.args.pair answer)
    (connect_any state line c.args.pair answer c.requires.next c.requires.apart ∙ ap (λ (l : List Thing). Some (after_event (Ended c.args.pair) state l)) (sym c.remove-in-Err-Failed.ensures))
    (told_at (λ r. entry.Connect c.args.pair r) (g.P.Pairs.journal c.args.pairs.now) (g.P.Pairs.journal c.connect.new.self)
    (c.in-Err-Failed.is ∙ ap Err c.in-Err-Failed.field-0-is) c.connect.ensures.told)
    c.happen-in-Err-Failed.ensures.legal

pub returns-in-Err-Memory-clause-legal : goal.returns-in-Err-Memory-clause-legal
returns-in-Err-Memory-clause-legal g c =
    let state = c.args.filter.now in
    let line = c.args.line.now in
    let answer : Result Linked WorldFault = Err Memory in
    stops_short (at state line Free) (after_connect c.args.pair state line answer) (g.P.Pairs.journal c.args.pairs.now) (g.P.Pairs.journal c.connect.new.self) true
    (entry.Connect c.args.pair answer) (connect_any state line c.args.pair answer c.requires.next c.requires.apart)
    (told_at (λ r. entry.Connect c.args.pair r) (g.P.Pairs.journal c.args.pairs.now) (g.P.Pairs.journal c.connect.new.self)
    (c.in-Err-Memory.is ∙ ap Err c.in-Err-Memory.field-0-is) c.connect.ensures.told)
