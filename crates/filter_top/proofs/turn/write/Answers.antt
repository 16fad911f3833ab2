use Rattle.std.proofs.Common.{refl, Ok, Err, Result, List, ap, subst, sym, ◌∙◌, true, Some, length}
use Rattle.world_ports.specs.Worlds.{TookWithin}
use Rattle.world_ports.specs.declared.answers.Wrote.{Wrote}
use Rattle.world_ports.specs.declared.answers.Wrote.TheVariants as wrote
use Rattle.world_ports.specs.declared.answers.WorldFault.{WorldFault}
use Rattle.world_ports.specs.declared.answers.WorldFault.TheVariants.{Failed, Memory}
use Rattle.pair_ports.specs.declared.entry.PairEntry.TheVariants as entry
use Rattle.filter_model.specs.declared.thing.Thing.{Thing}
use Rattle.filter_model.specs.Filters.{Took}
use Rattle.filter_model.specs.Answered.{Free, after_event, after_write, at, end_of}
use Rattle.filter_top.proofs.CallLemmas.{taken_is, write_any, write_some}
use Rattle.filter_top.proofs.MoveLemmas.{call_then, first_call, one_call, stops_short, stops_there, told_at}
use Rattle.filter_top.proofs.turn.write.Goals as goal

pub write-requires : goal.write-requires
write-requires g c = rw c.owed.ensures (write_some c.args.filter.now c.args.line.now c.args.pair c.args.side c.requires.next)

pub happen-requires-clause-fits : goal.happen-requires-clause-fits
happen-requires-clause-fits g c =
    let within = subst (λ r. TookWithin r (length c.owed.result.now)) (c.in-Ok-Took.is ∙ ap Ok c.in-Ok-Took.field-0-is) c.write.ensures.within in
    (c.requires.reached, (within.0, rw (← c.owed.ensures) within.1))

pub returns-in_default-clause-legal : goal.returns-in_default-clause-legal
returns-in_default-clause-legal g c =
    let state = c.args.filter.now in
    let line = c.args.line.now in
    let answer : Result Wrote WorldFault = Ok (wrote.Took c.in-Ok-Took.n) in
    stops_there (one_call (at state line Free) (after_write c.args.pair c.args.side state line answer) (g.P.Pairs.journal c.args.pairs.now) (g.P.Pairs.journal c.write.new.self)
    (entry.Write c.args.pair c.args.side c.owed.result.now answer) (write_any state line c.args.pair c.args.side c.owed.result.now answer c.requires.next c.requires.reached c.owed.ensures (taken_is c.owed.result.now c.in-Ok-Took.n
    (subst (λ r. TookWithin r (length c.owed.result.now)) (c.in-Ok-Took.is ∙ ap Ok c.in-Ok-Took.field-0-is) c.write.ensures.within)))
    (told_at (λ r. entry.Write c.args.pair c.args.side c.owed.result.now r) (g.P.Pairs.journal c.args.pairs.now) (g.P.Pairs.journal c.write.new.self)
    (c.in-Ok-Took.is ∙ ap Ok c.in-Ok-Took.field-0-is) c.write.ensures.told))

pub returns-in-Ok-clause-legal : goal.returns-in-Ok-clause-legal
returns-in-Ok-clause-legal g c =
    let state = c.args.filter.now in
    let line = c.args.line.now in
    let answer : Result Wrote WorldFault = Ok (wrote.Took c.in-Ok-Took.n) in
    call_then c.happen.result (at state line Free) (after_event (Took c.args.pair c.args.side c.in-Ok-Took.n) state c.send_back.new.self) (at c.happen.new.filter c.happen.new.line Free)
    (g.P.Pairs.journal c.args.pairs.now) (g.P.Pairs.journal c.write.new.self) (g.P.Pairs.journal c.happen.new.pairs) (entry.Write c.args.pair c.args.side c.owed.result.now answer)
    (write_any state line c.args.pair c.args.side c.owed.result.now answer c.requires.next c.requires.reached c.owed.ensures (taken_is c.owed.result.now c.in-Ok-Took.n
    (subst (λ r. TookWithin r (length c.owed.result.now)) (c.in-Ok-Took.is ∙ ap Ok c.in-Ok-Took.field-0-is) c.write.ensures.within)) ∙ ap (λ (l : List Thing). Some (after_event (Took c.args.pair c.args.side c.in-Ok-Took.n) state l)) (sym c.in-Ok.ensures))
    (told_at (λ r. entry.Write c.args.pair c.args.side c.owed.result.now r) (g.P.Pairs.journal c.args.pairs.now) (g.P.Pairs.journal c.write.new.self)
    (c.in-Ok-Took.is ∙ ap Ok c.in-Ok-Took.field-0-is) c.write.ensures.told)
    c.happen.ensures.legal

pub returns-in-Ok-NotNow-clause-legal : goal.returns-in-Ok-NotNow-clause-legal
returns-in-Ok-NotNow-clause-legal g c =
    let state = c.args.filter.now in
    let line = c.args.line.now in
    let answer : Result Wrote WorldFault = Ok wrote.NotNow in
    first_call (at state line Free) (at state c.remove.new.self Free) (g.P.Pairs.journal c.args.pairs.now) (g.P.Pairs.journal c.write.new.self)
    (entry.Write c.args.pair c.args.side c.owed.result.now answer) (write_any state line c.args.pair c.args.side c.owed.result.now answer c.requires.next c.requires.reached c.owed.ensures refl ∙ ap (λ (l : List Thing). Some (at state l Free)) (sym c.remove.ensures))
    (told_at (λ r. entry.Write c.args.pair c.args.side c.owed.result.now r) (g.P.Pairs.journal c.args.pairs.now) (g.P.Pairs.journal c.write.new.self)
    (c.in-Ok-NotNow.is ∙ ap Ok c.in-Ok-NotNow.field-0-is) c.write.ensures.told)

pub returns-in-Err-Failed-clause-legal : goal.returns-in-Err-Failed-clause-legal
returns-in-Err-Failed-clause-legal g c =
    let state = c.args.filter.now in
    let line = c.args.line.now in
    let answer : Result Wrote WorldFault = Err Failed in
    call_then c.end.result (at state line Free) (after_event (end_of c.args.side c.args.pair) state c.remove-in-Err-Failed.new.self) (at c.end.new.filter c.end.new.line Free)
    (g.P.Pairs.journal c.args.pairs.now) (g.P.Pairs.journal c.write.new.self) (g.P.Pairs.journal c.end.new.pairs) (entry.Write c.args.pair c.args.side c.owed.result.now answer)
    (write_any state line c.args.pair c.args.side c.owed.result.now answer c.requires.next c.requires.reached c.owed.ensures refl ∙ ap (λ (l : List Thing). Some (after_event (end_of c.args.side c.args.pair) state l)) (sym c.remove-in-Err-Failed.ensures))
    (told_at (λ r. entry.Write c.args.pair c.args.side c.owed.result.now r) (g.P.Pairs.journal c.args.pairs.now) (g.P.Pairs.journal c.write.new.self)
    (c.in-Err-Failed.is ∙ ap Err c.in-Err-Failed.field-0-is) c.write.ensures.told)
    c.end.ensures.legal

pub returns-in-Err-Memory-clause-legal : goal.returns-in-Err-Memory-clause-legal
returns-in-Err-Memory-clause-legal g c =
    let state = c.args.filter.now in
    let line = c.args.line.now in
    let answer : Result Wrote WorldFault = Err Memory in
    stops_short (at state line Free) (after_write c.args.pair c.args.side state line answer) (g.P.Pairs.journal c.args.pairs.now) (g.P.Pairs.journal c.write.new.self) true
    (entry.Write c.args.pair c.args.side c.owed.result.now answer) (write_any state line c.args.pair c.args.side c.owed.result.now answer c.requires.next c.requires.reached c.owed.ensures refl)
    (told_at (λ r. entry.Write c.args.pair c.args.side c.owed.result.now r) (g.P.Pairs.journal c.args.pairs.now) (g.P.Pairs.journal c.write.new.self)
    (c.in-Err-Memory.is ∙ ap Err c.in-Err-Memory.field-0-is) c.write.ensures.told)
