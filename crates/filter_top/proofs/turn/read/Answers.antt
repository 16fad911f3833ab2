use Rattle.std.proofs.Common.{ℕ, refl, Ok, Err, Result, List, [], ap, subst, sym, ◌∙◌, true, Some, length, take, arith}
use Rattle.std.proofs.lemmas.List.{length-take}
use Rattle.wire_text.specs.Wire.{IsBytes}
use Rattle.world_ports.specs.Journal.{got_of}
use Rattle.world_ports.specs.Worlds.{GotWithin}
use Rattle.world_ports.specs.declared.answers.Got.{Got}
use Rattle.world_ports.specs.declared.answers.Got.TheVariants as got
use Rattle.world_ports.specs.declared.answers.WorldFault.{WorldFault}
use Rattle.world_ports.specs.declared.answers.WorldFault.TheVariants.{Failed, Memory}
use Rattle.pair_ports.specs.declared.entry.PairEntry.TheVariants as entry
use Rattle.filter_model.specs.declared.thing.Thing.{Thing}
use Rattle.filter_model.specs.Filters.{Heard}
use Rattle.filter_model.specs.Answered.{Free, after_event, after_read, at, end_of}
use Rattle.filter_top.proofs.CallLemmas.{got_is, read_any, read_reached}
use Rattle.filter_top.proofs.MoveLemmas.{call_then, first_call, one_call, stops_short, stops_there, told_at}
use Rattle.filter_top.proofs.turn.read.Goals as goal

pub happen-heard-requires-clause-fits : goal.happen-heard-requires-clause-fits
happen-heard-requires-clause-fits g c =
    let within = subst (λ r. GotWithin r (length c.args.room.now)) (c.in-Ok-Bytes.is ∙ ap Ok c.in-Ok-Bytes.field-0-is) c.read.ensures.within in (
      read_reached c.args.filter.now c.args.line.now c.args.pair c.args.side c.requires.next,
      rw c.front_of-piece.ensures.front (omega (arith, length-take c.in-Ok-Bytes.n c.read.new.room, within.0, within.1)),
    )

pub end-requires-clause-reached : goal.end-requires-clause-reached
end-requires-clause-reached g c = read_reached c.args.filter.now c.args.line.now c.args.pair c.args.side c.requires.next

pub end-requires-in-Err-Failed-clause-reached : goal.end-requires-in-Err-Failed-clause-reached
end-requires-in-Err-Failed-clause-reached g c = read_reached c.args.filter.now c.args.line.now c.args.pair c.args.side c.requires.next

pub returns-in_default-clause-legal : goal.returns-in_default-clause-legal
returns-in_default-clause-legal g c =
    let state = c.args.filter.now in
    let line = c.args.line.now in
    let answer : Result Got WorldFault = Ok (got.Bytes c.in-Ok-Bytes.n) in
    let within = subst (λ r. GotWithin r (length c.args.room.now)) (c.in-Ok-Bytes.is ∙ ap Ok c.in-Ok-Bytes.field-0-is) c.read.ensures.within in
    let bytes = take c.in-Ok-Bytes.n c.read.new.room in
    let small = subst IsBytes c.front_of-piece.ensures.front c.front_of-piece.ensures.bytes in
    stops_there (one_call (at state line Free) (after_read c.args.pair c.args.side bytes state line answer) (g.P.Pairs.journal c.args.pairs.now) (g.P.Pairs.journal c.read.new.self)
    (entry.Read c.args.pair c.args.side (length c.args.room.now) bytes answer) (read_any state line c.args.pair c.args.side (length c.args.room.now) bytes answer c.requires.next c.requires.room (got_is (length c.args.room.now) c.in-Ok-Bytes.n bytes (omega (arith, length-take c.in-Ok-Bytes.n c.read.new.room, within.1)) within small))
    (told_at (λ r. entry.Read c.args.pair c.args.side (length c.args.room.now) (got_of r c.read.new.room) r) (g.P.Pairs.journal c.args.pairs.now) (g.P.Pairs.journal c.read.new.self)
    (c.in-Ok-Bytes.is ∙ ap Ok c.in-Ok-Bytes.field-0-is) c.read.ensures.told))

pub returns-in-Ok-clause-legal : goal.returns-in-Ok-clause-legal
returns-in-Ok-clause-legal g c =
    let state = c.args.filter.now in
    let line = c.args.line.now in
    let answer : Result Got WorldFault = Ok (got.Bytes c.in-Ok-Bytes.n) in
    let within = subst (λ r. GotWithin r (length c.args.room.now)) (c.in-Ok-Bytes.is ∙ ap Ok c.in-Ok-Bytes.field-0-is) c.read.ensures.within in
    let bytes = take c.in-Ok-Bytes.n c.read.new.room in
    let small = subst IsBytes c.front_of-piece.ensures.front c.front_of-piece.ensures.bytes in
    call_then c.happen-heard.result (at state line Free) (after_event (Heard c.args.pair c.args.side c.front_of-piece.result.now) state c.send_back.new.self) (at c.happen-heard.new.filter c.happen-heard.new.line Free)
    (g.P.Pairs.journal c.args.pairs.now) (g.P.Pairs.journal c.read.new.self) (g.P.Pairs.journal c.happen-heard.new.pairs) (entry.Read c.args.pair c.args.side (length c.args.room.now) bytes answer)
    (read_any state line c.args.pair c.args.side (length c.args.room.now) bytes answer c.requires.next c.requires.room (got_is (length c.args.room.now) c.in-Ok-Bytes.n bytes (omega (arith, length-take c.in-Ok-Bytes.n c.read.new.room, within.1)) within small) ∙ ap (λ (l : List Thing). Some (after_event (Heard c.args.pair c.args.side bytes) state l)) (sym c.in-Ok.ensures)
    ∙ ap (λ (b : List ℕ). Some (after_event (Heard c.args.pair c.args.side b) state c.send_back.new.self)) (sym c.front_of-piece.ensures.front))
    (told_at (λ r. entry.Read c.args.pair c.args.side (length c.args.room.now) (got_of r c.read.new.room) r) (g.P.Pairs.journal c.args.pairs.now) (g.P.Pairs.journal c.read.new.self)
    (c.in-Ok-Bytes.is ∙ ap Ok c.in-Ok-Bytes.field-0-is) c.read.ensures.told)
    c.happen-heard.ensures.legal

pub returns-in-Ok-End-clause-legal : goal.returns-in-Ok-End-clause-legal
returns-in-Ok-End-clause-legal g c =
    let state = c.args.filter.now in
    let line = c.args.line.now in
    let answer : Result Got WorldFault = Ok got.End in
    call_then c.end.result (at state line Free) (after_event (end_of c.args.side c.args.pair) state c.remove.new.self) (at c.end.new.filter c.end.new.line Free)
    (g.P.Pairs.journal c.args.pairs.now) (g.P.Pairs.journal c.read.new.self) (g.P.Pairs.journal c.end.new.pairs) (entry.Read c.args.pair c.args.side (length c.args.room.now) [] answer)
    (read_any state line c.args.pair c.args.side (length c.args.room.now) [] answer c.requires.next c.requires.room refl ∙ ap (λ (l : List Thing). Some (after_event (end_of c.args.side c.args.pair) state l)) (sym c.remove.ensures))
    (told_at (λ r. entry.Read c.args.pair c.args.side (length c.args.room.now) (got_of r c.read.new.room) r) (g.P.Pairs.journal c.args.pairs.now) (g.P.Pairs.journal c.read.new.self)
    (c.in-Ok-End.is ∙ ap Ok c.in-Ok-End.field-0-is) c.read.ensures.told)
    c.end.ensures.legal

pub returns-in-Err-Failed-clause-legal : goal.returns-in-Err-Failed-clause-legal
returns-in-Err-Failed-clause-legal g c =
    let state = c.args.filter.now in
    let line = c.args.line.now in
    let answer : Result Got WorldFault = Err Failed in
    call_then c.end-in-Err-Failed.result (at state line Free) (after_event (end_of c.args.side c.args.pair) state c.remove-in-Err-Failed.new.self) (at c.end-in-Err-Failed.new.filter c.end-in-Err-Failed.new.line Free)
    (g.P.Pairs.journal c.args.pairs.now) (g.P.Pairs.journal c.read.new.self) (g.P.Pairs.journal c.end-in-Err-Failed.new.pairs) (entry.Read c.args.pair c.args.side (length c.args.room.now) [] answer)
    (read_any state line c.args.pair c.args.side (length c.args.room.now) [] answer c.requires.next c.requires.room refl ∙ ap (λ (l : List Thing). Some (after_event (end_of c.args.side c.args.pair) state l)) (sym c.remove-in-Err-Failed.ensures))
    (told_at (λ r. entry.Read c.args.pair c.args.side (length c.args.room.now) (got_of r c.read.new.room) r) (g.P.Pairs.journal c.args.pairs.now) (g.P.Pairs.journal c.read.new.self)
    (c.in-Err-Failed.is ∙ ap Err c.in-Err-Failed.field-0-is) c.read.ensures.told)
    c.end-in-Err-Failed.ensures.legal

pub returns-in-Ok-NotNow-clause-legal : goal.returns-in-Ok-NotNow-clause-legal
returns-in-Ok-NotNow-clause-legal g c =
    let state = c.args.filter.now in
    let line = c.args.line.now in
    let answer : Result Got WorldFault = Ok got.NotNow in
    first_call (at state line Free) (at state c.remove-in-Ok-NotNow.new.self Free) (g.P.Pairs.journal c.args.pairs.now) (g.P.Pairs.journal c.read.new.self)
    (entry.Read c.args.pair c.args.side (length c.args.room.now) [] answer) (read_any state line c.args.pair c.args.side (length c.args.room.now) [] answer c.requires.next c.requires.room refl ∙ ap (λ (l : List Thing). Some (at state l Free)) (sym c.remove-in-Ok-NotNow.ensures))
    (told_at (λ r. entry.Read c.args.pair c.args.side (length c.args.room.now) (got_of r c.read.new.room) r) (g.P.Pairs.journal c.args.pairs.now) (g.P.Pairs.journal c.read.new.self)
    (c.in-Ok-NotNow.is ∙ ap Ok c.in-Ok-NotNow.field-0-is) c.read.ensures.told)

pub returns-in-Err-Memory-clause-legal : goal.returns-in-Err-Memory-clause-legal
returns-in-Err-Memory-clause-legal g c =
    let state = c.args.filter.now in
    let line = c.args.line.now in
    let answer : Result Got WorldFault = Err Memory in
    stops_short (at state line Free) (after_read c.args.pair c.args.side [] state line answer) (g.P.Pairs.journal c.args.pairs.now) (g.P.Pairs.journal c.read.new.self) true
    (entry.Read c.args.pair c.args.side (length c.args.room.now) [] answer) (read_any state line c.args.pair c.args.side (length c.args.room.now) [] answer c.requires.next c.requires.room refl)
    (told_at (λ r. entry.Read c.args.pair c.args.side (length c.args.room.now) (got_of r c.read.new.room) r) (g.P.Pairs.journal c.args.pairs.now) (g.P.Pairs.journal c.read.new.self)
    (c.in-Err-Memory.is ∙ ap Err c.in-Err-Memory.field-0-is) c.read.ensures.told)
