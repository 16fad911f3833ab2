use Rattle.std.proofs.Common.{◌≡◌, ◌∙◌, refl, ap, sym, true, false, is_some}
use Rattle.audit_core.proofs.AdvanceLemmas.{last_notes, line_ends, line_notes}
use Rattle.audit_core.proofs.lines.run_next.Goals as goal

pub returns-in_default : goal.returns-in_default
returns-in_default g c =
    last_notes g.W.Watch.Note g.W.Watch.notes_of c.args.run.now c.args.left.now c.run_last.new.run
    (g.W.Watch.notes c.args.watch.now) (g.W.Watch.notes c.run_last.new.watch)
    c.in_default.ensures c.in_ok-run_last.ensures.run c.in_ok-run_last.ensures.notes

pub returns-then-is_some : goal.returns-then-is_some
returns-then-is_some g c =
    let some : is_some c.turn.new.self.refused ≡ true = ap is_some (sym c.refused.ensures) ∙ sym c.if-is_some.ensures in
    line_ends c.args.run.now c.args.left.now c.in-Some.place c.in-Some.ensures c.turn.new.self c.in_ok-turn.ensures.run
    g.W.Watch.Note g.W.Watch.notes_of (g.W.Watch.notes c.args.watch.now) (g.W.Watch.notes c.turn.new.watch)
    c.in_ok-turn.ensures.notes c.turn.new.self.refused refl some

pub returns : goal.returns
returns g c =
    let none : is_some c.turn.new.self.refused ≡ false = ap is_some (sym c.refused.ensures) ∙ sym c.if-is_some.ensures in
    line_notes c.args.run.now c.args.left.now c.in-Some.place c.in-Some.ensures c.turn.new.self c.in_ok-turn.ensures.run
    g.W.Watch.Note g.W.Watch.notes_of (g.W.Watch.notes c.args.watch.now) (g.W.Watch.notes c.turn.new.watch)
    c.in_ok-turn.ensures.notes c.requires none
