use Rattle.std.proofs.Common.{◌∙◌, Ok, Some, ◌+◌, List, ap, sym, drop, get_or, arith}
use Rattle.std.specs.Prelude.{is_err}
use Rattle.pair_ports.specs.declared.entry.PairEntry.TheVariants as entry
use Rattle.filter_model.specs.declared.thing.Thing.{Thing}
use Rattle.filter_model.specs.Answered.{Closing, Due, after_close, at, due_of}
use Rattle.filter_top.proofs.CallLemmas.{close_any, due-drop}
use Rattle.filter_top.proofs.MoveLemmas.{lands_at, moves_on, one_call, stops_later, stops_short}
use Rattle.filter_top.proofs.turn.close_all.Goals as goal

pub returns-in_default-clause-legal : goal.returns-in_default-clause-legal
returns-in_default-clause-legal g c =
    let state = c.args.filter.now in
    let line = c.closing.line in
    let items = c.closes-pair-items.result.now in
    let parts = c.args.filter.now.parts in
    let pair = get_or items c.closing.pair-index 0 in
    let later = drop (c.closing.pair-index + 1) items in
    let due = due-drop items parts c.closing.pair-index c.closing-test.true in
    let before = lands_at (at state line (due_of (drop c.closing.pair-index items) parts)) (at state line (Closing pair later parts))
    (ap (λ (d : Due). at state line d) due) c.closing.invariant.calls in
    stops_later before (stops_short (at state line (Closing pair later parts)) (after_close pair later parts state line c.close.result)
    (g.P.Pairs.journal c.closing.pairs) (g.P.Pairs.journal c.close.new.self) (is_err c.close.result) (entry.Close pair c.close.result)
    (close_any state line pair later parts c.close.result) c.close.ensures.told)

pub closing-preserved : goal.closing-preserved
closing-preserved g c =
    let state = c.args.filter.now in
    let line = c.closing.line in
    let items = c.closes-pair-items.result.now in
    let parts = c.args.filter.now.parts in
    let pair = get_or items c.closing.pair-index 0 in
    let later = drop (c.closing.pair-index + 1) items in
    let due = due-drop items parts c.closing.pair-index c.closing-test.true in
    let before = lands_at (at state line (due_of (drop c.closing.pair-index items) parts)) (at state line (Closing pair later parts))
    (ap (λ (d : Due). at state line d) due) c.closing.invariant.calls in
    record {
      calls = moves_on before (one_call (at state line (Closing pair later parts)) (at state c.close-in-closing.new.self (due_of later parts))
          (g.P.Pairs.journal c.closing.pairs) (g.P.Pairs.journal c.close.new.self) (entry.Close pair (Ok tt))
          (close_any state line pair later parts (Ok tt) ∙ ap (λ (l : List Thing). Some (at state l (due_of later parts))) (sym c.close-in-closing.ensures))
          c.in-Ok.ensures.told);
      pairs = c.close.ensures.pairs ∙ c.closing.invariant.pairs;
      later = omega (arith, c.close.ensures.cause, c.closing.invariant.later);
    }
