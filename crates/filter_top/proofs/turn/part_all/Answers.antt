use Rattle.std.proofs.Common.{◌∙◌, [], Ok, Result, Some, ◌+◌, List, ap, sym, drop, get_or, arith}
use Rattle.std.specs.Prelude.{is_err}
use Rattle.std.specs.declared.alloc.AllocError.{AllocError}
use Rattle.pair_ports.specs.declared.entry.PairEntry.TheVariants as entry
use Rattle.filter_model.specs.declared.thing.Thing.{Thing}
use Rattle.filter_model.specs.Answered.{Due, Parting, after_disconnect, at, due_of}
use Rattle.filter_top.proofs.CallLemmas.{part-drop, part_any}
use Rattle.filter_top.proofs.MoveLemmas.{lands_at, moves_on, one_call, stops_later, stops_short, stops_there}
use Rattle.filter_top.proofs.turn.part_all.Goals as goal

pub returns-in_default-clause-legal : goal.returns-in_default-clause-legal
returns-in_default-clause-legal g c =
    let state = c.args.filter.now in
    let line = c.parting.line in
    let items = c.parts-pair-items.result.now in
    let pair = get_or items c.parting.pair-index 0 in
    let later = drop (c.parting.pair-index + 1) items in
    let due = part-drop items c.parting.pair-index c.parting-test.true in
    let before = lands_at (at state line (due_of [] (drop c.parting.pair-index items))) (at state line (Parting pair later))
    (ap (λ (d : Due). at state line d) due) c.parting.invariant.calls in
    stops_later before (stops_short (at state line (Parting pair later)) (after_disconnect pair later state line c.disconnect.result)
    (g.P.Pairs.journal c.parting.pairs) (g.P.Pairs.journal c.disconnect.new.self) (is_err c.disconnect.result) (entry.Disconnect pair c.disconnect.result)
    (part_any state line pair later c.disconnect.result) c.disconnect.ensures.told)

pub parting-preserved : goal.parting-preserved
parting-preserved g c =
    let state = c.args.filter.now in
    let line = c.parting.line in
    let items = c.parts-pair-items.result.now in
    let pair = get_or items c.parting.pair-index 0 in
    let later = drop (c.parting.pair-index + 1) items in
    let due = part-drop items c.parting.pair-index c.parting-test.true in
    let before = lands_at (at state line (due_of [] (drop c.parting.pair-index items))) (at state line (Parting pair later))
    (ap (λ (d : Due). at state line d) due) c.parting.invariant.calls in
    record {
      calls = moves_on before (one_call (at state line (Parting pair later)) (at state c.part.new.self (due_of [] later))
          (g.P.Pairs.journal c.parting.pairs) (g.P.Pairs.journal c.disconnect.new.self) (entry.Disconnect pair (Ok tt))
          (part_any state line pair later (Ok tt) ∙ ap (λ (l : List Thing). Some (at state l (due_of [] later))) (sym c.in-Ok-part.ensures))
          c.in-Ok.ensures.told);
      pairs = c.disconnect.ensures.pairs ∙ c.parting.invariant.pairs;
      later = omega (arith, c.disconnect.ensures.cause, c.parting.invariant.later);
    }

pub returns-in_default-part-clause-legal : goal.returns-in_default-part-clause-legal
returns-in_default-part-clause-legal g c =
    let state = c.args.filter.now in
    let line = c.parting.line in
    let items = c.parts-pair-items.result.now in
    let pair = get_or items c.parting.pair-index 0 in
    let later = drop (c.parting.pair-index + 1) items in
    let due = part-drop items c.parting.pair-index c.parting-test.true in
    let before = lands_at (at state line (due_of [] (drop c.parting.pair-index items))) (at state line (Parting pair later))
    (ap (λ (d : Due). at state line d) due) c.parting.invariant.calls in
    let answer : Result Unit AllocError = Ok tt in
    stops_later before (stops_there (one_call (at state line (Parting pair later)) (after_disconnect pair later state line answer)
    (g.P.Pairs.journal c.parting.pairs) (g.P.Pairs.journal c.disconnect.new.self) (entry.Disconnect pair answer)
    (part_any state line pair later answer) c.in-Ok.ensures.told))
