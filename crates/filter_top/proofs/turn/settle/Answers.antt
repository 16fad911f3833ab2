use Rattle.std.proofs.Common.{[]}
use Rattle.filter_model.specs.Answered.{Free, at, due_of}
use Rattle.filter_top.proofs.MoveLemmas.{goes_stops, goes_then}
use Rattle.filter_top.proofs.turn.settle.Goals as goal

pub returns-in_default-clause-legal : goal.returns-in_default-clause-legal
returns-in_default-clause-legal g c =
    let state = c.args.filter.now in
    goes_stops c.close_all.result (at state c.args.line.now (due_of state.closes state.parts)) (at state c.close_all.new.line (due_of [] state.parts))
    (g.P.Pairs.journal c.args.pairs.now) (g.P.Pairs.journal c.close_all.new.pairs) c.close_all.ensures.legal

pub returns-clause-legal : goal.returns-clause-legal
returns-clause-legal g c =
    let state = c.args.filter.now in
    goes_then c.part_all.result (at state c.args.line.now (due_of state.closes state.parts)) (at state c.close_all.new.line (due_of [] state.parts)) (at state c.part_all.new.line Free)
    (g.P.Pairs.journal c.args.pairs.now) (g.P.Pairs.journal c.close_all.new.pairs) (g.P.Pairs.journal c.part_all.new.pairs)
    c.in-Ok.ensures.legal c.part_all.ensures.legal
