use Rattle.std.proofs.Common.{◌≡◌, ◌≤◌, drop}
use Rattle.filter_model.specs.Answered.{at, due_of}
use Rattle.filter_top.specs.Moves.{Moves}
use Rattle.filter_top.proofs.turn.close_all.Given as goal

-- the pairs from the index on are to be closed
abbrev pub invariant-closing : goal.invariant-closing
invariant-closing g l = record {
  calls : Moves (at l.filter l.fn.line (due_of l.filter.closes l.filter.parts))
      (g.P.Pairs.journal l.fn.pairs) (g.P.Pairs.journal l.pairs)
      (at l.filter l.line (due_of (drop l.pair-index l.pair-items) l.filter.parts));
  pairs : g.P.Pairs.last_pair l.pairs ≡ g.P.Pairs.last_pair l.fn.pairs;
  later : g.P.Pairs.faults l.fn.pairs ≤ g.P.Pairs.faults l.pairs;
}
