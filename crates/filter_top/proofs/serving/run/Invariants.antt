use Rattle.std.proofs.Common.{◌≡◌, ◌≤◌, length}
use Rattle.filter_model.specs.Answered.{Free, at}
use Rattle.world_ports.specs.Worlds.{read_room}
use Rattle.filter_top.specs.Moves.{Moves}
use Rattle.filter_top.proofs.serving.run.Given as goal

-- the calls so far may come
abbrev pub invariant-turns : goal.invariant-turns
invariant-turns g l =
    (goal.iterator-turns g).can_next l.iterator' × (goal.iterator-turns g).is_finite l.iterator'
    × Moves (at l.fn.filter l.fn.line Free) (g.P.Pairs.journal l.fn.pairs) (g.P.Pairs.journal l.pairs) (at l.filter l.line Free)
    × (g.P.Pairs.last_pair l.pairs ≡ l.filter.last_pair)
    × (length l.room ≡ read_room)
    × (g.P.Pairs.faults l.fn.pairs ≤ g.P.Pairs.faults l.pairs)
