use Rattle.std.proofs.Common.{◌≡◌, ◌-◌, ◌≤◌, ◌++◌, ℕ, List, Some, length}
use Rattle.world_ports.specs.Streams.{OnlyReads}
use Rattle.add_core.proofs.hearing.read_first.Given as goal

-- what is read and what is left is what was left at the start
abbrev pub invariant-pieces : goal.invariant-pieces
invariant-pieces g l = record {
  fits : length l.bytes.items ≤ l.fn.count;
  read : (replies : List ℕ) → (g.S.Stream.seen l.fn.source).left ≡ Some replies
      → (rest : List ℕ) × ((g.S.Stream.seen l.source).left ≡ Some rest) × (replies ≡ l.bytes.items ++ rest);
  only : OnlyReads (g.S.Stream.seen l.fn.source) (g.S.Stream.seen l.source);
}

abbrev pub decreases-pieces : goal.decreases-pieces
decreases-pieces g l = l.count - length l.bytes.items
