use Rattle.std.proofs.Common.{◌≡◌, ◌-◌, ◌≤◌, ◌++◌, ℕ, List, Some, length}
use Rattle.add_core.specs.Passphrases.{first_line}
use Rattle.add_core.proofs.passphrase.read_line.Given as goal

-- what is read, and then the line that is left, is the line
abbrev pub invariant-bytes : goal.invariant-bytes
invariant-bytes g l = record {
  fits : length l.line.live ≤ 1025;
  read : (left : List ℕ) → (g.I.Stream.seen l.fn.input).left ≡ Some left
      → (rest : List ℕ) × ((g.I.Stream.seen l.input).left ≡ Some rest) × (first_line left ≡ l.line.live ++ first_line rest);
  later : (g.I.Stream.seen l.fn.input).read_faults ≤ (g.I.Stream.seen l.input).read_faults;
}

abbrev pub decreases-bytes : goal.decreases-bytes
decreases-bytes g l = 1025 - length l.line.live
