use Rattle.std.proofs.Common.{◌≡◌, ◌+◌, ◌-◌, ◌<◌, ◌≤◌, ℕ, false, length, drop}
use Rattle.pattern_core.specs.Letters.{read_text}
use Rattle.pattern_core.specs.Pieces.{fits}
use Rattle.pattern_core.proofs.piece.find_piece.Given as goal

-- the piece fits at no place before this one
abbrev pub invariant-blocks-2 : goal.invariant-blocks-2
invariant-blocks-2 l = record {
  within : l.start ≤ length l.text;
  none : (k : ℕ) → k < l.start → k + length l.piece ≤ length l.text
      → fits (drop k (read_text l.case l.text)) (read_text l.case l.piece) ≡ false;
}

abbrev pub decreases-blocks-2 : goal.decreases-blocks-2
decreases-blocks-2 l = length l.text - l.start
