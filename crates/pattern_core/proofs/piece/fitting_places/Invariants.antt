use Rattle.std.proofs.Common.{◌≡◌, ◌+◌, ◌<◌, ◌≤◌, ◌&&◌, ℕ, true, length, drop}
use Rattle.pattern_core.specs.Letters.{read_text}
use Rattle.pattern_core.specs.Pieces.{fits, has_place}
use Rattle.pattern_core.proofs.piece.fitting_places.Given as goal

-- the piece fits at a place where that is left and what is left of the piece fits
abbrev pub invariant-loop-i : goal.invariant-loop-i
invariant-loop-i l = record {
  left : (k : ℕ) → k < 64 → k + length l.piece ≤ length l.text
      → fits (drop k (read_text l.case l.text)) (read_text l.case l.piece)
      ≡ (has_place l.places k && fits (drop (l.i + k) (read_text l.case l.text)) (drop l.i (read_text l.case l.piece)));
  within : (k : ℕ) → k < 64 → has_place l.places k ≡ true → k + length l.piece ≤ length l.text;
}
