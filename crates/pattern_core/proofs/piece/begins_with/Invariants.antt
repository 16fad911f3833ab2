use Rattle.std.proofs.Common.{◌≡◌, drop}
use Rattle.pattern_core.specs.Letters.{read_text}
use Rattle.pattern_core.specs.Pieces.{fits}
use Rattle.pattern_core.proofs.piece.begins_with.Given as goal

-- what is left fits as the whole does
abbrev pub invariant-loop-i : goal.invariant-loop-i
invariant-loop-i l =
    fits (read_text l.case l.text) (read_text l.case l.piece)
    ≡ fits (drop l.i (read_text l.case l.text)) (drop l.i (read_text l.case l.piece))
