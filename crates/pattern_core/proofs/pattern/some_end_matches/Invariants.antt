use Rattle.std.proofs.Common.{◌≡◌, length}
use Rattle.pattern_core.specs.Letters.{read_text}
use Rattle.pattern_core.specs.Patterns.{some_end_is_match}
use Rattle.pattern_core.proofs.pattern.some_end_matches.Given as goal

-- what is left of the pattern takes in some end of what is left of the text as the whole does of the whole
abbrev pub invariant-pieces : goal.invariant-pieces
invariant-pieces l =
    some_end_is_match (read_text l.case l.text) (read_text l.case l.pattern)
    ≡ some_end_is_match (read_text l.case l.fn.text) (read_text l.case l.fn.pattern)

abbrev pub decreases-pieces : goal.decreases-pieces
decreases-pieces l = length l.pattern
