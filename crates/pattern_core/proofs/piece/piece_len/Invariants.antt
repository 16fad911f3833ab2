use Rattle.std.proofs.Common.{◌≢◌, ◌<◌, ℕ, get_or}
use Rattle.pattern_core.specs.Patterns.{star}
use Rattle.pattern_core.proofs.piece.piece_len.Given as goal

-- no byte so far is a `*`
abbrev pub invariant-loop-i : goal.invariant-loop-i
invariant-loop-i l = (k : ℕ) → k < l.i → get_or l.pattern k 0 ≢ star
