use Rattle.std.proofs.Common.{ℕ, List, ◌++◌, take}
use Rattle.hmac_core.specs.Hmac.{padded}
use Rattle.hmac_wide.specs.Hmac.{filled}
use Rattle.hmac_wide.proofs.block.add_block.Given as goal

-- the hasher has taken the block as far as the place
abbrev pub invariant-loop-place : goal.invariant-loop-place
invariant-loop-place g l =
    (message : List ℕ) → g.H.ByteHasher.holds l.fn.hasher message
    → g.H.ByteHasher.holds l.hasher (message ++ take l.place (padded l.pad (filled l.key)))
