use Rattle.std.proofs.Common.{arith}
use Rattle.secret_buf.proofs.BufferLemmas.{IsScrubbed-empty}
use Rattle.secret_buf.proofs.scrub_buf.make_tail.Goals as goal

pub returns-else-start-end-clause-scrubbed : goal.returns-else-start-end-clause-scrubbed
returns-else-start-end-clause-scrubbed c =
    IsScrubbed-empty _ _ _ c.requires.scrubbed (omega (arith, c.if-start-end.false))
