use Rattle.std.proofs.Common.{arith, refl}
use Rattle.secret_buf.proofs.BufferLemmas.{count_fits, IsScrubbed-cleared, live-cleared}
use Rattle.secret_buf.proofs.scrub_buf.ScrubBuf.consume.Goals as goal

pub invariant_of-self : goal.invariant_of-self
invariant_of-self c =
    let fits = count_fits _ _ _ c.self.invariant _ _ c.self.view_is c.requires in
    rw c.clear.ensures (IsScrubbed-cleared _ _ _ c.self.invariant _ (omega arith) fits)

pub returns-clause-live : goal.returns-clause-live
returns-clause-live c =
    let fits = count_fits _ _ _ c.self.invariant _ _ c.self.view_is c.requires in
    rw (c.clear.ensures, ← c.self.view_is)
    (live-cleared _ _ _ c.self.invariant _ (omega arith) fits _ refl)
