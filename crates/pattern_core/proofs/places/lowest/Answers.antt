use Rattle.std.proofs.Common.{◌==◌, ap, arith, w64}
use Rattle.std.proofs.lemmas.Nat.Bits.{bit_at-trailing_zeros}
use Rattle.pattern_core.proofs.places.lowest.Goals as goal

pub returns-clause-there : goal.returns-clause-there
returns-clause-there c =
    let h = bit_at-trailing_zeros w64 c.args.places (omega (arith, c.requires)) c.ranges.places.fits in
    ap (λ n. n == 1) h.1

pub returns-clause-below : goal.returns-clause-below
returns-clause-below c k below =
    let h = bit_at-trailing_zeros w64 c.args.places (omega (arith, c.requires)) c.ranges.places.fits in
    ap (λ n. n == 1) (h.2 k below)
