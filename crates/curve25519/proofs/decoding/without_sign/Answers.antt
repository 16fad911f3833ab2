use Rattle.curve25519.proofs.DecodingLemmas.{low-part}
use Rattle.curve25519.proofs.decoding.without_sign.Goals as goal

pub returns : goal.returns
returns c =
    let fit = c.number.invariant in
    low-part _ _ _ _ _ fit.0 fit.1 fit.2 c.number.view_is
