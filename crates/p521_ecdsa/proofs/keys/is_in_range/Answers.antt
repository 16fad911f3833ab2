use Rattle.std.proofs.Common.{◌∙◌}
use Rattle.p521_ecdsa.proofs.KeyLemmas.{both-flags, in_range-made}
use Rattle.p521_ecdsa.proofs.keys.is_in_range.Goals as goal

pub returns : goal.returns
returns c =
    both-flags _ _
    ∙ in_range-made c.args.number.now _ _ _ _ c.zero.ensures c.order.ensures c.is_below-is_above.ensures c.is_below-is_below.ensures
