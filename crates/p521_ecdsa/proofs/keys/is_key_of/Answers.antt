use Rattle.std.proofs.Common.{◌∙◌, refl, sym}
use Rattle.p521_ecdsa.proofs.EncodingLemmas.{bytes-differ, bytes-same}
use Rattle.p521_ecdsa.proofs.KeyLemmas.{has-base-multiple, in_range-within, public_key-is}
use Rattle.p521_ecdsa.proofs.keys.is_key_of.Goals as goal

pub multiple-point-requires : goal.multiple-point-requires
multiple-point-requires c = in_range-within _ c.requires

pub returns-then-is_seen-clause-same : goal.returns-then-is_seen-clause-same
returns-then-is_seen-clause-same c = λ is.
    let made = has-base-multiple c.args.d.now in
    c.if-is_seen.ensures made.q (c.multiple-point.ensures.stands made.q made.is) refl ∙ c.multiple-point.ensures.encoded
    ∙ public_key-is c.args.d.now

pub returns-clause-same : goal.returns-clause-same
returns-clause-same c = λ is.
    bytes-same c.encode.result _ _ (c.encode.ensures ∙ c.multiple-point.ensures.encoded ∙ public_key-is c.args.d.now) (sym is ∙ c.eq.ensures)

pub returns-clause-other : goal.returns-clause-other
returns-clause-other c = λ is same.
    bytes-differ c.encode.result _ _ (c.encode.ensures ∙ c.multiple-point.ensures.encoded ∙ public_key-is c.args.d.now) (sym is ∙ c.eq.ensures) same
