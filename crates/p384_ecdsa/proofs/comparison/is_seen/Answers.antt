use Rattle.std.proofs.Common.{sym, ◌∙◌}
use Rattle.p384_ecdsa.proofs.EncodingLemmas.{seen-encoded}
use Rattle.p384_ecdsa.proofs.comparison.is_seen.Goals as goal

pub returns : goal.returns
returns c = λ z stands is.
    seen-encoded c.args.point.now z c.args.bytes.now c.encoding_at.result _ _ _ _ _ _ _ stands c.from_words-x.ensures c.from_words-y.ensures
    c.encoding_at.ensures c.if-ne.ensures c.zero.ensures c.if-equals.ensures c.mul.ensures c.if-not-equals.ensures c.mul-2.ensures
    (sym is ∙ c.equals-3.ensures)
