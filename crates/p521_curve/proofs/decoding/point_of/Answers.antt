use Rattle.std.proofs.Common.{sym}
use Rattle.p521_curve.proofs.DecodingLemmas.{valid_point-off, valid_point-on, valid_point-x, valid_point-y}
use Rattle.p521_curve.proofs.decoding.point_of.Goals as goal

pub returns-then-not-is_below : goal.returns-then-not-is_below
returns-then-not-is_below c = valid_point-x _ _ _ c.prime-prime.ensures (sym c.if-not-is_below.ensures)

pub returns-then-not-is_below-2 : goal.returns-then-not-is_below-2
returns-then-not-is_below-2 c =
    valid_point-y _ _ _ c.prime-prime.ensures (sym c.if-not-is_below.ensures) (sym c.if-not-is_below-2.ensures)

pub returns-then-not-is_on_curve : goal.returns-then-not-is_on_curve
returns-then-not-is_on_curve c =
    valid_point-off _ _ _ _ _ c.prime-prime.ensures (sym c.if-not-is_below.ensures) (sym c.if-not-is_below-2.ensures)
    c.from_words-x.ensures c.from_words-y.ensures (sym c.if-not-is_on_curve.ensures)

pub returns : goal.returns
returns c =
    valid_point-on _ _ _ _ _ _ c.prime-prime.ensures (sym c.if-not-is_below.ensures) (sym c.if-not-is_below-2.ensures)
    c.from_words-x.ensures c.from_words-y.ensures (sym c.if-not-is_on_curve.ensures) c.at.ensures
