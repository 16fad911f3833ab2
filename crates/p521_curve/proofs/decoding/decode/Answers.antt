use Rattle.p521_curve.proofs.DecodingLemmas.{decoded-other, decoded-point}
use Rattle.p521_curve.proofs.decoding.decode.Goals as goal

pub returns-then-bytes-ne4 : goal.returns-then-bytes-ne4
returns-then-bytes-ne4 c = decoded-other c.args.bytes.now c.if-bytes-ne4.true

pub returns : goal.returns
returns c =
    decoded-point c.args.bytes.now _ _ _ c.if-bytes-ne4.false c.from_bytes-x.ensures c.from_bytes-y.ensures c.point_of.ensures
