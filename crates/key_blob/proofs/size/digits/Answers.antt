use Rattle.key_blob.proofs.TypeLemmas.{digits_of-from}
use Rattle.key_blob.proofs.size.digits.Goals as goal

pub returns-then-byte-ne0 : goal.returns-then-byte-ne0
returns-then-byte-ne0 c =
    rw c.from.ensures (digits_of-from c.args.bytes.now c.loop-i.i _ c.loop-i-test.true c.if-byte-ne0.true c.loop-i.invariant)
