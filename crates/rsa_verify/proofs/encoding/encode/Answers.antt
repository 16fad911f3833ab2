use Rattle.std.proofs.Common.{arith}
use Rattle.rsa_verify.proofs.EncodingLemmas.{encoded-is}
use Rattle.rsa_verify.proofs.encoding.encode.Goals as goal

pub returns : goal.returns
returns c =
    encoded-is c.loop-octet.message.items _ _ c.args.info.now c.loop-octet._octet c.args.k c.loop-octet.invariant
    c.in_ok-push-4.ensures.items c.in_ok-extend_from_slice.ensures.items
    (omega (arith, c.loop-octet-test.false, c.loop-octet.auto._octet-end))
