use Rattle.std.proofs.Common.{arith}
use Rattle.signer_keys.proofs.NumberLemmas.{filled-placed}
use Rattle.signer_keys.proofs.numbers.in_66_bytes.Goals as goal

pub returns : goal.returns
returns c =
    filled-placed 66 c.args.bytes.now c.copy_from_slice.new.self (omega (arith, c.if-bytes-gt66.false)) c.copy_from_slice.ensures.after
