use Rattle.std.proofs.Common.{arith}
use Rattle.signer_keys.proofs.NumberLemmas.{filled-placed}
use Rattle.signer_keys.proofs.numbers.in_48_bytes.Goals as goal

pub returns : goal.returns
returns c =
    filled-placed 48 c.args.bytes.now c.copy_from_slice.new.self (omega (arith, c.if-bytes-gt48.false)) c.copy_from_slice.ensures.after
