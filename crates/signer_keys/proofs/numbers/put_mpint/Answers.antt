use Rattle.std.proofs.Common.{ap, arith, length}
use Rattle.signer_keys.proofs.NumberLemmas.{length-significant}
use Rattle.signer_keys.proofs.numbers.put_mpint.Goals as goal

pub put_signed-requires : goal.put_signed-requires
put_signed-requires c = omega (arith, ap length c.without_zeros.ensures, length-significant c.args.bytes.now, c.requires)
