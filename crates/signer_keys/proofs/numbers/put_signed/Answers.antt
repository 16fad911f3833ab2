use Rattle.std.proofs.Common.{arith}
use Rattle.signer_keys.proofs.NumberLemmas.{length-put, on_ok}
use Rattle.signer_keys.proofs.numbers.put_signed.Goals as goal

pub returns-in_default-clause-sized : goal.returns-in_default-clause-sized
returns-in_default-clause-sized c =
    on_ok c.put_string.result c.put_string.ensures.ok (λ is.
    omega (arith, c.requires, length-put c.args.out.now.items c.put_string.new.out.items c.args.bytes.now is))
