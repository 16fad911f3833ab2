use Rattle.std.proofs.Common.{ap, arith, length}
use Rattle.signer_keys.proofs.NumberLemmas.{length-put}
use Rattle.signer_keys.proofs.numbers.signature_text.Goals as goal

pub returns-clause-sized : goal.returns-clause-sized
returns-clause-sized c =
    omega (
      arith,
      c.requires.algorithm,
      c.requires.bytes,
      ap length c.new-text.ensures.items,
      length-put c.new-text.result.items c.put_string.new.out.items c.args.algorithm.now c.in_ok-put_string.ensures.ok,
      length-put c.put_string.new.out.items c.put_string-2.new.out.items c.args.bytes.now c.in_ok-put_string-2.ensures.ok,
    )
