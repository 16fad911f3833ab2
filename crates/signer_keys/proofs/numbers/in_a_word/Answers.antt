use Rattle.std.proofs.Common.{arith}
use Rattle.signer_keys.proofs.NumberLemmas.{small-word}
use Rattle.signer_keys.proofs.numbers.in_a_word.Goals as goal

pub returns : goal.returns
returns c =
    small-word c.args.bytes.now c.from_octets.new.words (omega (arith, c.if-bytes-gt8.false)) c.from_octets.auto.words c.from_octets.ensures
