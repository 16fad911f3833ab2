use Rattle.std.proofs.Common.{◌∙◌, sym, arith}
use Rattle.wide_words.proofs.ByteLemmas.{bits_to_int-all}
use Rattle.p384_ecdsa.proofs.nonce.leftmost_bits.Goals as goal

pub returns : goal.returns
returns c = c.from_bytes.ensures ∙ sym (bits_to_int-all 384 c.args.bytes.now (omega (arith, c.told-bytes)))
