use Rattle.std.proofs.Common.{arith}
use Rattle.wire_text.specs.Wire.{string}
use Rattle.wire_text.proofs.WireLemmas.{length-string}
use Rattle.key_purposes.specs.Purposes.{word_of}
use Rattle.constraint_rec.proofs.SizeLemmas.{piece_fits}
use Rattle.constraint_rec.proofs.purposes.purposes_text.Goals as goal

pub put_purpose-requires : goal.put_purpose-requires
put_purpose-requires c =
    let purpose = c.purpose-item.result in
    let fits = piece_fits (λ p. string (word_of p)) c.args.purposes.now c.loop-purpose.purpose-index purpose c.loop-purpose-test.true c.purpose-item.is in
    omega (arith, fits, length-string (word_of purpose))
