use Rattle.std.proofs.Common.{arith, length-append, [], ◌∷◌}
use Rattle.wire_text.specs.Wire.{string}
use Rattle.wire_text.proofs.WireLemmas.{length-string}
use Rattle.constraint_rec.specs.Hops.{key_text}
use Rattle.constraint_rec.specs.Writing.{is_ca_byte, spelt_key}
use Rattle.constraint_rec.proofs.SizeLemmas.{piece_fits}
use Rattle.constraint_rec.proofs.write.put_keys.Goals as goal

pub put_key-requires : goal.put_key-requires
put_key-requires c =
    let k = c.key-item.result in
    let fits = piece_fits (λ key. key_text (spelt_key key)) c.args.keys.now c.loop-key.key-index k c.loop-key-test.true c.key-item.is in
    omega (arith, fits, length-append (string k.blob) (is_ca_byte k.authority ∷ []), length-string k.blob)
