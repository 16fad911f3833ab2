use Rattle.std.proofs.Common.{ap, length, arith}
use Rattle.constraint_rec.specs.declared.key_spec.KeySpec.{KeySpec}
use Rattle.add_rules.proofs.LengthLemmas.{key_bytes, length-key, one_more}
use Rattle.add_rules.proofs.length.keys_len.Goals as goal

pub keys-preserved : goal.keys-preserved
keys-preserved c =
    let key = c.key-item.result in
    let more = one_more key_bytes c.args.keys.now c.keys.key-index key c.keys-test.true in
    let same = ap (λ (k : KeySpec). length (key_bytes k)) c.key-item.is in
    omega (arith, more, same, length-key key, c.keys.invariant, c.len.ensures, c.saturating_add.ensures, c.saturating_add-len.ensures)
