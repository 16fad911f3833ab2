use Rattle.std.proofs.Common.{ℕ, List, ap, length, arith}
use Rattle.wire_text.specs.Wire.{string}
use Rattle.wire_text.proofs.WireLemmas.{length-string}
use Rattle.key_purposes.specs.Purposes.{word_of}
use Rattle.key_purposes.specs.declared.purpose.Purpose.{Purpose}
use Rattle.add_rules.proofs.LengthLemmas.{one_more}
use Rattle.add_rules.proofs.length.words_len.Goals as goal

-- a purpose as a string
abbrev word_bytes : Purpose → List ℕ
word_bytes purpose = string (word_of purpose)

pub purposes-preserved : goal.purposes-preserved
purposes-preserved c =
    let purpose = c.purpose-item.result in
    let more = one_more word_bytes c.args.purposes.now c.purposes.purpose-index purpose c.purposes-test.true in
    let same = ap (λ (p : Purpose). length (word_bytes p)) c.purpose-item.is in
    omega (
      arith,
      more,
      same,
      length-string (word_of purpose),
      c.purposes.invariant,
      c.word_len.ensures,
      c.saturating_add.ensures,
      c.saturating_add-len.ensures,
    )
