use Rattle.std.proofs.Common.{List, ap, length, arith, ◌∙◌}
use Rattle.std.specs.List.{flat_map}
use Rattle.constraint_rec.specs.declared.key_spec.KeySpec.{KeySpec}
use Rattle.add_rules.specs.Lengths.{counted}
use Rattle.add_rules.proofs.LengthLemmas.{key_bytes, length-hop}
use Rattle.add_rules.proofs.length.hop_len.Goals as goal

pub returns : goal.returns
returns c =
    let keys = c.keys_len.ensures ∙ ap (λ (l : List KeySpec). counted (length (flat_map key_bytes l))) c.as_slice.ensures in
    omega (
      arith,
      keys,
      length-hop c.args.hop.now,
      c.len.ensures,
      c.len-2.ensures,
      c.saturating_add-texts.ensures,
      c.saturating_add.ensures,
      c.saturating_add-2.ensures,
    )
