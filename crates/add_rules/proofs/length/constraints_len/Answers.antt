use Rattle.std.proofs.Common.{List, ap, length, arith, ◌∙◌}
use Rattle.std.specs.List.{flat_map}
use Rattle.constraint_rec.specs.declared.constraint.Constraint.{Constraint}
use Rattle.constraint_rec.specs.Constraints.{item_text}
use Rattle.constraint_rec.specs.Writing.{purpose_items, rule_items}
use Rattle.key_purposes.specs.declared.purpose.Purpose.{Purpose}
use Rattle.add_rules.specs.Lengths.{counted}
use Rattle.add_rules.proofs.LengthLemmas.{length-constraints, short_writable}
use Rattle.add_rules.proofs.length.constraints_len.Goals as goal

pub returns-clause-value : goal.returns-clause-value
returns-clause-value c =
    let rules = c.rules_len.ensures ∙ ap (λ (l : List Constraint). counted (length (flat_map item_text (rule_items l)))) c.as_slice.ensures in
    let purposes = c.purposes_len.ensures ∙ ap (λ (l : List Purpose). counted (length (flat_map item_text (purpose_items l)))) c.as_slice-2.ensures in
    omega (
      arith,
      rules,
      purposes,
      length-constraints c.args.terms.now,
      c.life_len.ensures,
      c.confirm_len.ensures,
      c.uses_len.ensures,
      c.saturating_add.ensures,
      c.saturating_add-2.ensures,
      c.saturating_add-3.ensures,
      c.saturating_add-4.ensures,
    )

pub returns-clause-writable : goal.returns-clause-writable
returns-clause-writable c = short_writable c.args.terms.now
