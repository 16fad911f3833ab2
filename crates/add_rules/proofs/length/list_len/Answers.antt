use Rattle.std.proofs.Common.{List, ℕ, ap, length, arith, ◌∙◌}
use Rattle.constraint_rec.specs.declared.constraint.Constraint.{Constraint}
use Rattle.constraint_rec.specs.Hops.{constraint_text}
use Rattle.constraint_rec.specs.Writing.{spelt_constraint}
use Rattle.wire_text.proofs.WireLemmas.{length-string}
use Rattle.add_rules.specs.Lengths.{counted}
use Rattle.add_rules.proofs.LengthLemmas.{rule_bytes, list_of, one_more}
use Rattle.add_rules.proofs.length.list_len.Goals as goal

pub rules-preserved : goal.rules-preserved
rules-preserved c =
    let rule = c.rule-item.result in
    let more = one_more rule_bytes c.args.rules.now c.rules.rule-index rule c.rules-test.true in
    let same = ap (λ (r : Constraint). length (rule_bytes r)) c.rule-item.is in
    omega (
      arith,
      more,
      same,
      length-string (constraint_text (spelt_constraint rule)),
      c.rules.invariant,
      c.rule_len.ensures,
      c.saturating_add.ensures,
      c.saturating_add-len.ensures,
    )

pub returns : goal.returns
returns c = c.rules.invariant ∙ ap (λ (l : List ℕ). counted (length l)) (list_of c.args.rules.now c.rules.rule-index c.rules-test.false)
