use Rattle.std.proofs.Common.{◌≡◌, ◌++◌, ap, sym, ◌∙◌, List}
use Rattle.std.specs.List.{flat_map}
use Rattle.constraint_rec.specs.declared.constraint.Constraint.{Constraint}
use Rattle.constraint_rec.specs.Constraints.{item_text}
use Rattle.constraint_rec.specs.Writing.{life_items, confirm_items, use_items, rule_items, purpose_items}
use Rattle.key_purposes.specs.declared.purpose.Purpose.{Purpose}
use Rattle.constraint_rec.proofs.SizeLemmas.{five_parts}
use Rattle.constraint_rec.proofs.WritingLemmas.{constraints_in_parts}
use Rattle.constraint_rec.proofs.write.constraints_text.Goals as goal

pub returns-clause-ok : goal.returns-clause-ok
returns-clause-ok c =
    let terms = c.args.terms.now in
    let rules : c.put_rules.new.out.items ≡ c.put_uses.new.out.items ++ flat_map item_text (rule_items terms.rules) =
    c.in_ok-put_rules.ensures ∙ ap (λ (list : List Constraint). c.put_uses.new.out.items ++ flat_map item_text (rule_items list)) c.as_slice.ensures in
    let purposes : c.put_purposes.new.out.items ≡ c.put_rules.new.out.items ++ flat_map item_text (purpose_items terms.purposes) =
    c.in_ok-put_purposes.ensures ∙ ap (λ (list : List Purpose). c.put_rules.new.out.items ++ flat_map item_text (purpose_items list)) c.as_slice-2.ensures in
    five_parts c.new-text.result.items c.put_life.new.out.items c.put_confirm.new.out.items c.put_uses.new.out.items c.put_rules.new.out.items c.put_purposes.new.out.items
    (flat_map item_text (life_items terms.life)) (flat_map item_text (confirm_items terms.confirm)) (flat_map item_text (use_items terms.uses)) (flat_map item_text (rule_items terms.rules)) (flat_map item_text (purpose_items terms.purposes))
    c.new-text.ensures.items c.in_ok-put_life.ensures.ok c.in_ok-put_confirm.ensures c.in_ok-put_uses.ensures rules purposes
    ∙ sym (constraints_in_parts terms)

pub put_purposes-requires : goal.put_purposes-requires
put_purposes-requires c = rw c.as_slice-2.ensures c.requires.purposes
