use Rattle.std.proofs.Common.{◌∙◌, ℕ, Option, ap, length, sym}
use Rattle.std.specs.List.{flat_map}
use Rattle.constraint_rec.specs.Constraints.{item_text}
use Rattle.constraint_rec.specs.Writing.{life_items}
use Rattle.add_rules.proofs.LengthLemmas.{length-life}
use Rattle.add_rules.proofs.length.life_len.Goals as goal

pub returns-in-Some : goal.returns-in-Some
returns-in-Some c =
    sym (ap (λ (life : Option ℕ). length (flat_map item_text (life_items life))) c.in-Some.is ∙ length-life c.in-Some.field-0)
