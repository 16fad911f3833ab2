use Rattle.std.proofs.Common.{◌∙◌, ℕ, Option, ap, length, sym}
use Rattle.std.specs.List.{flat_map}
use Rattle.constraint_rec.specs.Constraints.{item_text}
use Rattle.constraint_rec.specs.Writing.{use_items}
use Rattle.add_rules.proofs.LengthLemmas.{length-uses}
use Rattle.add_rules.proofs.length.uses_len.Goals as goal

pub returns-in-Some : goal.returns-in-Some
returns-in-Some c =
    sym (ap (λ (uses : Option ℕ). length (flat_map item_text (use_items uses))) c.in-Some.is ∙ length-uses c.in-Some.field-0)
