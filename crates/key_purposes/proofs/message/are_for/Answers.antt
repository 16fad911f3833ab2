use Rattle.std.proofs.Common.{◌∙◌, ap, rules}
use Rattle.std.proofs.lemmas.Iterator.{YieldsList-from_slice}
use Rattle.std.proofs.lemmas.Iterator.Search.{any_from_yields_List}
use Rattle.std.specs.List.{list_any}
use Rattle.key_purposes.specs.Messages.{Use, allows, seen}
use Rattle.key_purposes.proofs.message.are_for.Goals as goal

pub returns : goal.returns
returns c =
    any_from_yields_List (λ purpose. allows purpose (seen c.use_of-used.result)) _ _ _ c.any.ensures.ran (YieldsList-from_slice c.args.purposes.now c.iter.ensures.rest) (λ x b q k. search rules)
    ∙ ap (λ (used : Use). list_any (λ purpose. allows purpose used) c.args.purposes.now) c.use_of-used.ensures
