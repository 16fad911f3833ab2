use Rattle.std.proofs.Common.{rules, tests}
use Rattle.std.proofs.lemmas.Iterator.{YieldsList-from_slice}
use Rattle.std.proofs.lemmas.Iterator.Search.{position_from_yields_List}
use Rattle.schedule_text.specs.Fields.{is_space}
use Rattle.schedule_text.proofs.fields.space.Goals as goal

pub returns : goal.returns
returns c =
    position_from_yields_List is_space _ _ _ c.position.ensures.ran (YieldsList-from_slice c.args.text.now c.iter.ensures.rest) (λ x b q k. search (rules, tests))
