use Rattle.std.proofs.Common.{rules}
use Rattle.std.proofs.lemmas.Iterator.{YieldsList-from_slice}
use Rattle.std.proofs.lemmas.Iterator.Search.{any_from_yields_List}
use Rattle.key_purposes.specs.Purposes.{is_same}
use Rattle.key_purposes.proofs.reading.holds.Goals as goal

pub returns : goal.returns
returns c =
    any_from_yields_List (λ held. is_same held c.args.purpose.now) _ _ _ c.any.ensures.ran (YieldsList-from_slice c.args.purposes.now c.iter.ensures.rest) (λ x b q k. search rules)
