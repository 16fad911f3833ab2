use Rattle.std.proofs.Common.{rules, tests, ◌==◌}
use Rattle.std.proofs.lemmas.Iterator.Search.{any_from_yields_List}
use Rattle.std.proofs.lemmas.Iterator.Splits.{YieldsList-from_slice_split}
use Rattle.pattern_core.specs.PatternLists.{comma, lowered, accepts_host}
use Rattle.pattern_core.proofs.list.some_accepts.Goals as goal

pub returns : goal.returns
returns c =
    any_from_yields_List (λ element. accepts_host (lowered c.args.host.now) (lowered element)) _ _ _ c.any.ensures.ran
    (YieldsList-from_slice_split _ (λ byte. byte == comma) c.args.patterns.now c.split.ensures.rest c.split.ensures.done c.split.ensures.closure (λ x r q k. search (rules, tests)))
    (λ x b q k. search (rules, tests))
