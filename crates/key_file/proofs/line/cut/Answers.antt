use Rattle.std.proofs.Common.{◌≡◌, Some, position, arith, rules, tests}
use Rattle.std.proofs.lemmas.Grind.{common_steps}
use Rattle.std.proofs.lemmas.Iterator.{YieldsList-from_slice}
use Rattle.std.proofs.lemmas.Iterator.Search.{position_from_yields_List}
use Rattle.key_file.proofs.PartLemmas.{is_mark, parts-mark, parts-none}
use Rattle.key_file.proofs.line.cut.Goals as goal

pub returns-in-Some : goal.returns-in-Some
returns-in-Some c =
    let found = position_from_yields_List (is_mark c.args.mark) _ _ _ c.position.ensures.ran (YieldsList-from_slice c.args.text.now c.iter.ensures.rest) (λ x b q k. search (rules, tests)) in
    let at : position (is_mark c.args.mark) c.args.text.now ≡ Some c.in-Some.end = cc (found, c.in-Some.is) in
    grind (arith, common_steps, parts-mark c.args.mark c.args.text.now c.in-Some.end at)

pub returns-in-None : goal.returns-in-None
returns-in-None c =
    let found = position_from_yields_List (is_mark c.args.mark) _ _ _ c.position.ensures.ran (YieldsList-from_slice c.args.text.now c.iter.ensures.rest) (λ x b q k. search (rules, tests)) in
    parts-none c.args.mark c.args.text.now (cc (found, c.in-None.is))
