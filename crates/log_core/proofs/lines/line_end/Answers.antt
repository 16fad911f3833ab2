use Rattle.std.proofs.Common.{rules, tests}
use Rattle.std.proofs.lemmas.Iterator.{YieldsList-from_slice}
use Rattle.std.proofs.lemmas.Iterator.Search.{position_from_yields_List}
use Rattle.replay_run.specs.GoesOn.{is_lf}
use Rattle.replay_run.proofs.LineEnds.{lf_found}
use Rattle.log_core.proofs.lines.line_end.Goals as goal

pub returns : goal.returns
returns c =
    lf_found c.args.bytes.now c.position.result
    (position_from_yields_List is_lf _ _ _ c.position.ensures.ran (YieldsList-from_slice c.args.bytes.now c.iter.ensures.rest) (λ x b q k. search (rules, tests)))
