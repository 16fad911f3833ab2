use Rattle.std.proofs.Common.{sym}
use Rattle.wire_text.specs.Bounds.{longest_to_child}
use Rattle.wire_text.proofs.SplitLemmas.{split-bad, split-more}
use Rattle.replay_run.proofs.TallyLemmas.{first_shorter, first_whole}
use Rattle.replay_run.proofs.drill.counts.first_frame.Goals as goal

pub returns-in-Whole-clause-split : goal.returns-in-Whole-clause-split
returns-in-Whole-clause-split c =
    first_whole c.args.bytes.now c.in-Whole.body.now c.in-Whole.rest.now c.in-Whole.ensures.exact c.in-Whole.ensures.cut

pub returns-in-Whole-clause-smaller : goal.returns-in-Whole-clause-smaller
returns-in-Whole-clause-smaller c =
    first_shorter c.args.bytes.now c.in-Whole.body.now c.in-Whole.rest.now c.in-Whole.ensures.exact c.in-Whole.ensures.cut

pub returns-in-Bad-clause-split : goal.returns-in-Bad-clause-split
returns-in-Bad-clause-split c =
    split-bad longest_to_child c.args.bytes.now c.in-Bad.announced (sym c.in-Bad.ensures.exact)

pub returns-in-More-clause-split : goal.returns-in-More-clause-split
returns-in-More-clause-split c =
    split-more longest_to_child c.args.bytes.now (sym c.in-More.ensures.exact)
