use Rattle.std.proofs.Common.{arith}
use Rattle.p384_multiples.proofs.TableLemmas.{chosen-is}
use Rattle.p384_multiples.proofs.table.BaseTable.of_eight.Goals as goal

pub returns : goal.returns
returns c =
    chosen-is c.args.digit.fours _ 4 _ _ _ _ _ _ c.requires.fours c.of_four-low.ensures c.of_four-high.ensures c.chosen.ensures
    (omega arith) (omega arith)
