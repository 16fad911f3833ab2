use Rattle.std.proofs.Common.{arith}
use Rattle.p521_multiples.proofs.TableLemmas.{chosen-is}
use Rattle.p521_multiples.proofs.table.BaseTable.of_two.Goals as goal

pub returns : goal.returns
returns c =
    chosen-is c.args.ones _ 1 _ _ _ _ _ _ c.requires.ones c.at-low.ensures c.at-high.ensures c.chosen.ensures
    (omega arith) (omega arith)
