use Rattle.std.proofs.Common.{arith}
use Rattle.p256_multiples.proofs.TableLemmas.{chosen-is}
use Rattle.p256_multiples.proofs.table.BaseTable.of_sixteen.Goals as goal

pub returns : goal.returns
returns c =
    chosen-is c.args.digit.eights _ 8 _ _ _ _ _ _ c.requires.eights c.of_eight-low.ensures c.of_eight-high.ensures c.chosen.ensures
    (omega arith) (omega arith)
