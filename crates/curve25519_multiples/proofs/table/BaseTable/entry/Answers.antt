use Rattle.std.proofs.Common.{arith}
use Rattle.curve25519_multiples.proofs.TableLemmas.{chosen-is}
use Rattle.curve25519_multiples.proofs.table.BaseTable.entry.Goals as goal

pub returns : goal.returns
returns c =
    chosen-is c.args.digit.sixteens _ 16 _ _ _ _ _ _ c.requires.sixteens c.of_sixteen-low.ensures c.of_sixteen-high.ensures c.choice.ensures
    (omega arith) (omega arith)
