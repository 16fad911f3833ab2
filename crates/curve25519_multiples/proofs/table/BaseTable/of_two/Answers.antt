use Rattle.std.proofs.Common.{arith}
use Rattle.curve25519_multiples.proofs.TableLemmas.{chosen-is}
use Rattle.curve25519_multiples.proofs.table.BaseTable.of_two.Goals as goal

pub returns : goal.returns
returns c =
    chosen-is c.args.ones _ 1 _ _ _ _ _ _ c.requires.ones c.at-low.ensures c.at-high.ensures c.choice.ensures
    (omega arith) (omega arith)
