use Rattle.std.proofs.Common.{arith}
use Rattle.curve25519_multiples.proofs.TableLemmas.{chosen-is}
use Rattle.curve25519_multiples.proofs.table.BaseTable.of_four.Goals as goal

pub returns : goal.returns
returns c =
    chosen-is c.args.digit.twos _ 2 _ _ _ _ _ _ c.requires.twos c.of_two-low.ensures c.of_two-high.ensures c.choice.ensures
    (omega arith) (omega arith)
