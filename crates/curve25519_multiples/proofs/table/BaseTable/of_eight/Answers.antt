use Rattle.std.proofs.Common.{arith}
use Rattle.curve25519_multiples.proofs.TableLemmas.{chosen-is}
use Rattle.curve25519_multiples.proofs.table.BaseTable.of_eight.Goals as goal

pub returns : goal.returns
returns c =
    chosen-is c.args.digit.fours _ 4 _ _ _ _ _ _ c.requires.fours c.of_four-low.ensures c.of_four-high.ensures c.choice.ensures
    (omega arith) (omega arith)
