use Rattle.std.proofs.Common.{◌<◌, length, arith}
use Rattle.std.proofs.lemmas.Bool.Decides.{nat_tests}
use Rattle.add_rules.proofs.LengthLemmas.{some_rules}
use Rattle.add_rules.proofs.length.rules_len.Goals as goal

pub returns : goal.returns
returns c =
    let some : 0 < length c.args.rules.now = grind (arith, nat_tests, c.is_empty.ensures) in
    omega (arith, some_rules c.args.rules.now some, c.list_len.ensures, c.saturating_add.ensures)
