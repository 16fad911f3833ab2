use Rattle.std.proofs.Common.{◌<◌, length, arith}
use Rattle.std.proofs.lemmas.Bool.Decides.{nat_tests}
use Rattle.add_rules.proofs.LengthLemmas.{some_purposes}
use Rattle.add_rules.proofs.length.purposes_len.Goals as goal

pub returns : goal.returns
returns c =
    let some : 0 < length c.args.purposes.now = grind (arith, nat_tests, c.is_empty.ensures) in
    omega (arith, some_purposes c.args.purposes.now some, c.words_len.ensures, c.saturating_add.ensures)
