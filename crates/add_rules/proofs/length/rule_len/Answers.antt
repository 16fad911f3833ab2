use Rattle.std.proofs.Common.{arith}
use Rattle.add_rules.proofs.LengthLemmas.{length-rule}
use Rattle.add_rules.proofs.length.rule_len.Goals as goal

pub returns : goal.returns
returns c =
    omega (arith, length-rule c.args.rule.now, c.hop_len.ensures, c.hop_len-2.ensures, c.saturating_add.ensures, c.saturating_add-2.ensures)
