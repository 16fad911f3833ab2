use Rattle.std.proofs.Common.{length, ap, arith}
use Rattle.std.proofs.lemmas.Bool.Decides.{nat_tests}
use Rattle.add_core.specs.Passphrases.{first_line}
use Rattle.add_core.proofs.PassphraseLemmas.{long_line, short_line}
use Rattle.add_core.proofs.passphrase.read_passphrase.Goals as goal

pub returns-then-len-gt-LONGEST-clause-told : goal.returns-then-len-gt-LONGEST-clause-told
returns-then-len-gt-LONGEST-clause-told g c = λ left known.
    long_line c.in_ok-line.line.live (first_line left) (c.in_ok-line.ensures.read left known) (grind (arith, nat_tests, ap length c.live-len.ensures))

pub returns-else-len-gt-LONGEST-clause-told : goal.returns-else-len-gt-LONGEST-clause-told
returns-else-len-gt-LONGEST-clause-told g c = λ left known.
    short_line c.in_ok-line.line.live (first_line left) (c.in_ok-line.ensures.read left known) (grind (arith, nat_tests, ap length c.live-len.ensures)) (grind (arith, nat_tests, ap length c.live-len.ensures))
