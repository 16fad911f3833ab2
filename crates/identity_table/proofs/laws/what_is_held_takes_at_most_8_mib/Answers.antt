use Rattle.std.proofs.Common.{length, arith}
use Rattle.identity_table.specs.Identities.{HeldKey}
use Rattle.identity_table.proofs.KeptLemmas.{private_within, rules_within}
use Rattle.identity_table.proofs.laws.what_is_held_takes_at_most_8_mib.Goals as goal

pub returns-clause-private : goal.returns-clause-private
returns-clause-private c = λ keys last sound. omega (arith, private_within keys, sound.small)

pub returns-clause-rules : goal.returns-clause-rules
returns-clause-rules c = λ keys last sound. omega (arith, rules_within keys, sound.small)
