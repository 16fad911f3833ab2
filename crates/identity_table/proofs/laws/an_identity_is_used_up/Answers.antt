use Rattle.std.proofs.Common.{◌∙◌}
use Rattle.identity_table.proofs.SpendLemmas.{find_number-spend, find_number-spend_other, gone_when_used, held_while_left, unlimited_stays}
use Rattle.identity_table.proofs.laws.an_identity_is_used_up.Goals as goal

pub returns-clause-left : goal.returns-clause-left
returns-clause-left c = held_while_left

pub returns-clause-gone : goal.returns-clause-gone
returns-clause-gone c = gone_when_used

pub returns-clause-unlimited : goal.returns-clause-unlimited
returns-clause-unlimited c = λ number last keys key sound found none.
    find_number-spend number last keys key sound.numbers found ∙ unlimited_stays key none

pub returns-clause-others : goal.returns-clause-others
returns-clause-others c = find_number-spend_other
