use Rattle.removal_laws.proofs.RowLemmas.{removals}
use Rattle.removal_laws.proofs.rows.nothing_is_left_of_these_keys.Goals as goal

pub returns-clause-alike : goal.returns-clause-alike
returns-clause-alike c = removals
