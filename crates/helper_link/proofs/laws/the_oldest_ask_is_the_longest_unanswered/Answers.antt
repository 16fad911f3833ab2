use Rattle.helper_link.proofs.OldestLemmas.{oldest_least, oldest_none, oldest_there}
use Rattle.helper_link.proofs.laws.the_oldest_ask_is_the_longest_unanswered.Goals as goal

pub returns-clause-none : goal.returns-clause-none
returns-clause-none c = oldest_none

pub returns-clause-there : goal.returns-clause-there
returns-clause-there c = oldest_there

pub returns-clause-least : goal.returns-clause-least
returns-clause-least c = oldest_least
