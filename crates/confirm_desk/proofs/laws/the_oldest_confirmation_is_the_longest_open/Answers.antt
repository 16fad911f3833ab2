use Rattle.confirm_desk.proofs.OldestLemmas.{oldest_least, oldest_none, oldest_there}
use Rattle.confirm_desk.proofs.laws.the_oldest_confirmation_is_the_longest_open.Goals as goal

pub returns-clause-none : goal.returns-clause-none
returns-clause-none c = oldest_none

pub returns-clause-there : goal.returns-clause-there
returns-clause-there c = λ job second desk sound is. oldest_there job second desk sound.apart is

pub returns-clause-least : goal.returns-clause-least
returns-clause-least c = oldest_least
