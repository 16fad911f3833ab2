use Rattle.add_rules.proofs.TypedLemmas.{constraints_are_asked}
use Rattle.add_rules.proofs.laws.constraints_are_those_of_the_words.Goals as goal

pub returns : goal.returns
returns c = constraints_are_asked
