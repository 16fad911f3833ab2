use Rattle.terms_core.proofs.LawLemmas.{constrained_becomes, other_stays, plain_becomes}
use Rattle.terms_core.proofs.laws.the_same_addition.Goals as goal

pub returns-clause-plain : goal.returns-clause-plain
returns-clause-plain c = plain_becomes

pub returns-clause-constrained : goal.returns-clause-constrained
returns-clause-constrained c = constrained_becomes

pub returns-clause-other : goal.returns-clause-other
returns-clause-other c = other_stays
