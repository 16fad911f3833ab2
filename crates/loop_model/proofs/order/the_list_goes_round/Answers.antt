use Rattle.loop_model.proofs.RoundLemmas.{event-ended, event-keeps, event-round, first_is}
use Rattle.loop_model.proofs.order.the_list_goes_round.Goals as goal

pub returns-clause-round : goal.returns-clause-round
returns-clause-round c = event-round

pub returns-clause-first : goal.returns-clause-first
returns-clause-first c = first_is

pub returns-clause-ended : goal.returns-clause-ended
returns-clause-ended c = event-ended

pub returns-clause-alone : goal.returns-clause-alone
returns-clause-alone c = event-keeps
