use Rattle.agent_model.proofs.NumberLemmas.{run-grows}
use Rattle.agent_model.proofs.laws.no_number_is_given_twice.Goals as goal

pub returns-clause-jobs : goal.returns-clause-jobs
returns-clause-jobs c = λ state events. (run-grows state events).jobs

pub returns-clause-asks : goal.returns-clause-asks
returns-clause-asks c = λ state events. (run-grows state events).asks
