use Rattle.agent_model.specs.Runs.{run}
use Rattle.agent_model.specs.State.{first_state}
use Rattle.agent_laws.proofs.KeyLemmas.{first-own, never_again, run-kept}
use Rattle.agent_laws.proofs.PutLemmas.{run-all_named}
use Rattle.agent_laws.proofs.consents.an_addition_that_left_is_never_used.Goals as goal

pub returns-clause-own : goal.returns-clause-own
returns-clause-own c =
    λ settings events. (run-kept (first_state settings) events (first-own settings)).own

pub returns-clause-found : goal.returns-clause-found
returns-clause-found c =
    λ state events number key own within is. (run-kept state events own).found number key within is

pub returns-clause-gone : goal.returns-clause-gone
returns-clause-gone c = λ state events number own within none.
    never_again number state.held.table (run state events).held.table (run-kept state events own) within none

pub returns-clause-given : goal.returns-clause-given
returns-clause-given c =
    λ settings events job raising is. ((run-all_named settings events).named job raising is).0
