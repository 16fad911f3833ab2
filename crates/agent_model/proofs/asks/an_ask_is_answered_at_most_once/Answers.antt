use Rattle.std.proofs.Common.{arith}
use Rattle.agent_model.specs.State.{first_state}
use Rattle.agent_model.proofs.FatedLemmas.{first-tied}
use Rattle.agent_model.proofs.OnceLemmas.{answerable_most, never_answered, run-spends, step-lost, unused_most}
use Rattle.agent_model.proofs.asks.an_ask_is_answered_at_most_once.Goals as goal

pub returns-clause-answered : goal.returns-clause-answered
returns-clause-answered c = λ settings events ask.
    omega (arith, (run-spends ask (first_state settings) events (first-tied settings)).answered, answerable_most ask (first_state settings).under_way.link)

pub returns-clause-asked : goal.returns-clause-asked
returns-clause-asked c = λ settings events ask. omega (arith, (run-spends ask (first_state settings) events (first-tied settings)).asked, unused_most ask 0)

pub returns-clause-settled : goal.returns-clause-settled
returns-clause-settled c = λ state events ask. never_answered ask state events

pub returns-clause-lost : goal.returns-clause-lost
returns-clause-lost c = step-lost
