use Rattle.agent_model.specs.State.{first_state}
use Rattle.agent_model.proofs.FatedLemmas.{first-tied}
use Rattle.agent_model.proofs.JudgedRunLemmas.{first-judged, run-judged, step-judged}
use Rattle.agent_model.proofs.BoundOneLemmas.{other-binds_none, others-told, right-binds, wrong-told}
use Rattle.agent_model.proofs.bindings.a_binding_is_added_where_it_is_right.Goals as goal

pub returns-clause-right : goal.returns-clause-right
returns-clause-right c = right-binds

pub returns-clause-wrong : goal.returns-clause-wrong
returns-clause-wrong c = wrong-told

pub returns-clause-other : goal.returns-clause-other
returns-clause-other c = other-binds_none

pub returns-clause-others : goal.returns-clause-others
returns-clause-others c = others-told

pub returns-clause-judged : goal.returns-clause-judged
returns-clause-judged c = λ settings events. run-judged (first_state settings) events (first-tied settings) (first-judged settings)

pub returns-clause-step : goal.returns-clause-step
returns-clause-step c =
    λ state moment event tied judged. (step-judged state moment event tied judged).judged
