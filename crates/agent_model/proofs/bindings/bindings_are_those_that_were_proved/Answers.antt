use Rattle.agent_model.specs.State.{first_state}
use Rattle.agent_model.proofs.FatedLemmas.{first-tied}
use Rattle.agent_model.proofs.JudgedRunLemmas.{client-binds_none, first-judged, run-bound, run-judged}
use Rattle.agent_model.proofs.bindings.bindings_are_those_that_were_proved.Goals as goal

pub returns-clause-proved : goal.returns-clause-proved
returns-clause-proved c = λ settings events number. run-bound number (first_state settings) events (first-tied settings) (first-judged settings)

pub returns-clause-since : goal.returns-clause-since
returns-clause-since c =
    λ state events number port tied judged. run-bound number state events tied judged port

pub returns-clause-apart : goal.returns-clause-apart
returns-clause-apart c = λ settings events number port found. ((run-judged (first_state settings) events (first-tied settings) (first-judged settings)).chains number port found).1

pub returns-clause-few : goal.returns-clause-few
returns-clause-few c = λ settings events number port found. ((run-judged (first_state settings) events (first-tied settings) (first-judged settings)).chains number port found).0.few

pub returns-clause-read : goal.returns-clause-read
returns-clause-read c = λ settings events number port found. ((run-judged (first_state settings) events (first-tied settings) (first-judged settings)).chains number port found).0.keys

pub returns-clause-sent : goal.returns-clause-sent
returns-clause-sent c = client-binds_none
