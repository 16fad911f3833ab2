use Rattle.agent_model.specs.State.{first_state}
use Rattle.agent_model.proofs.AttendedLemmas.{first-attended, run-attended, step-attended}
use Rattle.agent_model.proofs.FatedLemmas.{first-tied}
use Rattle.agent_model.proofs.consents.who_waits_for_the_user_is_open.Goals as goal

pub returns-clause-attended : goal.returns-clause-attended
returns-clause-attended c = λ settings events. run-attended (first_state settings) events (first-tied settings) (first-attended settings)

pub returns-clause-step : goal.returns-clause-step
returns-clause-step c = step-attended

pub returns-clause-waits : goal.returns-clause-waits
returns-clause-waits c =
    λ state number job port tied found waits. tied.raised.asking.waits number job port found waits
