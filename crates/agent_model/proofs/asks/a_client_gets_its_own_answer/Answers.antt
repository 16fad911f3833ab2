use Rattle.agent_model.specs.State.{first_state}
use Rattle.agent_model.proofs.CutLemmas.{stream-fate}
use Rattle.agent_model.proofs.FatedLemmas.{first-tied, run-tied, step-fated, waits-until}
use Rattle.agent_model.proofs.asks.a_client_gets_its_own_answer.Goals as goal

pub returns-clause-tied : goal.returns-clause-tied
returns-clause-tied c =
    λ settings events. run-tied (first_state settings) events (first-tied settings)

pub returns-clause-waits : goal.returns-clause-waits
returns-clause-waits c = λ state number ask port tied found waits.
    let waiting = tied.tied.waits number ask port found waits in
    record { port = port; found = found; door = waiting.door; owed = waiting.owed; waits = waits }

pub returns-clause-until : goal.returns-clause-until
returns-clause-until c = λ state events number ask. waits-until number ask state events

pub returns-clause-told : goal.returns-clause-told
returns-clause-told c =
    λ state moment event number ask tied. (step-fated state moment event tied).told number ask

pub returns-clause-stream : goal.returns-clause-stream
returns-clause-stream c = stream-fate
