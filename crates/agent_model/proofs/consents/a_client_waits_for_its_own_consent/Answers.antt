use Rattle.agent_model.proofs.AgreedLemmas.{step-agreed}
use Rattle.agent_model.proofs.consents.a_client_waits_for_its_own_consent.Goals as goal

pub returns-clause-waits : goal.returns-clause-waits
returns-clause-waits c = λ state number job port tied found waits.
    let asking = tied.raised.asking.waits number job port found waits in
    record { port = port; found = found; door = asking.door; owed = asking.owed; waits = waits }

pub returns-clause-agreed : goal.returns-clause-agreed
returns-clause-agreed c = λ state moment event number job tied open_yet untaken. step-agreed number job state moment event open_yet untaken tied
