use Rattle.std.proofs.Common.{arith}
use Rattle.agent_model.specs.Fates.{actions_of}
use Rattle.agent_laws.specs.Grants.{noted, pending}
use Rattle.agent_model.specs.Runs.{run}
use Rattle.agent_model.specs.State.{first_state}
use Rattle.agent_model.proofs.FatedLemmas.{first-tied, run-tied}
use Rattle.agent_model.proofs.OnceLemmas.{unused_most}
use Rattle.agent_laws.proofs.PutLemmas.{noted_some, run-put, run-tie}
use Rattle.agent_laws.proofs.TraceLemmas.{endable_most, run-ended, run-raised, step-traces}
use Rattle.agent_laws.proofs.consents.a_signature_has_a_consent_of_its_own.Goals as goal

pub returns-clause-put : goal.returns-clause-put
returns-clause-put c = run-put

pub returns-clause-granted : goal.returns-clause-granted
returns-clause-granted c = λ settings events moment event job among.
    noted_some (noted job (run (first_state settings) events).under_way.confirmations) (pending (actions_of (first_state settings) events) job) (run-tie settings events job)
    ((step-traces job (run (first_state settings) events) moment event (run-tied (first_state settings) events (first-tied settings))).granted among)

pub returns-clause-over : goal.returns-clause-over
returns-clause-over c = λ settings events moment event job among.
    noted_some (noted job (run (first_state settings) events).under_way.confirmations) (pending (actions_of (first_state settings) events) job) (run-tie settings events job)
    ((step-traces job (run (first_state settings) events) moment event (run-tied (first_state settings) events (first-tied settings))).over among)

pub returns-clause-ended : goal.returns-clause-ended
returns-clause-ended c = λ settings events job.
    omega (arith, run-ended job (first_state settings) events (first-tied settings), endable_most job (first_state settings).under_way)

pub returns-clause-raised : goal.returns-clause-raised
returns-clause-raised c = λ settings events job.
    omega (arith, run-raised job (first_state settings) events (first-tied settings), unused_most job 0)

pub returns-clause-waits : goal.returns-clause-waits
returns-clause-waits c = run-tie
