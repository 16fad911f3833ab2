use Rattle.signer_keys.proofs.VerifiedLemmas.{answer-verifies}
use Rattle.signer_keys.proofs.program.signer_main.Goals as goal

pub returns-clause-verifies : goal.returns-clause-verifies
returns-clause-verifies c c' = answer-verifies
