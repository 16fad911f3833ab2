use Rattle.signer_keys.proofs.VerifiedLemmas.{signed-is-right, signed-verifies}
use Rattle.signer_keys.proofs.laws.what_is_signed_verifies.Goals as goal

pub returns-clause-accepted : goal.returns-clause-accepted
returns-clause-accepted c = signed-verifies

pub returns-clause-right : goal.returns-clause-right
returns-clause-right c = signed-is-right
