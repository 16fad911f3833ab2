use Rattle.signer_keys.proofs.SigningLemmas.{given-short, signed-short}
use Rattle.signer_keys.proofs.rsa_signatures.sign_by.Goals as goal

pub returns-clause-sized : goal.returns-clause-sized
returns-clause-sized c = given-short _ _ c.sign.result (signed-short _ _ _ _ _ _ _) c.sign.ensures
