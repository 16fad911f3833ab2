use Rattle.ecdsa_laws.proofs.P256AcceptedLemmas.{signature-accepted}
use Rattle.ecdsa_laws.proofs.p256.what_is_signed_is_accepted.Goals as goal

pub returns : goal.returns
returns c = signature-accepted
