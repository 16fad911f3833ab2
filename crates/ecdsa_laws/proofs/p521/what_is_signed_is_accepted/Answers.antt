use Rattle.ecdsa_laws.proofs.P521AcceptedLemmas.{signature-accepted}
use Rattle.ecdsa_laws.proofs.p521.what_is_signed_is_accepted.Goals as goal

pub returns : goal.returns
returns c = signature-accepted
