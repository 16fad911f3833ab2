use Rattle.eddsa_laws.proofs.AcceptedLemmas.{signature-accepted}
use Rattle.eddsa_laws.proofs.signatures.what_is_signed_is_accepted.Goals as goal

pub returns : goal.returns
returns c = signature-accepted
