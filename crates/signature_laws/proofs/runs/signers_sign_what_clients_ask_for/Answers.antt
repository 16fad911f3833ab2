use Rattle.signature_laws.proofs.RunLemmas.{are-signed}
use Rattle.signature_laws.proofs.runs.signers_sign_what_clients_ask_for.Goals as goal

pub returns : goal.returns
returns c = λ settings events signers. are-signed settings events signers
