use Rattle.signature_laws.proofs.StreamLemmas.{sends-signed}
use Rattle.signature_laws.proofs.streams.what_the_signer_sends_is_its_answers.Goals as goal

pub returns : goal.returns
returns c = sends-signed
