use Rattle.edwards_laws.proofs.AgainLemmas.{decoded-again}
use Rattle.edwards_laws.proofs.edwards25519.what_is_encoded_is_decoded.Goals as goal

pub returns : goal.returns
returns c = decoded-again
