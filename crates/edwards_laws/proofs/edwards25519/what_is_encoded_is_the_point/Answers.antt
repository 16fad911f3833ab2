use Rattle.edwards_laws.proofs.EncodedLemmas.{encoding-is}
use Rattle.edwards_laws.proofs.edwards25519.what_is_encoded_is_the_point.Goals as goal

pub returns : goal.returns
returns c = encoding-is
