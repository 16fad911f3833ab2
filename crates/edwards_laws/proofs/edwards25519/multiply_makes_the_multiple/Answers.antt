use Rattle.edwards_laws.proofs.MultipleLemmas.{multiply-makes}
use Rattle.edwards_laws.proofs.edwards25519.multiply_makes_the_multiple.Goals as goal

pub returns : goal.returns
returns c = multiply-makes
