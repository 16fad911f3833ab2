use Rattle.group_laws.proofs.P384MultipleLemmas.{multiply-makes}
use Rattle.group_laws.proofs.p384.multiply_makes_the_multiple.Goals as goal

pub returns : goal.returns
returns c = multiply-makes
