use Rattle.group_laws.proofs.P256MultipleLemmas.{multiply-makes}
use Rattle.group_laws.proofs.p256.multiply_makes_the_multiple.Goals as goal

pub returns : goal.returns
returns c = multiply-makes
