use Rattle.group_laws.proofs.P521MultipleLemmas.{multiply-makes}
use Rattle.group_laws.proofs.p521.multiply_makes_the_multiple.Goals as goal

pub returns : goal.returns
returns c = multiply-makes
