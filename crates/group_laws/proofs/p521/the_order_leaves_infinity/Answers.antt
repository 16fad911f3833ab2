use Rattle.group_laws.proofs.P521MultipleLemmas.{order-leaves-infinity}
use Rattle.group_laws.proofs.p521.the_order_leaves_infinity.Goals as goal

pub returns : goal.returns
returns c = order-leaves-infinity
