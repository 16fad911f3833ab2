use Rattle.group_laws.proofs.P384MultipleLemmas.{order-leaves-infinity}
use Rattle.group_laws.proofs.p384.the_order_leaves_infinity.Goals as goal

pub returns : goal.returns
returns c = order-leaves-infinity
