use Rattle.group_laws.proofs.P256MultipleLemmas.{order-leaves-infinity}
use Rattle.group_laws.proofs.p256.the_order_leaves_infinity.Goals as goal

pub returns : goal.returns
returns c = order-leaves-infinity
