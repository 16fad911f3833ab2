use Rattle.edwards_laws.proofs.MultipleLemmas.{order-leaves-neutral}
use Rattle.edwards_laws.proofs.edwards25519.the_order_leaves_the_neutral_point.Goals as goal

pub returns : goal.returns
returns c = order-leaves-neutral
