use Rattle.group_laws.proofs.MultipleLemmas.{multiple-of-multiple, sum-of-multiples}
use Rattle.edwards_laws.proofs.GroupLemmas.{group}
use Rattle.edwards_laws.proofs.edwards25519.multiples_add_up.Goals as goal

pub returns-clause-sum : goal.returns-clause-sum
returns-clause-sum c p x y z a b on x_is y_is sum = sum-of-multiples group p on a b x y z x_is y_is sum

pub returns-clause-product : goal.returns-clause-product
returns-clause-product c p x y a b on x_is y_is = multiple-of-multiple group p on a x x_is b y y_is
