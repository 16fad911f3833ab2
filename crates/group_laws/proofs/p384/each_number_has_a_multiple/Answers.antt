use Rattle.group_laws.proofs.MultipleLemmas.{has-multiple, multiple-is-element, multiple-unique}
use Rattle.group_laws.proofs.P384GroupLemmas.{group}
use Rattle.group_laws.proofs.p384.each_number_has_a_multiple.Goals as goal

pub returns-clause-some : goal.returns-clause-some
returns-clause-some c p k on = has-multiple group p on k

pub returns-clause-one : goal.returns-clause-one
returns-clause-one c p q r k on first second = multiple-unique group p on k q r first second

pub returns-clause-point : goal.returns-clause-point
returns-clause-point c p q k on is = multiple-is-element group p on k q is
