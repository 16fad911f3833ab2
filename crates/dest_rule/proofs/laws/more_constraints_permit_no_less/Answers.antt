use Rattle.dest_rule.proofs.OrderLemmas.{bad_place-more, permits_way-more}
use Rattle.dest_rule.proofs.laws.more_constraints_permit_no_less.Goals as goal

pub returns : goal.returns
returns c = record { permitted = bad_place-more; way = permits_way-more }
