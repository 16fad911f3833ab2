use Rattle.dest_rule.proofs.LawLemmas.{every_hop}
use Rattle.dest_rule.proofs.laws.every_hop_is_permitted_by_a_constraint.Goals as goal

pub returns : goal.returns
returns c = every_hop
