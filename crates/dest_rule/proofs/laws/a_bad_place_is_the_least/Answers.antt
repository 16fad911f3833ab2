use Rattle.dest_rule.proofs.LeastLemmas.{bad_place_is}
use Rattle.dest_rule.proofs.laws.a_bad_place_is_the_least.Goals as goal

pub returns : goal.returns
returns c = bad_place_is
