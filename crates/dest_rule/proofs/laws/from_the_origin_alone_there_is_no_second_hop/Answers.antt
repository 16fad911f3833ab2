use Rattle.dest_rule.proofs.LawLemmas.{origin_alone}
use Rattle.dest_rule.proofs.laws.from_the_origin_alone_there_is_no_second_hop.Goals as goal

pub returns : goal.returns
returns c = origin_alone
