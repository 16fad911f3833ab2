use Rattle.dest_rule.proofs.ChainLemmas.{IsChain-bound}
use Rattle.dest_rule.proofs.laws.a_chain_has_room_for_what_is_new.Goals as goal

pub returns : goal.returns
returns c = IsChain-bound
