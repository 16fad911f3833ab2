use Rattle.agent_msg.proofs.BindLemmas.{bind_is_named, other_is_not_named}
use Rattle.agent_msg.proofs.laws.a_request_to_bind_is_named.Goals as goal

pub returns : goal.returns
returns c = record { bind = bind_is_named; other = other_is_not_named }
