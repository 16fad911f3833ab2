use Rattle.wire_text.specs.Wire.{uint32, string}
use Rattle.agent_msg.specs.Requests.{bind_front, names_bind, session_bind}
use Rattle.agent_msg.proofs.BindLemmas.{names_bind_is}
use Rattle.agent_msg.proofs.bind.names_bind.Goals as goal

pub returns-clause-value : goal.returns-clause-value
unfolding names_bind bind_front session_bind string uint32
returns-clause-value c = c.starts_with.ensures.value

pub returns-clause-names : goal.returns-clause-names
unfolding names_bind bind_front session_bind string uint32
returns-clause-names c = names_bind_is c.starts_with.result c.args.body.now c.starts_with.ensures.value
