use Rattle.agent_laws.proofs.AnsweredLemmas.{first-answered}
use Rattle.agent_laws.proofs.laws.a_client_gets_that_helpers_answer.Goals as goal

pub returns : goal.returns
returns c = first-answered
