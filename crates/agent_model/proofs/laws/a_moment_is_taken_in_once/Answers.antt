use Rattle.agent_model.proofs.RunLemmas.{at_moment-twice}
use Rattle.agent_model.proofs.laws.a_moment_is_taken_in_once.Goals as goal

pub returns : goal.returns
returns c = at_moment-twice
