use Rattle.agent_laws.proofs.EndedLemmas.{first-ended}
use Rattle.agent_laws.proofs.answers.nothing_is_left_of_a_confirmation_that_ended.Goals as goal

pub returns : goal.returns
returns c = first-ended
