use Rattle.agent_laws.proofs.ProvenLemmas.{first-answers}
use Rattle.agent_laws.proofs.answers.a_proved_binding_was_asked_for.Goals as goal

pub returns : goal.returns
returns c = first-answers
