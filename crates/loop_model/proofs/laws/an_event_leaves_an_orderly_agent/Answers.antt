use Rattle.loop_model.proofs.OwedLemmas.{orderly_after, orderly_first}
use Rattle.loop_model.proofs.laws.an_event_leaves_an_orderly_agent.Goals as goal

pub returns-clause-first : goal.returns-clause-first
returns-clause-first c = orderly_first

pub returns-clause-later : goal.returns-clause-later
returns-clause-later c = orderly_after
