use Rattle.agent_model.proofs.LateLemmas.{lost-exactly, over-exactly}
use Rattle.agent_model.proofs.OnTimeLemmas.{at_moment-on_time}
use Rattle.agent_model.proofs.TimeLemmas.{time_passes-put}
use Rattle.agent_model.proofs.waits.a_wait_ends_at_its_limit.Goals as goal

pub returns-clause-lost : goal.returns-clause-lost
returns-clause-lost c = lost-exactly

pub returns-clause-over : goal.returns-clause-over
returns-clause-over c = over-exactly

pub returns-clause-put : goal.returns-clause-put
returns-clause-put c = time_passes-put

pub returns-clause-prompt : goal.returns-clause-prompt
returns-clause-prompt c = at_moment-on_time
