use Rattle.loop_model.proofs.LostLemmas.{comes-listed, served-listed, stays-listed}
use Rattle.loop_model.proofs.order.nothing_that_is_ready_is_lost.Goals as goal

pub returns-clause-listed : goal.returns-clause-listed
returns-clause-listed c = stays-listed

pub returns-clause-served : goal.returns-clause-served
returns-clause-served c = served-listed

pub returns-clause-aside : goal.returns-clause-aside
returns-clause-aside c = comes-listed
