use Rattle.std.proofs.Common.{refl}
use Rattle.agent_model.specs.Verdicts.{HelperLost, Refuses}
use Rattle.agent_core.proofs.helper.refuse_one.Goals as goal

pub returns-clause-ports : goal.returns-clause-ports
returns-clause-ports c = c.conclude.ensures.ports (Refuses HelperLost) (refl, refl)
