use Rattle.agent_model.proofs.VerdictLemmas.{no_failure}
use Rattle.std.proofs.Common.{refl}
use Rattle.agent_model.proofs.laws.a_failure_has_a_cause.Goals as goal

pub returns-clause-cause : goal.returns-clause-cause
returns-clause-cause c = λ cause. refl

pub returns-clause-reply : goal.returns-clause-reply
returns-clause-reply c = no_failure
