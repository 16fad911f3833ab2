use Rattle.std.proofs.Common.{refl}
use Rattle.agent_model.proofs.UseLemmas.{unused-answered, unused-raised, unused-refused, unused-ungranted, unused-verified, used-grant, used-put}
use Rattle.agent_model.proofs.uses.a_key_is_used_as_its_signature_is_put.Goals as goal

pub returns-clause-put : goal.returns-clause-put
returns-clause-put c = used-put

pub returns-clause-refused : goal.returns-clause-refused
returns-clause-refused c =
    λ cause signing asker held under_way. unused-refused signing asker held under_way cause

pub returns-clause-raised : goal.returns-clause-raised
returns-clause-raised c =
    λ job signing asker held under_way. unused-raised signing asker held under_way job

pub returns-clause-verified : goal.returns-clause-verified
returns-clause-verified c = unused-verified

pub returns-clause-granted : goal.returns-clause-granted
returns-clause-granted c =
    λ key port confirmation state found. used-grant port confirmation state found key

pub returns-clause-ungranted : goal.returns-clause-ungranted
returns-clause-ungranted c =
    λ cause port confirmation state found. unused-ungranted port confirmation state found cause

pub returns-clause-denied : goal.returns-clause-denied
returns-clause-denied c = λ confirmation state. refl

pub returns-clause-answered : goal.returns-clause-answered
returns-clause-answered c = unused-answered

pub returns-clause-lost : goal.returns-clause-lost
returns-clause-lost c = λ state. refl
