use Rattle.agent_laws.proofs.ConsequenceLemmas.{locked-none, put-unlocked}
use Rattle.agent_laws.proofs.consequences.nothing_is_signed_while_locked.Goals as goal

pub returns-clause-unlocked : goal.returns-clause-unlocked
returns-clause-unlocked c = put-unlocked

pub returns-clause-until_unlocked : goal.returns-clause-until_unlocked
returns-clause-until_unlocked c = locked-none
