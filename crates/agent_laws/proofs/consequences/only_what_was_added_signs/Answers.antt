use Rattle.agent_laws.proofs.ConsequenceLemmas.{never-none, put-added, removed-none}
use Rattle.agent_laws.proofs.consequences.only_what_was_added_signs.Goals as goal

pub returns-clause-added : goal.returns-clause-added
returns-clause-added c = put-added

pub returns-clause-never : goal.returns-clause-never
returns-clause-never c = never-none

pub returns-clause-removed : goal.returns-clause-removed
returns-clause-removed c = removed-none
