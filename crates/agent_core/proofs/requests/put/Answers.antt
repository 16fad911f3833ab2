use Rattle.agent_core.proofs.requests.put.Goals as goal

pub add-requires-clause-short : goal.add-requires-clause-short
add-requires-clause-short c = c.requires.short
