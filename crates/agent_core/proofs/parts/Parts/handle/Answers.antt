use Rattle.agent_core.proofs.parts.Parts.handle.Goals as goal

pub returns-in-Started-clause-handled : goal.returns-in-Started-clause-handled
returns-in-Started-clause-handled c = rw c.in-Started.is c.start.ensures.parts
