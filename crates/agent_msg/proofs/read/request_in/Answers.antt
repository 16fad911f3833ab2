use Rattle.std.proofs.Common.{rules}
use Rattle.agent_msg.proofs.MemoryLemmas.{plain_needs_none}
use Rattle.agent_msg.proofs.read.request_in.Goals as goal

pub returns-in_default-number-clause-memory : goal.returns-in_default-number-clause-memory
returns-in_default-number-clause-memory c = λ h.
    let none = plain_needs_none c.in-Ok.number c.rest-contents.result.now c.read_plain.result (search rules) (search rules) c.read_plain.ensures h in
    absurd none
