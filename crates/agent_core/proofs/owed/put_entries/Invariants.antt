use Rattle.std.proofs.Common.{◌≡◌, ◌≤◌, ◌++◌, map}
use Rattle.secret_buf.specs.Buffers.{KeepsRoom}
use Rattle.identity_table.specs.Identities.{answer_len, max_answer}
use Rattle.agent_msg.specs.Replies.{entries}
use Rattle.agent_model.specs.KeyStates.{shown}
use Rattle.agent_core.specs.Seen.{seen}
use Rattle.agent_core.proofs.owed.put_entries.Given as goal

abbrev pub invariant-loop-identity : goal.invariant-loop-identity
invariant-loop-identity l =
    (l.out.live ++ entries (map shown (seen l.asker l.identity-iterator)) ≡ l.fn.out.live ++ entries (map shown (seen l.asker l.table.identities)))
    × KeepsRoom l.fn.out l.out
    × (answer_len l.identity-iterator ≤ max_answer)
