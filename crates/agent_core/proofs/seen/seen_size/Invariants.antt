use Rattle.std.proofs.Common.{◌≡◌, ◌+◌, ◌≤◌, length}
use Rattle.identity_table.specs.Identities.{answer_len, entries_len, max_answer}
use Rattle.agent_core.specs.Seen.{seen}
use Rattle.agent_core.proofs.seen.seen_size.Given as goal

abbrev pub invariant-loop-identity : goal.invariant-loop-identity
invariant-loop-identity l =
    (l.size.count + length (seen l.asker l.identity-iterator) ≡ length (seen l.asker l.table.identities))
    × (l.size.body + entries_len (seen l.asker l.identity-iterator) ≡ answer_len (seen l.asker l.table.identities))
    × (l.size.body + entries_len l.identity-iterator ≤ max_answer)
    × (l.size.count ≤ l.size.body)
