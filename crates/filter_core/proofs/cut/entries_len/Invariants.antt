use Rattle.std.proofs.Common.{◌≡◌, ◌≤◌, ◌+◌, map, drop}
use Rattle.wire_text.specs.Bounds.{longest_body}
use Rattle.agent_msg.specs.Replies.{entries_length}
use Rattle.agent_msg.specs.ReplyReading.{lent}
use Rattle.filter_core.proofs.cut.entries_len.Given as goal

abbrev pub invariant-loop-identity : goal.invariant-loop-identity
invariant-loop-identity l =
    (l.len + entries_length (map lent (drop l.identity-index l.identities)) ≡ entries_length (map lent l.identities))
    × (entries_length (map lent l.identities) ≤ longest_body)
