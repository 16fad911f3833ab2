use Rattle.std.proofs.Common.{◌≡◌, ◌≤◌, ◌++◌, map, drop}
use Rattle.wire_text.specs.Bounds.{longest_body}
use Rattle.agent_msg.specs.Replies.{entries, entries_length}
use Rattle.agent_msg.specs.ReplyReading.{lent}
use Rattle.filter_core.proofs.cut.put_entries.Given as goal

abbrev pub invariant-loop-identity : goal.invariant-loop-identity
invariant-loop-identity l =
    (l.out.live ++ entries (map lent (drop l.identity-index l.identities)) ≡ l.fn.out.live ++ entries (map lent l.identities))
    × (entries_length (map lent (drop l.identity-index l.identities)) ≤ longest_body)
