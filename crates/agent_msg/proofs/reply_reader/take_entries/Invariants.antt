use Rattle.std.proofs.Common.{◌≡◌, ◌-◌, ◌≤◌, map}
use Rattle.wire_core.specs.Readings.{◌>>=◌}
use Rattle.agent_msg.specs.ReplyReading.{lent, in_front, entries_at}
use Rattle.agent_msg.proofs.reply_reader.take_entries.Given as goal

-- those that are read, and then those that are left, are all
abbrev pub invariant-loop : goal.invariant-loop
invariant-loop l =
    (l.counter ≤ l.fn.count)
    × (entries_at l.fn.count l.fn.from ≡ (entries_at (l.fn.count - l.counter) l.from >>= in_front (map lent l.identities.items)))
