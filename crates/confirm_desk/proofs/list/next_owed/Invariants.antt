use Rattle.std.proofs.Common.{◌≡◌, drop}
use Rattle.confirm_desk.specs.Calls.{lesser, next_owed}
use Rattle.confirm_desk.proofs.list.next_owed.Given as goal

-- the least so far and that of the rest are that of all
abbrev pub invariant-loop-one : goal.invariant-loop-one
invariant-loop-one l = lesser l.least (next_owed l.after (drop l.one-index l.pending)) ≡ next_owed l.after l.pending
