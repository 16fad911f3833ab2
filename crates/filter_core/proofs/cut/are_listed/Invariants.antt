use Rattle.std.proofs.Common.{◌≡◌, ◌-◌, ◌≤◌}
use Rattle.filter_core.specs.Cuts.{are_listed_at}
use Rattle.filter_core.proofs.cut.are_listed.Given as goal

-- all are listed where those that are left are
abbrev pub invariant-entries : goal.invariant-entries
invariant-entries l =
    (l.counter ≤ l.fn.count)
    × (are_listed_at l.fn.count l.listed l.fn.from ≡ are_listed_at (l.fn.count - l.counter) l.listed l.from)
