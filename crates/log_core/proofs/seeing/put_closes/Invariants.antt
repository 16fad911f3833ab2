use Rattle.std.proofs.Common.{◌≡◌, ◌++◌, drop, map}
use Rattle.log_laws.specs.Sights.{closed_sight}
use Rattle.log_core.proofs.seeing.put_closes.Given as goal

-- what was seen, and the ports that are left, are all
abbrev pub invariant-closes : goal.invariant-closes
invariant-closes l =
    l.sights.items ++ map (closed_sight l.fn.wall l.fn.faults) (drop l.port-index l.closes) ≡ l.fn.sights.items ++ map (closed_sight l.fn.wall l.fn.faults) l.closes
