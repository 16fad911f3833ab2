use Rattle.std.proofs.Common.{◌≡◌, ◌++◌, drop}
use Rattle.std.specs.List.{flat_map}
use Rattle.schedule_text.specs.Deeds.{close_line}
use Rattle.replay_run.proofs.watch.put_closes.Given as goal

-- what is printed, and the lines of the ports that are left, are all lines
abbrev pub invariant-closes : goal.invariant-closes
invariant-closes l =
    l.out.items ++ flat_map close_line (drop l.port-index l.closes) ≡ l.fn.out.items ++ flat_map close_line l.closes
