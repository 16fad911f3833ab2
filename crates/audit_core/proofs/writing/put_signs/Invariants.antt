use Rattle.std.proofs.Common.{◌≡◌, ◌++◌, drop}
use Rattle.std.specs.List.{flat_map}
use Rattle.audit_core.specs.Reports.{put_line}
use Rattle.audit_core.proofs.writing.put_signs.Given as goal

-- what is there, and the lines of the requests that are left, are all lines
abbrev pub invariant-puts : goal.invariant-puts
invariant-puts l = l.out.items ++ flat_map put_line (drop l.put-index l.puts) ≡ l.fn.out.items ++ flat_map put_line l.puts
