use Rattle.std.proofs.Common.{◌≡◌, ◌++◌, drop}
use Rattle.log_core.specs.Logs.{lines_of}
use Rattle.log_core.proofs.writing.put_lines.Given as goal

-- what is there, and the lines of the requests that are left, are all lines
abbrev pub invariant-requests : goal.invariant-requests
invariant-requests l = l.out.items ++ lines_of (drop l.request-index l.requests) ≡ l.fn.out.items ++ lines_of l.requests
