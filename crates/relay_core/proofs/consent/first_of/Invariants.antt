use Rattle.std.proofs.Common.{◌≡◌, ◌++◌, take, drop}
use Rattle.relay_core.specs.Verdicts.{first_line}
use Rattle.relay_core.proofs.consent.first_of.Given as goal

-- no CR or LF stands before the place
abbrev pub invariant-loop-place : goal.invariant-loop-place
invariant-loop-place l = first_line l.output ≡ take l.place l.output ++ first_line (drop l.place l.output)
