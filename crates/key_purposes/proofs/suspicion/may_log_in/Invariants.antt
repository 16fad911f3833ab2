use Rattle.std.proofs.Common.{◌≡◌, drop}
use Rattle.key_purposes.specs.Suspicions.{may_log_in}
use Rattle.key_purposes.proofs.suspicion.may_log_in.Given as goal

-- whether a name stands in the message is whether it stands in what is left
abbrev pub invariant-loop-at : goal.invariant-loop-at
invariant-loop-at l = may_log_in l.message ≡ may_log_in (drop l.at l.message)
