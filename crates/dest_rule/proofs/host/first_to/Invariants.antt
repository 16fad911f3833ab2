use Rattle.std.proofs.Common.{◌≡◌, drop}
use Rattle.std.specs.Option.{option_map}
use Rattle.dest_rule.specs.GroundsOf.{grounds_of}
use Rattle.dest_rule.specs.Hosts.{first_to}
use Rattle.dest_rule.proofs.host.first_to.Given as goal

-- none of the constraints so far permits it
abbrev pub invariant-loop-rule : goal.invariant-loop-rule
invariant-loop-rule l =
    first_to (grounds_of l.grounds) (option_map (λ key. key.now.blob.now) l.previous) l.host.blob.now (drop l.rule-index l.grounds.rules.now)
    ≡ first_to (grounds_of l.grounds) (option_map (λ key. key.now.blob.now) l.previous) l.host.blob.now l.grounds.rules.now
