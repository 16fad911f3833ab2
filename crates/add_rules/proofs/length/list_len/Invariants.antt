use Rattle.std.proofs.Common.{◌≡◌, length, take}
use Rattle.std.specs.List.{flat_map}
use Rattle.add_rules.specs.Lengths.{counted}
use Rattle.add_rules.proofs.LengthLemmas.{rule_bytes}
use Rattle.add_rules.proofs.length.list_len.Given as goal

-- the constraints so far were counted
abbrev pub invariant-rules : goal.invariant-rules
invariant-rules l = l.len ≡ counted (length (flat_map rule_bytes (take l.rule-index l.rules)))
