use Rattle.std.proofs.Common.{◌≡◌, length, take}
use Rattle.std.specs.List.{flat_map}
use Rattle.add_rules.specs.Lengths.{counted}
use Rattle.add_rules.proofs.LengthLemmas.{key_bytes}
use Rattle.add_rules.proofs.length.keys_len.Given as goal

-- the keys so far were counted
abbrev pub invariant-keys : goal.invariant-keys
invariant-keys l = l.len ≡ counted (length (flat_map key_bytes (take l.key-index l.keys)))
