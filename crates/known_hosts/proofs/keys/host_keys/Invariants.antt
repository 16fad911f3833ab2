use Rattle.std.proofs.Common.{◌≡◌, ◌++◌, length}
use Rattle.known_hosts.specs.HostKeys.{keys_in, host_keys_of}
use Rattle.pattern_core.specs.PatternLists.{lowered}
use Rattle.known_hosts.proofs.keys.host_keys.Given as goal

-- the keys so far, and then those of the lines that are left, are all
abbrev pub invariant-lines : goal.invariant-lines
invariant-lines l =
    (l.keys.items ++ keys_in l.fn.host l.lines ≡ host_keys_of l.fn.text l.fn.host) × (l.lowered_host.items ≡ lowered l.fn.host)

abbrev pub decreases-lines : goal.decreases-lines
decreases-lines l = length l.lines
