use Rattle.std.proofs.Common.{List, length}
use Rattle.standin_core.specs.Hosts.{Host, ArePairs}
use Rattle.standin_core.specs.Reading.{IsLooking}
use Rattle.standin_core.proofs.hosts.find_secret.Given as goal

-- none of the hosts before the rest has the tag
abbrev pub invariant-hosts : goal.invariant-hosts
invariant-hosts l = (hosts : List Host) → ArePairs l.pairs hosts → IsLooking hosts l.tag l.rest

abbrev pub decreases-hosts : goal.decreases-hosts
decreases-hosts l = length l.rest
