-- no pair was accepted meanwhile
use Rattle.std.proofs.Common.{◌≡◌}
use Rattle.pair_script.proofs.outside.Outside.play_all.Given as goal

abbrev pub invariant-cues : goal.invariant-cues
invariant-cues l = l.self.last_pair ≡ l.fn.self.last_pair
