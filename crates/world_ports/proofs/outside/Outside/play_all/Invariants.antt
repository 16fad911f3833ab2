-- no connection was accepted meanwhile, and the monotonic clock did not go back
use Rattle.std.proofs.Common.{◌≡◌, ◌≤◌}
use Rattle.world_ports.proofs.outside.Outside.play_all.Given as goal

abbrev pub invariant-cues : goal.invariant-cues
invariant-cues l = record {
  ports : l.self.last_port ≡ l.fn.self.last_port;
  later : l.fn.self.moment.mono ≤ l.self.moment.mono;
}
