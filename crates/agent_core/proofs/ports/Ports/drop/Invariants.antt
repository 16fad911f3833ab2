use Rattle.std.proofs.Common.{vec_len}
use Rattle.agent_core.proofs.ports.Ports.drop.Given as goal

abbrev pub decreases-slots : goal.decreases-slots
decreases-slots l = vec_len l.slots
