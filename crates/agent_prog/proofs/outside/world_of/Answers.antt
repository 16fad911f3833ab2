-- The folder that is set leaves the number of the last port.
use Rattle.std.proofs.Common.{rules}
use Rattle.agent_prog.proofs.outside.world_of.Goals as goal
use Rattle.agent_prog.proofs.outside.world_of.Goals.{in-Some, in_default}

pub returns : goal.returns
returns g c = elim c.match-folder-3.branch [
  | in-Some w ↦ search (rules, w.world-is, w.set_folder.ensures, c.in_ok-world.ensures, c.in_ok-world.is, c.new.ensures)
  | in_default w ↦ search (rules, w.world-is, c.in_ok-world.ensures, c.in_ok-world.is, c.new.ensures)
]
