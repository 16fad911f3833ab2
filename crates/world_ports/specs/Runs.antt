-- Programs that are run to their end (ours): which runs were made, and how many failed.
use Rattle.std.specs.Prelude.{◌≤◌, Bool, true, false, ℕ, List, Option, Result, Ok, Err}
use Rattle.world_ports.specs.Causes.{Rose}
use Rattle.world_ports.specs.declared.spawner.Ran.{Ran}
use Rattle.world_ports.specs.declared.spawner.Run.{Run}
use Rattle.world_ports.specs.declared.spawner.SpawnFault.{SpawnFault}
use Rattle.world_ports.specs.declared.spawner.SpawnFault.TheVariants.{Failed, Memory}

-- what is known of an object that runs programs. `None` claims nothing
pub record SpawnerView : Type 0 where
  pub runs : Option (List Run)
  pub faults : ℕ

-- the run wants memory
abbrev pub is_short_run : Result Ran SpawnFault → Bool
is_short_run (Ok _) = false
is_short_run (Err Failed) = false
is_short_run (Err Memory) = true

-- a run that failed was counted
abbrev pub CountsRun : SpawnFault → ℕ → ℕ → Type 0
CountsRun Failed before now = Rose before now
CountsRun Memory before now = before ≤ now
