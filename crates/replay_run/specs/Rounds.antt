-- A run between two reads (ours).
use Rattle.std.specs.Prelude.{◌≡◌, ◌<◌, ◌≤◌, ℕ, List, [], Option}
use Rattle.agent_model.specs.State.{Settings}
use Rattle.replay_run.specs.Claims.{HasRead, Seen}
use Rattle.replay_run.specs.Feeding.{Feeding, Feeds, IsReady, fed_so_far, start_feeding}
use Rattle.replay_run.specs.Replay.{longest_schedule}

-- a run that goes on: these bytes were read and fed, and all that they print is written
pub record IsUnderWay (settings : Settings) (old new : Seen) (feeding : Feeding) : Type 0 where
  pub bytes : List ℕ
  pub read : HasRead old new bytes
  pub feeds : Feeds (start_feeding settings) bytes feeding old.output new.output
  pub ready : IsReady feeding
  pub empty : feeding.out ≡ []
  pub reads : new.input.read_faults ≡ old.input.read_faults

-- more of the schedule was fed, and no more than it may have
pub record IsLonger (old new : Feeding) : Type 0 where
  pub more : fed_so_far old < fed_so_far new
  pub within : fed_so_far new ≤ longest_schedule
