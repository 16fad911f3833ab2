-- What the numbers of a run keep (ours).
use Rattle.std.specs.Prelude.{◌≡◌, ℕ, ◌+◌, ◌≤◌, None}
use Rattle.replay_run.specs.Replay.{Run, longest_schedule}

-- a run that goes on: every line had a byte, and no more ports joined than lines were run
pub record IsCounted (run : Run) : Type 0 where
  pub accepted : run.refused ≡ None
  pub ports : run.agent.last_port ≤ run.line
  pub lines : run.line ≤ run.read
  pub within : run.read ≤ longest_schedule

-- the run after a line of so many bytes that was accepted
pub record IsNext (run : Run) (size : ℕ) (next : Run) : Type 0 where
  pub counted : IsCounted next
  pub read : next.read ≡ run.read + size
