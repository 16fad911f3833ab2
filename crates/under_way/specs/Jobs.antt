-- Jobs in storage, and where one of a number stands (ours).
use Rattle.std.specs.Prelude.{◌≡◌, ℕ, ◌<◌, List, Some, length, map, slice_index_or}
use Rattle.std.specs.List.{remove}
use Rattle.world_ports.specs.declared.Job.{Job}
use Rattle.agent_model.specs.Children.{remove_to_start}
use Rattle.agent_model.specs.Consents.{find_started, remove_started}
use Rattle.agent_model.specs.State.{StartedJob, find_to_start}
use Rattle.under_way.specs.declared.jobs.Started.{Started}

-- a started job as the abstract agent sees it
abbrev pub started_job : Started → StartedJob
started_job one = record { job = one.job; ticket = one.ticket }

-- all started jobs, as the definitions see them
abbrev pub all_started : List Started → List StartedJob
all_started started = map started_job started

-- the number of a started job
abbrev pub begun_number : Started → ℕ
begun_number one = one.job.number

-- the first job of this number stands there
pub record IsJobAt (number : ℕ) (jobs : List Job) (place : ℕ) : Type 0 where
  pub within : place < length jobs
  pub found : (other : Job) → find_to_start number jobs ≡ Some (slice_index_or jobs place other)
  pub removed : remove_to_start number jobs ≡ remove jobs place

-- the started job of this number stands at this place
pub record IsStartedAt (number : ℕ) (started : List Started) (place : ℕ) : Type 0 where
  pub within : place < length started
  pub found : (other : Started) → find_started number (all_started started) ≡ Some (started_job (slice_index_or started place other))
  pub removed : remove_started number (all_started started) ≡ all_started (remove started place)
