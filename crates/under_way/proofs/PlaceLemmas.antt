-- Where a job of a number stands in a list of jobs, and of started ones in storage.
use Rattle.std.proofs.Common.{◌≡◌, ℕ, List, Option, Some, None, IsSome, MatchOption, refl, ap, ◌∙◌}
use Rattle.std.specs.List.{position}
use Rattle.std.specs.Option.{option_map}
use Rattle.world_ports.specs.declared.Job.{Job}
use Rattle.world_ports.specs.declared.JobKind.TheVariants as kinds
use Rattle.lists.specs.Firsts.{IsFirst}
use Rattle.lists.specs.Keyed.{has_key}
use Rattle.lists.proofs.FirstLemmas as first
use Rattle.lists.proofs.FirstLemmas.{find-map, found_there, remove-map, removed_there}
use Rattle.agent_model.specs.Consents.{find_started}
use Rattle.agent_model.specs.State.{find_to_start, job_number, StartedJob}
use Rattle.under_way.specs.Jobs.{IsJobAt, IsStartedAt, all_started, begun_number, started_job}
use Rattle.under_way.specs.declared.jobs.Started.{Started}

-- ---- jobs to start

-- where the search says
pub is_place : (number : ℕ) (jobs : List Job) (result : Option ℕ) →
    result ≡ position (has_key job_number number) jobs →
    MatchOption result (find_to_start number jobs ≡ None) (λ place. IsJobAt number jobs place)
is_place number jobs None is = first.is_place (has_key job_number number) jobs None is
is_place number jobs (Some place) is =
    let at : IsFirst (has_key job_number number) jobs place =
    first.is_place (has_key job_number number) jobs (Some place) is in
    record {
      within = at.within;
      found = λ other. found_there (has_key job_number number) jobs place other at;
      removed = removed_there (has_key job_number number) jobs place at;
    }

-- a job of no child process
no_job : Job
no_job = record { number = 0; kind = kinds.Helper }

-- so there is one
pub is_there : (number : ℕ) (jobs : List Job) (place : ℕ) → IsJobAt number jobs place →
    IsSome (find_to_start number jobs)
is_there number jobs place at = rw (at.found no_job) refl

-- ---- started jobs

pub is_started_place : (number : ℕ) (jobs : List Started) (result : Option ℕ) →
    result ≡ position (has_key begun_number number) jobs →
    MatchOption result (find_started number (all_started jobs) ≡ None)
    (λ place. IsStartedAt number jobs place)
is_started_place number jobs None is =
    find-map started_job (has_key (λ (one : StartedJob). one.job.number) number) (has_key begun_number number) (λ _. refl) jobs
    ∙ ap (option_map started_job) (first.is_place (has_key begun_number number) jobs None is)
is_started_place number jobs (Some place) is =
    let at : IsFirst (has_key begun_number number) jobs place =
    first.is_place (has_key begun_number number) jobs (Some place) is in
    record {
      within = at.within;
      found = λ other.
          find-map started_job (has_key (λ (one : StartedJob). one.job.number) number) (has_key begun_number number) (λ _. refl) jobs
          ∙ ap (option_map started_job) (found_there (has_key begun_number number) jobs place other at);
      removed = remove-map started_job (has_key (λ (one : StartedJob). one.job.number) number) (has_key begun_number number) (λ _. refl) jobs
          ∙ ap all_started (removed_there (has_key begun_number number) jobs place at);
    }
