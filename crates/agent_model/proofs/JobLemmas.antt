-- Confirmations in the order of their jobs, and which of them a job, a client or a port finds.
use Rattle.std.proofs.Common.{◌≡◌, ◌≢◌, ℕ, ◌+◌, ◌<◌, ◌≤◌, List, [], ◌∷◌, ◌++◌, refl, ap, arith, subst, ◌==◌, ◌⊎◌, Option, Some, None, Bool, true, false, cond, eq-eqb}
use Rattle.std.specs.List.{find}
use Rattle.std.specs.Option.{option_map}
use Rattle.std.proofs.lemmas.Bool.{eqb-true}
use Rattle.std.proofs.lemmas.Bool.Decides.{nat_tests}
use Rattle.lists.specs.Keyed.{has_key}
use Rattle.lists.proofs.FirstLemmas.{find-change_either, find-change_found, found_passes, some_or_later}
use Rattle.lists.proofs.KeyedLemmas as keyed
use Rattle.lists.proofs.KeyedLemmas.{differ, find_by-change_apart, find_by-push, find_by-remove, found_above, found_key, found_within, keeps_key, rise-change, rise-higher, rise-only, rise-push, rise-remove}
use Rattle.confirm_desk.specs.Confirmations.{Confirmation, asker_of, came_to, change_job, find_asker, find_job, find_linked, is_at, job_of, remove_job}
use Rattle.agent_model.specs.Asking.{JobsRise}

-- ---- the order

-- the last job may be a later one
pub jobs-higher : (below : ℕ) (confirmations : List Confirmation) (last high : ℕ) → last ≤ high
    → JobsRise below confirmations last → JobsRise below confirmations high
jobs-higher below confirmations last high above rise =
    rise-higher job_of below last high confirmations above rise

-- the next job is above them all
pub jobs-push : (below : ℕ) (new : Confirmation) (confirmations : List Confirmation) (last : ℕ)
    → new.job ≡ last + 1 → JobsRise below confirmations last
    → JobsRise below (confirmations ++ new ∷ []) (last + 1)
jobs-push below new confirmations last number rise =
    subst (λ high. JobsRise below (confirmations ++ new ∷ []) high) number
    (rise-push job_of below last confirmations new (omega (arith, number)) rise)

-- one less
pub jobs-remove : (job below : ℕ) (confirmations : List Confirmation) (last : ℕ)
    → JobsRise below confirmations last → JobsRise below (remove_job job confirmations) last
jobs-remove job below confirmations last rise = rise-remove job_of job below last confirmations rise

-- one changed under its job
pub jobs-change : (job below : ℕ) (f : Confirmation → Confirmation) (confirmations : List Confirmation) (last : ℕ)
    → ((c : Confirmation) → (f c).job ≡ c.job) → JobsRise below confirmations last
    → JobsRise below (change_job job f confirmations) last
jobs-change job below f confirmations last keeps rise =
    rise-change job_of job below last f confirmations keeps rise

-- ---- what a job finds

-- what is found by a job has it, and the job is one of those given
pub job_within : (job below : ℕ) (confirmations : List Confirmation) (last : ℕ) (one : Confirmation)
    → JobsRise below confirmations last → find_job job confirmations ≡ Some one
    → (below < job) × (job ≤ last) × (one.job ≡ job)
job_within job below confirmations last one rise found = (
  found_above job_of job below last confirmations one rise found,
  found_within job_of job below last confirmations one rise found,
  found_key job_of job confirmations one found,
)

-- one more at the end is found by its job, and the others by theirs
pub find_job-push : (job below : ℕ) (new : Confirmation) (confirmations : List Confirmation) (last : ℕ)
    → JobsRise below confirmations last → last < new.job
    → find_job job (confirmations ++ new ∷ []) ≡ cond (new.job == job) (Some new) (find_job job confirmations)
find_job-push job below new confirmations last rise above =
    find_by-push job_of job below last confirmations new above rise

-- one less isn't found by its job any more, and the others are by theirs
pub find_job-remove : (job other below : ℕ) (confirmations : List Confirmation) (last : ℕ)
    → JobsRise below confirmations last
    → find_job job (remove_job other confirmations) ≡ cond (other == job) None (find_job job confirmations)
find_job-remove job other below confirmations last rise =
    find_by-remove job_of job other below last confirmations rise

-- ---- one that is changed

-- what is found after a change was there, and is the same or that one changed
pub changed_back : (job at : ℕ) (f : Confirmation → Confirmation) (confirmations : List Confirmation) (one : Confirmation)
    → ((c : Confirmation) → (f c).job ≡ c.job)
    → find_job job (change_job at f confirmations) ≡ Some one
    → (was : Confirmation) × (find_job job confirmations ≡ Some was) × ((one ≡ was) ⊎ (one ≡ f was))
changed_back job at f confirmations one keeps found =
    keyed.changed_back job_of job at f confirmations one keeps found

-- and what was there is found after it
pub changed_forth : (job at : ℕ) (f : Confirmation → Confirmation) (confirmations : List Confirmation) (was : Confirmation)
    → ((c : Confirmation) → (f c).job ≡ c.job) → find_job job confirmations ≡ Some was
    → (one : Confirmation) × (find_job job (change_job at f confirmations) ≡ Some one) × ((one ≡ was) ⊎ (one ≡ f was))
changed_forth job at f confirmations was keeps found =
    keyed.changed_forth job_of job at f confirmations was keeps found

-- another job's is found as it was
pub change-apart : (job at : ℕ) (f : Confirmation → Confirmation) (confirmations : List Confirmation)
    → ((c : Confirmation) → (f c).job ≡ c.job) → job ≢ at
    → find_job job (change_job at f confirmations) ≡ find_job job confirmations
change-apart job at f confirmations keeps differs =
    find_by-change_apart job_of job at f confirmations keeps differs

-- what is found after a change is what was found, or that changed
pub job-change : (job at : ℕ) (f : Confirmation → Confirmation) (confirmations : List Confirmation)
    → ((c : Confirmation) → (f c).job ≡ c.job)
    → (find_job job (change_job at f confirmations) ≡ find_job job confirmations) ⊎ (find_job job (change_job at f confirmations) ≡ option_map f (find_job job confirmations))
job-change job at f confirmations keeps =
    find-change_either (has_key job_of job) (has_key job_of at) f confirmations (keeps_key job_of job f keeps)

-- ---- which are there

-- a confirmation is one of these
pub data IsIn (one : Confirmation) : List Confirmation → Type 0 where
  here : (others : List Confirmation) → IsIn one (one ∷ others)
  behind : (other : Confirmation) (others : List Confirmation) → IsIn one others
      → IsIn one (other ∷ others)

-- what any test finds is there
pub in-found_by : (test : Confirmation → Bool) (confirmations : List Confirmation) (one : Confirmation)
    → find test confirmations ≡ Some one → IsIn one confirmations
in-found_by test [] one found = absurd (cc)
in-found_by test (first ∷ others) one found = by_test (test first) found (in-found_by test others one)
  where
    by_test : (is : Bool) → cond is (Some first) (find test others) ≡ Some one
        → (find test others ≡ Some one → IsIn one others) → IsIn one (first ∷ others)
    by_test true some rest =
        let equal : first ≡ one = cc in subst (λ c. IsIn c (first ∷ others)) equal (here others)
    by_test false some rest = behind first others (rest some)

-- where a search finds nothing, nothing that is there passes
pub none_passes : (test : Confirmation → Bool) (one : Confirmation) {confirmations : List Confirmation}
    → IsIn one confirmations → find test confirmations ≡ None → test one ≡ false
none_passes test one (here others) none = (some_or_later (test one) one (find test others) none).0
none_passes test one (behind other others there) none =
    none_passes test one there (some_or_later (test other) other (find test others) none).1

pub in-by_job : (job : ℕ) (confirmations : List Confirmation) (one : Confirmation)
    → find_job job confirmations ≡ Some one → IsIn one confirmations
in-by_job job confirmations one found = in-found_by (has_key job_of job) confirmations one found

pub in-by_asker : (asker : ℕ) (confirmations : List Confirmation) (one : Confirmation)
    → find_asker asker confirmations ≡ Some one → IsIn one confirmations
in-by_asker asker confirmations one found = in-found_by (has_key asker_of asker) confirmations one found

pub in-by_port : (port : ℕ) (confirmations : List Confirmation) (one : Confirmation)
    → find_linked port confirmations ≡ Some one → IsIn one confirmations
in-by_port port confirmations one found = in-found_by (came_to port) confirmations one found

-- what is there has a job above the bound
pub in-above : (one : Confirmation) (below last : ℕ) {confirmations : List Confirmation}
    → JobsRise below confirmations last → IsIn one confirmations → below < one.job
in-above one below last rise (here others) = rise.0
in-above one below last rise (behind other others there) = omega (arith, rise.0, in-above one other.job last rise.1 there)

-- and is found by its job
pub in-found : (one : Confirmation) (below last : ℕ) {confirmations : List Confirmation}
    → JobsRise below confirmations last → IsIn one confirmations
    → find_job one.job confirmations ≡ Some one
in-found one below last rise (here others) = grind (arith, nat_tests)
in-found one below last rise (behind other others there) =
    let above : other.job < one.job = in-above one other.job last rise.1 there in
    rw (differ other.job one.job (λ is. omega arith)) (in-found one other.job last rise.1 there)

-- ---- which is linked to a port

-- a change that leaves the ports leaves who is linked to one, or changes it
pub linked-change : (port at : ℕ) (f : Confirmation → Confirmation) (confirmations : List Confirmation)
    → ((c : Confirmation) → (f c).port ≡ c.port)
    → (find_linked port (change_job at f confirmations) ≡ find_linked port confirmations) ⊎ (find_linked port (change_job at f confirmations) ≡ option_map f (find_linked port confirmations))
linked-change port at f confirmations keeps =
    find-change_either (came_to port) (has_key job_of at) f confirmations (λ c. ap (is_at port) (keeps c))

-- who is linked to the port is found there as it is changed
pub linked-changed : (port below : ℕ) (f : Confirmation → Confirmation) (confirmations : List Confirmation) (last : ℕ) (one : Confirmation)
    → ((c : Confirmation) → (f c).port ≡ c.port) → JobsRise below confirmations last
    → find_linked port confirmations ≡ Some one
    → find_linked port (change_job one.job f confirmations) ≡ Some (f one)
linked-changed port below f confirmations last one keeps rise found =
    find-change_found (came_to port) (has_key job_of one.job) f confirmations one (λ c. ap (is_at port) (keeps c))
    (rise-only job_of one.job below last confirmations rise) found (eq-eqb one.job one.job refl)

-- what is found at a port came there
pub linked_port : (port : ℕ) (confirmations : List Confirmation) (one : Confirmation)
    → find_linked port confirmations ≡ Some one → one.port ≡ Some port
linked_port port confirmations one found = at_port one.port (found_passes (came_to port) confirmations one found)
  where
    at_port : (at : Option ℕ) → is_at port at ≡ true → at ≡ Some port
    at_port None is = absurd (cc)
    at_port (Some other) is = ap Some (eqb-true other port is)

-- who is found for a client is its own
pub asker_own : (asker : ℕ) (confirmations : List Confirmation) (one : Confirmation)
    → find_asker asker confirmations ≡ Some one → one.asker ≡ asker
asker_own asker confirmations one found = found_key asker_of asker confirmations one found
