-- What a request may begin: at most one more ask, for the helper that is there or coming.
use Rattle.std.proofs.Common.{◌≡◌, ℕ, ◌+◌, ◌≤◌, arith, List, [], ◌∷◌, ◌++◌, length, refl, ap, Option, Some, None}
use Rattle.std.proofs.lemmas.List.{length-append}
use Rattle.lists.proofs.FirstLemmas.{find-push_other}
use Rattle.confirm_desk.specs.Confirmations.{Confirmation, confirmation_of, find_linked, is_at, came_to}
use Rattle.confirm_desk.specs.Prompt.{prompt_for}
use Rattle.helper_link.specs.HelperLink.{ask_of}
use Rattle.helper_link.specs.declared.state.LinkState.{LinkState}
use Rattle.helper_link.specs.declared.state.LinkState.TheVariants as states
use Rattle.agent_model.specs.Asking.{JobsRise}
use Rattle.agent_model.specs.Dispatch.{Asker, Served, host_for}
use Rattle.agent_model.specs.Errands.{Errand, begun_by, held_for, blob_of, kind_of, last_job_for, put_unless}
use Rattle.agent_model.specs.KeyStates.{KeyState}
use Rattle.agent_model.specs.State.{UnderWay, is_linked_to}
use Rattle.agent_model.specs.Verdicts.{Cause}
use Rattle.agent_model.proofs.JobLemmas.{jobs-higher, jobs-push}
use Rattle.agent_model.proofs.ServeLemmas.{IsServed, answered, asked, raised, refused}
use Rattle.agent_model.proofs.SizeLemmas.{size_of}

-- the child processes that have named themselves stay who they are, the jobs of confirmations go on rising, and no
-- number falls
pub record AsksMore (old new : UnderWay) : Type 0 where
  pub helper : (number : ℕ)
      → is_linked_to number new.link.state ≡ is_linked_to number old.link.state
  pub confirmers : (number : ℕ)
      → find_linked number new.confirmations ≡ find_linked number old.confirmations
  pub order : JobsRise 0 old.confirmations old.last_job → JobsRise 0 new.confirmations new.last_job
  pub jobs : old.last_job ≤ new.last_job
  pub asks : old.link.last ≤ new.link.last
  pub few : length new.link.asks + length new.confirmations ≤ length old.link.asks + length old.confirmations + 1

-- nothing is begun
nothing_more : (under_way : UnderWay) → AsksMore under_way under_way
nothing_more under_way = record { helper = λ number. refl; confirmers = λ number. refl; order = λ rise. rise; jobs = omega arith; asks = omega arith; few = omega arith }

linked-begun : (state : LinkState) (job number : ℕ)
    → is_linked_to number (begun_by state job) ≡ is_linked_to number state
linked-begun states.None job number = refl
linked-begun (states.Starting other) job number = refl
linked-begun (states.Linked port) job number = refl

-- no job's number falls
pub jobs-for : (state : LinkState) (last : ℕ) → last ≤ last_job_for state last
jobs-for states.None last = omega arith
jobs-for (states.Starting job) last = omega arith
jobs-for (states.Linked port) last = omega arith

-- an ask is put, or not
pub more-put : (fault : Option Cause) (errand : Errand) (asker : ℕ) (under_way : UnderWay)
    → AsksMore under_way (put_unless fault errand asker under_way).under_way
more-put (Some cause) errand asker under_way = nothing_more under_way
more-put None errand asker under_way = record {
  helper = λ number. linked-begun under_way.link.state (under_way.last_job + 1) number;
  confirmers = λ number. refl;
  order = jobs-higher 0 under_way.confirmations under_way.last_job _ (jobs-for under_way.link.state under_way.last_job);
  jobs = jobs-for under_way.link.state under_way.last_job;
  asks = omega arith;
  few = omega (arith, length-append under_way.link.asks (ask_of (under_way.link.last + 1) asker (kind_of errand) (blob_of errand) under_way.second (size_of errand (under_way.link.last + 1)) ∷ []));
}

-- a confirmation whose child process hasn't come is nobody's
linked-behind : (number : ℕ) (one : Confirmation) (confirmations : List Confirmation)
    → one.port ≡ None
    → find_linked number (confirmations ++ one ∷ []) ≡ find_linked number confirmations
linked-behind number one confirmations nowhere =
    find-push_other (came_to number) confirmations one (ap (is_at number) nowhere)

-- whatever is asked
pub asks_more : {asker : Asker} {held : KeyState} {under_way : UnderWay} {served : Served}
    → IsServed asker held under_way served → AsksMore under_way served.work.under_way
asks_more {under_way = under_way} (answered reply kept same) = nothing_more under_way
asks_more {under_way = under_way} (refused cause) = nothing_more under_way
asks_more {asker = asker} {under_way = under_way} (asked errand free right) =
    more-put None errand asker.port under_way
asks_more {asker = asker} {under_way = under_way} (raised key signing free) = record {
  helper = λ number. refl;
  confirmers = λ number. linked-behind number (confirmation_of (under_way.last_job + 1) (held_for asker.port key signing) (prompt_for key.comment key.blob key.purposes (host_for asker key signing) signing.message) under_way.second) under_way.confirmations refl;
  order = jobs-push 0 (confirmation_of (under_way.last_job + 1) (held_for asker.port key signing) (prompt_for key.comment key.blob key.purposes (host_for asker key signing) signing.message) under_way.second) under_way.confirmations under_way.last_job refl;
  jobs = omega arith;
  asks = omega arith;
  few = omega (arith, length-append under_way.confirmations (confirmation_of (under_way.last_job + 1) (held_for asker.port key signing) (prompt_for key.comment key.blob key.purposes (host_for asker key signing) signing.message) under_way.second ∷ []));
}
