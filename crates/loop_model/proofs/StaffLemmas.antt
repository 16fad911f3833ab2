-- The jobs of child processes fit what is under way, whatever happens.
use Rattle.std.proofs.Common.{◌≡◌, ◌≢◌, ℕ, ◌+◌, ◌==◌, Bool, true, false, if◌then◌else◌, List, [], ◌∷◌, ◌++◌, Option, Some, None, is_some, refl, sym, ap, ◌∙◌, subst}
use Rattle.std.specs.Option.{option_map}
use Rattle.std.proofs.lemmas.Bool.{eq-eqb, eqb-true}
use Rattle.std.proofs.lemmas.List.{append-nil}
use Rattle.lists.proofs.FirstLemmas.{some_or_later}
use Rattle.lists.proofs.KeyedLemmas.{found_key}
use Rattle.world_ports.specs.declared.events.Job.{Job}
use Rattle.world_ports.specs.declared.events.JobKind.TheVariants as kinds
use Rattle.world_ports.specs.declared.events.JobKind.{JobKind}
use Rattle.confirm_desk.specs.Confirmations.{Confirmation, change_job, confirmation_of, find_job, linked, remove_job}
use Rattle.confirm_desk.specs.Prompt.{prompt_for}
use Rattle.helper_link.specs.HelperLink.{HelperLink}
use Rattle.helper_link.specs.declared.state.LinkState.TheVariants as states
use Rattle.helper_link.specs.declared.state.LinkState.{LinkState}
use Rattle.agent_msg.specs.Requests.{Signing}
use Rattle.identity_table.specs.Identities.{HeldKey}
use Rattle.agent_model.specs.Answers.{forget_helper, lose}
use Rattle.agent_model.specs.Children.{is_started_by, is_wanted, remove_to_start, started_if}
use Rattle.agent_model.specs.Consents.{find_started, remove_started, without_confirmation}
use Rattle.agent_model.specs.Errands.{Errand, begun_by, held_for, helper_jobs, last_job_for, with_ask, with_confirmation}
use Rattle.agent_model.specs.State.{StartedJob, State, UnderWay, find_to_start}
use Rattle.under_way.specs.Parts.{AreGiven, AreKept, FitsStarted, IsAwaited, jobs_of, the_job}
use Rattle.under_way.proofs.KeptLemmas.{given_at, kept-changed, kept-confirm, kept-helper, kept-left, kept-linked, kept-lost, kept-moved, kept-named, linked_not_begun, linked_not_due, pushed-jobs, removed-jobs, started-jobs}
use Rattle.loop_model.specs.Orderly.{AreComing, IsComing, IsStaffed}

-- ---- the jobs of helpers

-- one of them leaves
coming-remove : (link : LinkState) (number : ℕ) (started : List StartedJob) → AreComing link started
    → AreComing link (remove_started number started)
coming-remove link number [] coming = tt
coming-remove link number (one ∷ started) coming =
    by (one.job.number == number) (coming-remove link number started coming.1)
  where
    by : (here : Bool) → AreComing link (remove_started number started)
        → AreComing link (if here then started else one ∷ remove_started number started)
    by true rest = coming.1
    by false rest = (coming.0, rest)

-- one more is started
coming-push : (link : LinkState) (started : List StartedJob) (one : StartedJob)
    → AreComing link started
    → IsComing one.job.kind one.job.number link → AreComing link (started ++ one ∷ [])
coming-push link [] one coming is = (is, tt)
coming-push link (first ∷ started) one coming is =
    (coming.0, coming-push link started one coming.1 is)

coming-found : (link : LinkState) (number : ℕ) (started : List StartedJob) (one : StartedJob)
    → AreComing link started
    → find_started number started ≡ Some one → IsComing one.job.kind one.job.number link
coming-found link number [] one coming found = absurd (cc)
coming-found link number (first ∷ started) one coming found =
    by (first.job.number == number) found (coming-found link number started one coming.1)
  where
    by : (here : Bool) → (if here then Some first else find_started number started) ≡ Some one
        → (find_started number started ≡ Some one → IsComing one.job.kind one.job.number link)
        → IsComing one.job.kind one.job.number link
    by true is rest =
        let equal : first ≡ one = cc in
        subst (λ (s : StartedJob). IsComing s.job.kind s.job.number link) equal coming.0
    by false is rest = rest is

-- a link that is to be started has none that was
begun-one : (kind : JobKind) (number job : ℕ) (link : LinkState) → IsComing kind number link
    → IsComing kind number (begun_by link job)
begun-one kinds.Confirm number job link coming = tt
begun-one kinds.Helper number job states.None coming = absurd (cc)
begun-one kinds.Helper number job (states.Starting earlier) coming = coming
begun-one kinds.Helper number job (states.Linked port) coming = absurd (cc)

coming-begun : (link : LinkState) (job : ℕ) (started : List StartedJob) → AreComing link started
    → AreComing (begun_by link job) started
coming-begun link job [] coming = tt
coming-begun link job (one ∷ started) coming =
    (begun-one one.job.kind one.job.number job link coming.0, coming-begun link job started coming.1)

-- a helper that is there has none
linked-one : (kind : JobKind) (number port : ℕ) (new : LinkState)
    → IsComing kind number (states.Linked port)
    → IsComing kind number new
linked-one kinds.Helper number port new coming = absurd (cc)
linked-one kinds.Confirm number port new coming = tt

coming-linked : (port : ℕ) (new : LinkState) (started : List StartedJob)
    → AreComing (states.Linked port) started
    → AreComing new started
coming-linked port new [] coming = tt
coming-linked port new (one ∷ started) coming =
    (linked-one one.job.kind one.job.number port new coming.0, coming-linked port new started coming.1)

-- and without the job by which it is being started there is none
other-one : (kind : JobKind) (number job : ℕ) (new : LinkState)
    → IsComing kind number (states.Starting job)
    → (number == job) ≡ false → IsComing kind number new
other-one kinds.Helper number job new coming other =
    let same : number ≡ job = cc in
    let no : false ≡ true = sym other ∙ eq-eqb number job same in
    absurd (cc)
other-one kinds.Confirm number job new coming other = tt

none-other : (job : ℕ) (new : LinkState) (started : List StartedJob)
    → AreComing (states.Starting job) started
    → find_to_start job (jobs_of started) ≡ None → AreComing new started
none-other job new [] coming none = tt
none-other job new (one ∷ started) coming none =
    let both = some_or_later (one.job.number == job) one.job (find_to_start job (jobs_of started)) none in
    (other-one one.job.kind one.job.number job new coming.0 both.0, none-other job new started coming.1 both.1)

coming-gone : (last job : ℕ) (desk : List Confirmation) (new : LinkState) (started : List StartedJob)
    → AreComing (states.Starting job) started → AreGiven FitsStarted last desk (jobs_of started)
    → AreComing new (remove_started job started)
coming-gone last job desk new [] coming given = tt
coming-gone last job desk new (one ∷ started) coming given =
    by (one.job.number == job) refl (coming-gone last job desk new started coming.1 given.3)
  where
    by : (here : Bool) → (one.job.number == job) ≡ here → AreComing new (remove_started job started)
        → AreComing new (if here then started else one ∷ remove_started job started)
    by true is rest =
        none-other job new started coming.1
        (ap (λ n. find_to_start n (jobs_of started)) (sym (eqb-true one.job.number job is)) ∙ given.1)
    by false is rest = (other-one one.job.kind one.job.number job new coming.0 is, rest)

-- ---- the helper is lost

lost_by : (link : LinkState) (last : ℕ) (desk : List Confirmation) (due : List Job) (started : List StartedJob)
    → AreKept last desk due (jobs_of started) → AreComing link started
    → AreKept last desk due (jobs_of (forget_helper link started)) × AreComing states.None (forget_helper link started)
lost_by states.None last desk due started kept coming = (kept, coming)
lost_by (states.Starting job) last desk due started kept coming = (
  subst (AreKept last desk due) (sym (removed-jobs job started))
      (kept-named last job desk due (jobs_of started) kept),
  coming-gone last job desk states.None started coming kept.started,
)
lost_by (states.Linked port) last desk due started kept coming =
    (kept, coming-linked port states.None started coming)

pub staffed-lost : (state : State) → IsStaffed state.under_way
    → IsStaffed (lose state).state.under_way
staffed-lost state staffed =
    let u = state.under_way in
    let both = lost_by u.link.state u.last_job u.confirmations u.to_start u.started staffed.jobs staffed.coming in
    record { jobs = both.0; coming = both.1 }

-- ---- asks and confirmations

put_by : (link : LinkState) (last : ℕ) (desk : List Confirmation) (due begun : List Job)
    → AreKept last desk due begun
    → AreKept (last_job_for link last) desk (due ++ helper_jobs link (last + 1)) begun
put_by states.None last desk due begun kept = kept-helper last desk due begun kept
put_by (states.Starting job) last desk due begun kept =
    subst (λ jobs. AreKept last desk jobs begun) (sym (append-nil due)) kept
put_by (states.Linked port) last desk due begun kept =
    subst (λ jobs. AreKept last desk jobs begun) (sym (append-nil due)) kept

pub staffed-put : (errand : Errand) (asker : ℕ) (u : UnderWay) → IsStaffed u
    → IsStaffed (with_ask errand asker u)
staffed-put errand asker u staffed = record {
  jobs = put_by u.link.state u.last_job u.confirmations u.to_start (jobs_of u.started) staffed.jobs;
  coming = coming-begun u.link.state (u.last_job + 1) u.started staffed.coming;
}

pub staffed-raised : (key : HeldKey) (host : Option (List ℕ)) (signing : Signing) (asker : ℕ) (u : UnderWay) → IsStaffed u
    → IsStaffed (with_confirmation key host signing asker u)
staffed-raised key host signing asker u staffed =
    let new = confirmation_of (u.last_job + 1) (held_for asker key signing) (prompt_for key.comment key.blob key.purposes host signing.message) u.second in
    record {
      jobs = kept-confirm u.last_job u.confirmations u.to_start (jobs_of u.started) new staffed.jobs refl refl;
      coming = staffed.coming;
    }

pub staffed-over : (job : ℕ) (u : UnderWay) → IsStaffed u → IsStaffed (without_confirmation job u)
staffed-over job u staffed =
    let same = removed-jobs job u.started in
    record {
      jobs = subst (AreKept u.last_job (remove_job job u.confirmations) u.to_start) (sym same)
          (kept-lost u.last_job job u.confirmations u.to_start (jobs_of u.started) staffed.jobs);
      coming = coming-remove u.link.state job u.started staffed.coming;
    }

-- one whose child process came is changed
pub staffed-changed : (u : UnderWay) (port : ℕ) (one : Confirmation) (f : Confirmation → Confirmation)
    → IsStaffed u
    → find_job one.job u.confirmations ≡ Some one → one.port ≡ Some port → ((c : Confirmation) → (f c).job ≡ c.job)
    → IsStaffed (record u { confirmations = change_job one.job f u.confirmations })
staffed-changed u port one f staffed found at keeps = record {
  jobs = kept-changed u.last_job one.job f u.confirmations u.to_start (jobs_of u.started) keeps
      (linked_not_due u.last_job one.job port u.confirmations u.to_start one staffed.jobs.to_start found at)
      (linked_not_begun u.last_job one.job port u.confirmations (jobs_of u.started) one staffed.jobs.started found at)
      staffed.jobs;
  coming = staffed.coming;
}

-- ---- jobs that are started

pub staffed-left : (u : UnderWay) (number : ℕ) → IsStaffed u
    → IsStaffed (record u { to_start = remove_to_start number u.to_start })
staffed-left u number staffed = record {
  jobs = kept-left u.last_job number u.confirmations u.to_start (jobs_of u.started) staffed.jobs;
  coming = staffed.coming;
}

pub staffed-moved : (u : UnderWay) (number : ℕ) (job : Job) (ticket : List ℕ) → IsStaffed u
    → find_to_start number u.to_start ≡ Some job
    → (job.kind ≡ kinds.Confirm → find_job job.number u.confirmations ≡ None → ⊥)
    → IsComing job.kind job.number u.link.state → IsStaffed (record u {
      to_start = remove_to_start number u.to_start;
      started = u.started ++ record { job = job; ticket = ticket } ∷ [];
    })
staffed-moved u number job ticket staffed found wanted is =
    let one : StartedJob = record { job = job; ticket = ticket } in
    let same = pushed-jobs u.started (one ∷ []) in
    record {
      jobs = subst (AreKept u.last_job u.confirmations (remove_to_start number u.to_start)) (sym same)
          (kept-moved u.last_job number u.confirmations u.to_start (jobs_of u.started) job staffed.jobs found wanted);
      coming = coming-push u.link.state u.started one staffed.coming is;
    }

-- one that no child process may name
staffed-dropped : (u : UnderWay) (number : ℕ) → IsStaffed u → IsStaffed (record u {
  to_start = remove_to_start number u.to_start;
  started = u.started ++ [];
})
staffed-dropped u number staffed =
    subst (λ (started : List StartedJob). IsStaffed (record u {
      to_start = remove_to_start number u.to_start;
      started = started;
    })) (sym (append-nil u.started)) (staffed-left u number staffed)

-- what is wanted: the helper that is being started by this job, or the confirmation
starting_is : (number : ℕ) (link : LinkState) → is_started_by number link ≡ true
    → link ≡ states.Starting number
starting_is number states.None is = absurd (cc)
starting_is number (states.Starting job) is = ap states.Starting (eqb-true job number is)
starting_is number (states.Linked port) is = absurd (cc)

wanted_coming : (kind : JobKind) (number : ℕ) (u : UnderWay) → is_wanted kind number u ≡ true
    → IsComing kind number u.link.state
wanted_coming kinds.Helper number u is = starting_is number u.link.state is
wanted_coming kinds.Confirm number u is = tt

wanted_there : (kind : JobKind) (number : ℕ) (u : UnderWay) → is_wanted kind number u ≡ true
    → kind ≡ kinds.Confirm
    → find_job number u.confirmations ≡ None → ⊥
wanted_there kinds.Helper number u is kind none = absurd (cc)
wanted_there kinds.Confirm number u is kind none =
    let no : false ≡ true = sym (ap is_some none) ∙ is in absurd (cc)

started_by : (test : Bool) (u : UnderWay) (number : ℕ) (job : Job) (ticket : List ℕ) → IsStaffed u
    → find_to_start number u.to_start ≡ Some job → is_wanted job.kind job.number u ≡ test → IsStaffed (record u {
      to_start = remove_to_start number u.to_start;
      started = u.started ++ (if test then record { job = job; ticket = ticket } ∷ [] else []);
    })
started_by false u number job ticket staffed found is = staffed-dropped u number staffed
started_by true u number job ticket staffed found is =
    staffed-moved u number job ticket staffed found (wanted_there job.kind job.number u is)
    (wanted_coming job.kind job.number u is)

pub staffed-started : (found : Option Job) (u : UnderWay) (number : ℕ) (ticket : List ℕ)
    → IsStaffed u
    → find_to_start number u.to_start ≡ found → IsStaffed (record u {
      to_start = remove_to_start number u.to_start;
      started = u.started ++ started_if found ticket u;
    })
staffed-started None u number ticket staffed is = staffed-dropped u number staffed
staffed-started (Some job) u number ticket staffed is =
    started_by (is_wanted job.kind job.number u) u number job ticket staffed is refl

-- ---- child processes name themselves

job_found : (number : ℕ) (started : List StartedJob) (one : StartedJob)
    → find_started number started ≡ Some one
    → find_to_start number (jobs_of started) ≡ Some one.job
job_found number started one found = started-jobs number started ∙ ap (option_map the_job) found

-- a started helper is the one that is being started
named_starting : (u : UnderWay) (number : ℕ) (one : StartedJob) → IsStaffed u
    → find_started number u.started ≡ Some one
    → one.job.kind ≡ kinds.Helper → u.link.state ≡ states.Starting number
named_starting u number one staffed found is =
    let own : one.job.number ≡ number = found_key (λ (one : StartedJob). one.job.number) number u.started one found in
    subst (λ (n : ℕ). IsComing kinds.Helper n u.link.state) own
    (subst (λ (kind : JobKind). IsComing kind one.job.number u.link.state) is
    (coming-found u.link.state number u.started one staffed.coming found))

pub not_linked : (u : UnderWay) (number port : ℕ) (one : StartedJob) → IsStaffed u
    → find_started number u.started ≡ Some one → one.job.kind ≡ kinds.Helper → u.link.state ≢ states.Linked port
not_linked u number port one staffed found is linked =
    let both : states.Starting number ≡ states.Linked port =
    sym (named_starting u number one staffed found is) ∙ linked in
    absurd (cc)

pub staffed-helper : (u : UnderWay) (number : ℕ) (one : StartedJob) (link : HelperLink)
    → IsStaffed u
    → find_started number u.started ≡ Some one → one.job.kind ≡ kinds.Helper
    → IsStaffed (record u { link = link; started = remove_started number u.started })
staffed-helper u number one link staffed found is = record {
  jobs = subst (AreKept u.last_job u.confirmations u.to_start) (sym (removed-jobs number u.started))
      (kept-named u.last_job number u.confirmations u.to_start (jobs_of u.started) staffed.jobs);
  coming = coming-gone u.last_job number u.confirmations link.state u.started
      (subst (λ (state : LinkState). AreComing state u.started) (named_starting u number one staffed found is)
      staffed.coming) staffed.jobs.started;
}

pub staffed-linked : (u : UnderWay) (number port : ℕ) (one : StartedJob) → IsStaffed u
    → find_started number u.started ≡ Some one
    → IsStaffed (record u {
      started = remove_started number u.started;
      confirmations = linked number port u.confirmations;
    })
staffed-linked u number port one staffed found =
    let same = removed-jobs number u.started in
    record {
      jobs = subst (AreKept u.last_job (linked number port u.confirmations) u.to_start) (sym same)
          (kept-linked u.last_job number port u.confirmations u.to_start (jobs_of u.started) one.job
          (job_found number u.started one found) staffed.jobs);
      coming = coming-remove u.link.state number u.started staffed.coming;
    }

-- the confirmation of a started job is one that no child process came for
awaited_by : (kind : JobKind) (found : Option Confirmation) → kind ≡ kinds.Confirm
    → FitsStarted kind found
    → IsAwaited found
awaited_by kinds.Helper found is fits = absurd (cc)
awaited_by kinds.Confirm found is fits = fits

pub awaited : (u : UnderWay) (number : ℕ) (one : StartedJob) → IsStaffed u
    → find_started number u.started ≡ Some one
    → one.job.kind ≡ kinds.Confirm → IsAwaited (find_job number u.confirmations)
awaited u number one staffed found is =
    awaited_by one.job.kind (find_job number u.confirmations) is
    (given_at FitsStarted u.last_job number u.confirmations (jobs_of u.started) one.job staffed.jobs.started
    (job_found number u.started one found)).2
