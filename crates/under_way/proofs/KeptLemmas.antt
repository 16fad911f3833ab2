-- Jobs to start and started jobs: their numbers, and the confirmations that they are for.
use Rattle.std.proofs.Common.{◌≡◌, ℕ, ◌+◌, ◌<◌, ◌≤◌, Bool, true, false, cond, eqb, List, [], ◌∷◌, ◌++◌, Option, Some, None, refl, sym, ap, ◌∙◌, subst, arith}
use Rattle.std.specs.Option.{option_map}
use Rattle.std.proofs.lemmas.Bool.{eqb-false, eqb-true, eq-eqb, false_from_ne_true}
use Rattle.std.proofs.lemmas.Option.{none-some, same_Some}
use Rattle.lists.specs.Firsts.{IsOnly}
use Rattle.lists.specs.Keyed.{has_key}
use Rattle.lists.proofs.FirstLemmas.{find-map, find-push_other, find-remove_none, find-removed, remove-map, removed_nowhere, some_or_later}
use Rattle.world_ports.specs.declared.Job.{Job}
use Rattle.world_ports.specs.declared.JobKind.{JobKind}
use Rattle.world_ports.specs.declared.JobKind.TheVariants as kinds
use Rattle.helper_link.specs.declared.state.LinkState.{LinkState}
use Rattle.helper_link.specs.declared.state.LinkState.TheVariants as states
use Rattle.confirm_desk.specs.Confirmations.{Confirmation, change_job, find_job, linked, linked_at, remove_job}
use Rattle.agent_model.specs.Asking.{JobsRise}
use Rattle.agent_model.specs.Children.{remove_to_start}
use Rattle.agent_model.specs.Consents.{find_started, remove_started}
use Rattle.agent_model.specs.State.{StartedJob, find_to_start, job_number}
use Rattle.agent_model.proofs.JobLemmas.{change-apart, find_job-push, find_job-remove, jobs-change, jobs-higher, jobs-push, jobs-remove, job_within}
use Rattle.under_way.specs.Jobs.{all_started}
use Rattle.under_way.specs.declared.jobs.Started.{Started}
use Rattle.under_way.specs.Parts.{AreGiven, AreKept, AreStartedFor, FitsStarted, FitsToStart, IsStartedFor, IsUnlinked, jobs_of, the_job}

-- ---- numbers

-- what differs, differs the other way round
differs_back : (a b : ℕ) → eqb a b ≡ false → eqb b a ≡ false
differs_back a b is = false_from_ne_true (eqb b a) (λ e.
    let yes : eqb a b ≡ true = eq-eqb a b (sym (eqb-true b a e)) in absurd cc)

-- what is less, differs
differs_below : (a b : ℕ) → a < b → eqb a b ≡ false
differs_below a b below = false_from_ne_true (eqb a b) (λ e. let same = eqb-true a b e in omega arith)

-- ---- which job has a number

-- one less brings none
pub none-remove : (number other : ℕ) (jobs : List Job) → find_to_start number jobs ≡ None → find_to_start number (remove_to_start other jobs) ≡ None
none-remove number other jobs none = find-remove_none (has_key job_number number) (has_key job_number other) jobs none

-- nor does one more of another number
pub none-push : (number : ℕ) (jobs : List Job) (last : Job) → eqb last.number number ≡ false → find_to_start number jobs ≡ None →
    find_to_start number (jobs ++ last ∷ []) ≡ None
none-push number jobs last other none = find-push_other (has_key job_number number) jobs last other ∙ none

-- by whether there is one
pub none_by : {A : Type 0} (found : Option A) → ((one : A) → found ≡ Some one → ⊥) → found ≡ None
none_by None never = refl
none_by (Some one) never = absurd (never one refl)

-- ---- started jobs

pub started-jobs : (number : ℕ) (started : List StartedJob) → find_to_start number (jobs_of started) ≡ option_map the_job (find_started number started)
started-jobs number started = find-map the_job (has_key job_number number) (has_key (λ (one : StartedJob). one.job.number) number) (λ _. refl) started

pub removed-jobs : (number : ℕ) (started : List StartedJob) → jobs_of (remove_started number started) ≡ remove_to_start number (jobs_of started)
removed-jobs number started = sym (remove-map the_job (has_key job_number number) (has_key (λ (one : StartedJob). one.job.number) number) (λ _. refl) started)

pub pushed-jobs : (started more : List StartedJob) → jobs_of (started ++ more) ≡ jobs_of started ++ jobs_of more
pushed-jobs [] more = refl
pushed-jobs (one ∷ others) more = ap (λ (left : List Job). one.job ∷ left) (pushed-jobs others more)

-- ---- helpers' jobs

-- one less is to start or was started
pub for-remove : (state : LinkState) (number : ℕ) (jobs : List Job) → AreStartedFor state jobs → AreStartedFor state (remove_to_start number jobs)
for-remove state number [] all = tt
for-remove state number (job ∷ jobs) all = by (eqb job.number number) (for-remove state number jobs all.1)
  where
    by : (here : Bool) → AreStartedFor state (remove_to_start number jobs) → AreStartedFor state (cond here jobs (job ∷ remove_to_start number jobs))
    by true later = all.1
    by false later = (all.0, later)

-- and one more
pub for-push : (state : LinkState) (jobs : List Job) (last : Job) → AreStartedFor state jobs → IsStartedFor last.kind last.number state → AreStartedFor state (jobs ++ last ∷ [])
for-push state [] last all is = (is, tt)
for-push state (job ∷ jobs) last all is = (all.0, for-push state jobs last all.1 is)

-- of the one that is found
pub for_at : (state : LinkState) (number : ℕ) (jobs : List Job) (job : Job) → AreStartedFor state jobs → find_to_start number jobs ≡ Some job →
    IsStartedFor job.kind job.number state
for_at state number [] job all found = absurd (none-some job found)
for_at state number (first ∷ jobs) job all found = by (eqb first.number number) found (for_at state number jobs job all.1)
  where
    by : (here : Bool) → cond here (Some first) (find_to_start number jobs) ≡ Some job → (find_to_start number jobs ≡ Some job → IsStartedFor job.kind job.number state) →
        IsStartedFor job.kind job.number state
    by true some later = subst (λ (j : Job). IsStartedFor j.kind j.number state) (same_Some first job some) all.0
    by false some later = later some

-- where none is the job by which the link is starting, none is a helper's, and the link may come to any state
pub for-any : (state other : LinkState) (jobs : List Job) → ((n : ℕ) → state ≡ states.Starting n → find_to_start n jobs ≡ None) → AreStartedFor state jobs →
    AreStartedFor other jobs
for-any state other [] none all = tt
for-any state other (job ∷ jobs) none all = (
  by job.kind all.0,
  for-any state other jobs (λ n is. (some_or_later (eqb job.number n) job (find_to_start n jobs) (none n is)).1) all.1,
)
  where
    by : (kind : JobKind) → IsStartedFor kind job.number state → IsStartedFor kind job.number other
    by kinds.Confirm is = tt
    by kinds.Helper is =
        let no : eqb job.number job.number ≡ false = (some_or_later (eqb job.number job.number) job (find_to_start job.number jobs) (none job.number is)).0 in
        let yes : eqb job.number job.number ≡ true = eq-eqb job.number job.number refl in absurd cc

-- ---- jobs that were given

-- what is found has a number that was given, and fits
pub given_at : (Fits : JobKind → Option Confirmation → Type 0) (last number : ℕ) (desk : List Confirmation) (jobs : List Job) (job : Job) →
    AreGiven Fits last desk jobs → find_to_start number jobs ≡ Some job → (number ≤ last) × (job.number ≡ number) × Fits job.kind (find_job number desk)
given_at Fits last number desk [] job given found = absurd (none-some job found)
given_at Fits last number desk (first ∷ jobs) job given found = by (eqb first.number number) refl found (given_at Fits last number desk jobs job given.3)
  where
    by : (here : Bool) → eqb first.number number ≡ here → cond here (Some first) (find_to_start number jobs) ≡ Some job →
        (find_to_start number jobs ≡ Some job → (number ≤ last) × (job.number ≡ number) × Fits job.kind (find_job number desk)) →
        (number ≤ last) × (job.number ≡ number) × Fits job.kind (find_job number desk)
    by true is some later =
        let same : first ≡ job = same_Some first job some in
        let at : first.number ≡ number = eqb-true first.number number is in (
          subst (λ (n : ℕ). n ≤ last) at given.0,
          ap (λ (j : Job). j.number) (sym same) ∙ at,
          subst (λ (j : Job). Fits j.kind (find_job number desk)) same (subst (λ (n : ℕ). Fits first.kind (find_job n desk)) at given.2),
        )
    by false is some later = later some

-- a number above the last has none
pub given-none : (Fits : JobKind → Option Confirmation → Type 0) (last number : ℕ) (desk : List Confirmation) (jobs : List Job) → last < number →
    AreGiven Fits last desk jobs → find_to_start number jobs ≡ None
given-none Fits last number desk jobs above given =
    none_by (find_to_start number jobs) (λ job found. let within = (given_at Fits last number desk jobs job given found).0 in omega arith)

pub given-remove : (Fits : JobKind → Option Confirmation → Type 0) (last number : ℕ) (desk : List Confirmation) (jobs : List Job) → AreGiven Fits last desk jobs →
    AreGiven Fits last desk (remove_to_start number jobs)
given-remove Fits last number desk [] given = tt
given-remove Fits last number desk (job ∷ jobs) given = by (eqb job.number number) (given-remove Fits last number desk jobs given.3)
  where
    by : (here : Bool) → AreGiven Fits last desk (remove_to_start number jobs) → AreGiven Fits last desk (cond here jobs (job ∷ remove_to_start number jobs))
    by true later = given.3
    by false later = (given.0, none-remove job.number number jobs given.1, given.2, later)

-- each has a number of its own, so what was removed is there no more
given-only : (Fits : JobKind → Option Confirmation → Type 0) (last number : ℕ) (desk : List Confirmation) (jobs : List Job) → AreGiven Fits last desk jobs →
    IsOnly (has_key job_number number) jobs
given-only Fits last number desk [] given = tt
given-only Fits last number desk (job ∷ jobs) given = (
  λ is. ap (λ (n : ℕ). find_to_start n jobs) (sym (eqb-true job.number number is)) ∙ given.1,
  given-only Fits last number desk jobs given.3,
)

pub given-gone : (Fits : JobKind → Option Confirmation → Type 0) (last number : ℕ) (desk : List Confirmation) (jobs : List Job) → AreGiven Fits last desk jobs →
    find_to_start number (remove_to_start number jobs) ≡ None
given-gone Fits last number desk jobs given = find-removed (has_key job_number number) jobs (given-only Fits last number desk jobs given)

pub given-push : (Fits : JobKind → Option Confirmation → Type 0) (last : ℕ) (desk : List Confirmation) (jobs : List Job) (new : Job) → AreGiven Fits last desk jobs →
    new.number ≤ last → find_to_start new.number jobs ≡ None → Fits new.kind (find_job new.number desk) → AreGiven Fits last desk (jobs ++ new ∷ [])
given-push Fits last desk [] new given below none fits = (below, refl, fits, tt)
given-push Fits last desk (job ∷ jobs) new given below none fits =
    let both = some_or_later (eqb job.number new.number) job (find_to_start new.number jobs) none in (
      given.0,
      none-push job.number jobs new (differs_back job.number new.number both.0) given.1,
      given.2,
      given-push Fits last desk jobs new given.3 below both.1 fits,
    )

-- confirmations that change for another number alone
pub given-others : (Fits : JobKind → Option Confirmation → Type 0) (number last more : ℕ) (desk other : List Confirmation) (jobs : List Job) → last ≤ more →
    find_to_start number jobs ≡ None →
    ((n : ℕ) (kind : JobKind) → eqb n number ≡ false → n ≤ last → Fits kind (find_job n desk) → Fits kind (find_job n other)) →
    AreGiven Fits last desk jobs → AreGiven Fits more other jobs
given-others Fits number last more desk other [] up none keeps given = tt
given-others Fits number last more desk other (job ∷ jobs) up none keeps given =
    let both = some_or_later (eqb job.number number) job (find_to_start number jobs) none in (
      omega (arith, given.0, up),
      given.1,
      keeps job.number job.kind both.0 given.0 given.2,
      given-others Fits number last more desk other jobs up both.1 keeps given.3,
    )

-- ---- confirmations

-- a change under one job leaves the others
pub find_job-other : (number job : ℕ) (f : Confirmation → Confirmation) (desk : List Confirmation) → eqb number job ≡ false → ((c : Confirmation) → (f c).job ≡ c.job) →
    find_job number (change_job job f desk) ≡ find_job number desk
find_job-other number job f desk other keeps = change-apart number job f desk keeps (eqb-false number job other)

-- one that is linked has no job to start and none that was started
unfit_to_start : (kind : JobKind) (one : Confirmation) (port : ℕ) → one.port ≡ Some port → FitsToStart kind (Some one) → ⊥
unfit_to_start kinds.Helper one port at fits = none-some one (sym fits)
unfit_to_start kinds.Confirm one port at fits = none-some port (sym fits ∙ at)

unfit_started : (kind : JobKind) (one : Confirmation) (port : ℕ) → one.port ≡ Some port → FitsStarted kind (Some one) → ⊥
unfit_started kinds.Helper one port at fits = none-some one (sym fits)
unfit_started kinds.Confirm one port at fits = none-some port (sym fits ∙ at)

pub linked_not_due : (last job port : ℕ) (desk : List Confirmation) (jobs : List Job) (one : Confirmation) → AreGiven FitsToStart last desk jobs →
    find_job job desk ≡ Some one → one.port ≡ Some port → find_to_start job jobs ≡ None
linked_not_due last job port desk jobs one given found at =
    none_by (find_to_start job jobs) (λ due there.
    unfit_to_start due.kind one port at (subst (FitsToStart due.kind) found (given_at FitsToStart last job desk jobs due given there).2))

pub linked_not_begun : (last job port : ℕ) (desk : List Confirmation) (jobs : List Job) (one : Confirmation) → AreGiven FitsStarted last desk jobs →
    find_job job desk ≡ Some one → one.port ≡ Some port → find_to_start job jobs ≡ None
linked_not_begun last job port desk jobs one given found at =
    none_by (find_to_start job jobs) (λ due there.
    unfit_started due.kind one port at (subst (FitsStarted due.kind) found (given_at FitsStarted last job desk jobs due given there).2))

-- ---- started jobs in storage

-- what isn't there isn't taken out
pub started-none : (number : ℕ) (started : List StartedJob) → find_started number started ≡ None → remove_started number started ≡ started
started-none number started none = removed_nowhere (has_key (λ (one : StartedJob). one.job.number) number) started none

pub not_begun : (number : ℕ) (started : List Started) → find_started number (all_started started) ≡ None →
    remove_started number (all_started started) ≡ all_started started
not_begun number started none = started-none number (all_started started) none

-- ---- what is kept

-- a job above the last has no confirmation
pub no_job_above : (last number : ℕ) (desk : List Confirmation) → last < number → JobsRise 0 desk last → find_job number desk ≡ None
no_job_above last number desk above order =
    none_by (find_job number desk) (λ one found. let within = (job_within number 0 desk last one order found).1 in omega arith)

-- one job more to start
apart_push : (due begun : List Job) (new : Job) (number : ℕ) (job : Job) →
    ((n : ℕ) (j : Job) → find_to_start n due ≡ Some j → find_to_start n begun ≡ None) → find_to_start new.number begun ≡ None →
    find_to_start number (due ++ new ∷ []) ≡ Some job → find_to_start number begun ≡ None
apart_push due begun new number job apart none found = by (eqb new.number number) refl (find_to_start number due) refl
  where
    by : (here : Bool) → eqb new.number number ≡ here → (was : Option Job) → find_to_start number due ≡ was → find_to_start number begun ≡ None
    by true is was before = ap (λ (n : ℕ). find_to_start n begun) (sym (eqb-true new.number number is)) ∙ none
    by false is None before = absurd (none-some job (sym (none-push number due new is before) ∙ found))
    by false is (Some other) before = apart number other before

pub kept-more : (last : ℕ) (desk other : List Confirmation) (due begun : List Job) (new : Job) → AreKept last desk due begun → new.number ≡ last + 1 →
    JobsRise 0 other (last + 1) → ((n : ℕ) → n ≤ last → find_job n other ≡ find_job n desk) → FitsToStart new.kind (find_job new.number other) →
    AreKept (last + 1) other (due ++ new ∷ []) begun
kept-more last desk other due begun new kept number order same fits =
    let above : last < new.number = omega (arith, number) in
    let none = given-none FitsToStart last new.number desk due above kept.to_start in
    let unbegun = given-none FitsStarted last new.number desk begun above kept.started in
    record {
      order = order;
      to_start = given-push FitsToStart (last + 1) other due new
          (given-others FitsToStart new.number last (last + 1) desk other due (omega arith) none
          (λ n kind is below. subst (FitsToStart kind) (sym (same n below))) kept.to_start)
          (omega (arith, number)) none fits;
      started = given-others FitsStarted new.number last (last + 1) desk other begun (omega arith) unbegun
          (λ n kind is below. subst (FitsStarted kind) (sym (same n below))) kept.started;
      apart = λ n job found. apart_push due begun new n job kept.apart unbegun found;
    }

-- a helper's
pub kept-helper : (last : ℕ) (desk : List Confirmation) (due begun : List Job) → AreKept last desk due begun →
    AreKept (last + 1) desk (due ++ record { number = last + 1; kind = kinds.Helper } ∷ []) begun
kept-helper last desk due begun kept =
    kept-more last desk desk due begun (record { number = last + 1; kind = kinds.Helper }) kept refl
    (jobs-higher 0 desk last (last + 1) (omega arith) kept.order) (λ n below. refl) (no_job_above last (last + 1) desk (omega arith) kept.order)

-- one by which the user is asked
find_new : (last : ℕ) (desk : List Confirmation) (new : Confirmation) (number : ℕ) → new.job ≡ last + 1 → JobsRise 0 desk last → number ≤ last →
    find_job number (desk ++ new ∷ []) ≡ find_job number desk
find_new last desk new number is order below =
    find_job-push number 0 new desk last order (omega (arith, is))
    ∙ ap (λ (here : Bool). cond here (Some new) (find_job number desk)) (differs_back number new.job (differs_below number new.job (omega (arith, is))))

pub kept-confirm : (last : ℕ) (desk : List Confirmation) (due begun : List Job) (new : Confirmation) → AreKept last desk due begun → new.job ≡ last + 1 → new.port ≡ None →
    AreKept (last + 1) (desk ++ new ∷ []) (due ++ record { number = last + 1; kind = kinds.Confirm } ∷ []) begun
kept-confirm last desk due begun new kept is unlinked =
    kept-more last desk (desk ++ new ∷ []) due begun (record { number = last + 1; kind = kinds.Confirm }) kept refl
    (jobs-push 0 new desk last is kept.order) (λ n below. find_new last desk new n is kept.order below)
    (subst IsUnlinked (sym (find_job-push (last + 1) 0 new desk last kept.order (omega (arith, is))
    ∙ ap (λ (here : Bool). cond here (Some new) (find_job (last + 1) desk)) (eq-eqb new.job (last + 1) is))) unlinked)

-- one that isn't to be started any more
apart_left : (due begun : List Job) (gone number : ℕ) (job : Job) →
    ((n : ℕ) (j : Job) → find_to_start n due ≡ Some j → find_to_start n begun ≡ None) →
    find_to_start number (remove_to_start gone due) ≡ Some job → find_to_start number begun ≡ None
apart_left due begun gone number job apart found = by (find_to_start number due) refl
  where
    by : (was : Option Job) → find_to_start number due ≡ was → find_to_start number begun ≡ None
    by None before = absurd (none-some job (sym (none-remove number gone due before) ∙ found))
    by (Some other) before = apart number other before

pub kept-left : (last gone : ℕ) (desk : List Confirmation) (due begun : List Job) → AreKept last desk due begun → AreKept last desk (remove_to_start gone due) begun
kept-left last gone desk due begun kept = record {
  order = kept.order;
  to_start = given-remove FitsToStart last gone desk due kept.to_start;
  started = kept.started;
  apart = λ n job found. apart_left due begun gone n job kept.apart found;
}

-- one that was started
wanted_fits : (kind : JobKind) (found : Option Confirmation) → (kind ≡ kinds.Confirm → found ≡ None → ⊥) → FitsToStart kind found → FitsStarted kind found
wanted_fits kinds.Helper found wanted fits = fits
wanted_fits kinds.Confirm None wanted fits = absurd (wanted refl refl)
wanted_fits kinds.Confirm (Some one) wanted fits = fits

pub kept-moved : (last number : ℕ) (desk : List Confirmation) (due begun : List Job) (job : Job) → AreKept last desk due begun → find_to_start number due ≡ Some job →
    (job.kind ≡ kinds.Confirm → find_job job.number desk ≡ None → ⊥) → AreKept last desk (remove_to_start number due) (begun ++ job ∷ [])
kept-moved last number desk due begun job kept found wanted =
    let at = given_at FitsToStart last number desk due job kept.to_start found in
    let same : job.number ≡ number = at.1 in
    let none : find_to_start job.number begun ≡ None = ap (λ (n : ℕ). find_to_start n begun) same ∙ kept.apart number job found in
    record {
      order = kept.order;
      to_start = given-remove FitsToStart last number desk due kept.to_start;
      started = given-push FitsStarted last desk begun job kept.started (omega (arith, at.0, same)) none
          (wanted_fits job.kind (find_job job.number desk) wanted (subst (λ (n : ℕ). FitsToStart job.kind (find_job n desk)) (sym same) at.2));
      apart = λ n other there. none-push n begun job (false_from_ne_true (eqb job.number n) (λ e.
          none-some other (sym (ap (λ (m : ℕ). find_to_start m (remove_to_start number due)) (sym (eqb-true job.number n e) ∙ same)
          ∙ given-gone FitsToStart last number desk due kept.to_start) ∙ there))) (apart_left due begun number n other kept.apart there);
    }

-- one that its child process named
pub kept-named : (last number : ℕ) (desk : List Confirmation) (due begun : List Job) → AreKept last desk due begun → AreKept last desk due (remove_to_start number begun)
kept-named last number desk due begun kept = record {
  order = kept.order;
  to_start = kept.to_start;
  started = given-remove FitsStarted last number desk begun kept.started;
  apart = λ n job found. none-remove n number begun (kept.apart n job found);
}

-- a started job isn't to be started
begun_not_due : (number : ℕ) (due begun : List Job) (job : Job) → ((n : ℕ) (j : Job) → find_to_start n due ≡ Some j → find_to_start n begun ≡ None) →
    find_to_start number begun ≡ Some job → find_to_start number due ≡ None
begun_not_due number due begun job apart found =
    none_by (find_to_start number due) (λ other there. none-some job (sym (apart number other there) ∙ found))

-- a confirmation changed under a job that is neither to be started nor was
pub kept-changed : (last job : ℕ) (f : Confirmation → Confirmation) (desk : List Confirmation) (due begun : List Job) → ((c : Confirmation) → (f c).job ≡ c.job) →
    find_to_start job due ≡ None → find_to_start job begun ≡ None → AreKept last desk due begun → AreKept last (change_job job f desk) due begun
kept-changed last job f desk due begun keeps not_due not_begun kept = record {
  order = jobs-change job 0 f desk last keeps kept.order;
  to_start = given-others FitsToStart job last last desk (change_job job f desk) due (omega arith) not_due
      (λ n kind is below. subst (FitsToStart kind) (sym (find_job-other n job f desk is keeps))) kept.to_start;
  started = given-others FitsStarted job last last desk (change_job job f desk) begun (omega arith) not_begun
      (λ n kind is below. subst (FitsStarted kind) (sym (find_job-other n job f desk is keeps))) kept.started;
  apart = kept.apart;
}

pub kept-linked : (last job port : ℕ) (desk : List Confirmation) (due begun : List Job) (named : Job) → find_to_start job begun ≡ Some named → AreKept last desk due begun →
    AreKept last (linked job port desk) due (remove_to_start job begun)
kept-linked last job port desk due begun named found kept =
    kept-changed last job (linked_at port) desk due (remove_to_start job begun) (λ _. refl) (begun_not_due job due begun named kept.apart found)
    (given-gone FitsStarted last job desk begun kept.started) (kept-named last job desk due begun kept)

-- a confirmation that is over
fits_lost : (kind : JobKind) (here : Bool) (found : Option Confirmation) → FitsToStart kind found → FitsToStart kind (cond here None found)
fits_lost kinds.Helper true found fits = refl
fits_lost kinds.Confirm true found fits = tt
fits_lost kind false found fits = fits

pub kept-lost : (last job : ℕ) (desk : List Confirmation) (due begun : List Job) → AreKept last desk due begun →
    AreKept last (remove_job job desk) due (remove_to_start job begun)
kept-lost last job desk due begun kept =
    let named = kept-named last job desk due begun kept in
    record {
      order = jobs-remove job 0 desk last kept.order;
      to_start = given-others FitsToStart (last + 1) last last desk (remove_job job desk) due (omega arith)
          (given-none FitsToStart last (last + 1) desk due (omega arith) kept.to_start)
          (λ n kind is below fits. subst (FitsToStart kind) (sym (find_job-remove n job 0 desk last kept.order)) (fits_lost kind (eqb job n) (find_job n desk) fits))
          kept.to_start;
      started = given-others FitsStarted job last last desk (remove_job job desk) (remove_to_start job begun) (omega arith)
          (given-gone FitsStarted last job desk begun kept.started)
          (λ n kind is below fits. subst (FitsStarted kind) (sym (find_job-remove n job 0 desk last kept.order
          ∙ ap (λ (here : Bool). cond here None (find_job n desk)) (differs_back n job is))) fits) named.started;
      apart = named.apart;
    }
