-- What each call keeps of what is under way.
use Rattle.std.proofs.Common.{◌≡◌, ℕ, ◌+◌, ◌≤◌, true, false, List, [], ◌∷◌, ◌++◌, length, Option, Some, None, is_some, refl, sym, ap, ◌∙◌, subst, arith}
use Rattle.std.specs.Prelude.{IsSomeAnd, OnErr, OnOk, Result, Ok, Err}
use Rattle.std.specs.Option.{option_map}
use Rattle.std.proofs.lemmas.Bool.{eqb-true}
use Rattle.std.proofs.lemmas.Option.{none-some, same_Some}
use Rattle.lists.specs.Keyed.{has_key}
use Rattle.lists.proofs.NeverFallLemmas.{up_to-change, up_to-higher, up_to-push, up_to-remove}
use Rattle.world_ports.specs.declared.Job.{Job}
use Rattle.world_ports.specs.declared.JobKind.{JobKind}
use Rattle.world_ports.specs.declared.JobKind.TheVariants as kinds
use Rattle.helper_link.specs.HelperLink.{ArePutBy, HelperLink, IsLinked, ask_of, lost, no_link, second_of as put_second}
use Rattle.helper_link.specs.declared.ask.AskKind.{AskKind}
use Rattle.helper_link.specs.declared.state.LinkState.{LinkState}
use Rattle.helper_link.specs.declared.state.LinkState.TheVariants as states
use Rattle.confirm_desk.specs.Calls.{given_back, telling, telling_by, telling_if, took_at, took_by}
use Rattle.confirm_desk.specs.Confirmations.{Confirmation, Consent, Held, NotYet, Yes, No, change_job, confirmation_of, consent, find_job, find_linked, heard_more, job_of as desk_job, linked, lose, raise, remove_job, second_of as raised_second, took_some}
use Rattle.confirm_desk.specs.declared.held.Held.{Held as CodeHeld}
use Rattle.agent_model.specs.Answers.{forget_helper}
use Rattle.agent_model.specs.Children.{is_started_by, is_wanted, remove_to_start}
use Rattle.agent_model.specs.Consents.{find_started, remove_started, without_confirmation}
use Rattle.agent_model.specs.Errands.{job_of}
use Rattle.wire_text.specs.Bounds.{longest_body}
use Rattle.agent_model.specs.State.{StartedJob, UnderWay, Verification, find_to_start}
use Rattle.agent_model.proofs.JobLemmas.{in-by_port, in-found, linked_port}
use Rattle.under_way.specs.Parts.{AreKept, AreStartedFor, FitsStarted, IsAwaited, IsFor, IsKept, IsShortIn, IsStartedFor, confirmer_told, jobs_of, the_job, told_by, told_if}
use Rattle.under_way.proofs.KeptLemmas.{for-any, for-push, for-remove, for_at, given-gone, given_at, kept-changed, kept-confirm, kept-helper, kept-left, kept-linked, kept-lost, kept-moved, kept-named, linked_not_begun, linked_not_due, none_by, pushed-jobs, removed-jobs, started-jobs, started-none}
use Rattle.under_way.proofs.ShortLemmas.{short-change, short-push, short-remove, short_at}

-- ---- the jobs change

-- a helper is to be started where none is there or coming
pub keeps-helper : (u : UnderWay) (link : HelperLink) → IsKept u → u.link.state ≡ states.None → link.asks ≡ u.link.asks → IsKept (record u {
  link = link;
  to_start = u.to_start ++ (job_of (u.last_job + 1) kinds.Helper ∷ []);
  last_job = u.last_job + 1;
})
keeps-helper u link kept none same = record {
  jobs = kept-helper u.last_job u.confirmations u.to_start (jobs_of u.started) kept.jobs;
  coming = for-any u.link.state link.state (jobs_of u.started) (λ n is. not_starting n (sym none ∙ is)) kept.coming;
  short = kept.short;
  asked = subst (ArePutBy u.second) (sym same) kept.asked;
  raised = kept.raised;
}
  where
    not_starting : {P : Type 0} (n : ℕ) → states.None ≡ states.Starting n → P
    not_starting n is = absurd cc

pub keeps-left : (u : UnderWay) (number : ℕ) → IsKept u → IsKept (record u { to_start = remove_to_start number u.to_start })
keeps-left u number kept = record {
  jobs = kept-left u.last_job number u.confirmations u.to_start (jobs_of u.started) kept.jobs;
  coming = kept.coming;
  short = kept.short;
  asked = kept.asked;
  raised = kept.raised;
}

-- without the job by which the link is starting none of the started ones is a helper's
for-named : (u : UnderWay) (number : ℕ) (other : LinkState) → IsKept u → u.link.state ≡ states.Starting number →
    AreStartedFor other (remove_to_start number (jobs_of u.started))
for-named u number other kept is =
    for-any u.link.state other (remove_to_start number (jobs_of u.started))
    (λ n same. subst (λ (m : ℕ). find_to_start m (remove_to_start number (jobs_of u.started)) ≡ None) (same_start number n (sym is ∙ same))
    (given-gone FitsStarted u.last_job number u.confirmations (jobs_of u.started) kept.jobs.started))
    (for-remove u.link.state number (jobs_of u.started) kept.coming)
  where
    same_start : (a b : ℕ) → states.Starting a ≡ states.Starting b → a ≡ b
    same_start a b same = cc

-- a job that is wanted is the one by which the link is starting, or its confirmation is there
starting_is : (state : LinkState) (number : ℕ) → is_started_by number state ≡ true → state ≡ states.Starting number
starting_is states.None number is = absurd cc
starting_is (states.Starting job) number is = ap (λ (n : ℕ). states.Starting n) (eqb-true job number is)
starting_is (states.Linked port) number is = absurd cc

wanted_for : (kind : JobKind) (number : ℕ) (u : UnderWay) → is_wanted kind number u ≡ true → IsStartedFor kind number u.link.state
wanted_for kinds.Helper number u is = starting_is u.link.state number is
wanted_for kinds.Confirm number u is = tt

wanted_there : (kind : JobKind) (number : ℕ) (u : UnderWay) → is_wanted kind number u ≡ true → kind ≡ kinds.Confirm →
    find_job number u.confirmations ≡ None → ⊥
wanted_there kinds.Helper number u is same none = absurd cc
wanted_there kinds.Confirm number u is same none = no_one (sym (ap is_some none) ∙ is)
  where
    no_one : false ≡ true → ⊥
    no_one e = absurd cc

-- a job that was started
pub keeps-moved : (u : UnderWay) (number : ℕ) (job : Job) (ticket : List ℕ) → IsKept u → find_to_start number u.to_start ≡ Some job →
    is_wanted job.kind job.number u ≡ true → IsKept (record u {
      to_start = remove_to_start number u.to_start;
      started = u.started ++ record { job = job; ticket = ticket } ∷ [];
    })
keeps-moved u number job ticket kept found wanted =
    let one : StartedJob = record { job = job; ticket = ticket } in
    let same = pushed-jobs u.started (one ∷ []) in
    record {
      jobs = subst (AreKept u.last_job u.confirmations (remove_to_start number u.to_start)) (sym same)
          (kept-moved u.last_job number u.confirmations u.to_start (jobs_of u.started) job kept.jobs found
          (wanted_there job.kind job.number u wanted));
      coming = subst (AreStartedFor u.link.state) (sym same)
          (for-push u.link.state (jobs_of u.started) job kept.coming (wanted_for job.kind job.number u wanted));
      short = kept.short;
      asked = kept.asked;
      raised = kept.raised;
    }

-- the link alone changes, and asks nothing more
pub keeps-link : (u : UnderWay) (link : HelperLink) → IsKept u → link.state ≡ u.link.state → ArePutBy u.second link.asks → IsKept (record u { link = link })
keeps-link u link kept same asked = record {
  jobs = kept.jobs;
  coming = subst (λ (state : LinkState). AreStartedFor state (jobs_of u.started)) (sym same) kept.coming;
  short = kept.short;
  asked = asked;
  raised = kept.raised;
}

-- the helper is lost
forgotten : (state : LinkState) (u : UnderWay) → IsKept u → u.link.state ≡ state → AreKept u.last_job u.confirmations u.to_start (jobs_of (forget_helper state u.started))
    × AreStartedFor states.None (jobs_of (forget_helper state u.started))
forgotten states.None u kept is = (kept.jobs, for-any u.link.state states.None (jobs_of u.started) (λ n same. no_start n (sym is ∙ same)) kept.coming)
  where
    no_start : {P : Type 0} (n : ℕ) → states.None ≡ states.Starting n → P
    no_start n e = absurd cc
forgotten (states.Linked port) u kept is = (kept.jobs, for-any u.link.state states.None (jobs_of u.started) (λ n same. no_start n (sym is ∙ same)) kept.coming)
  where
    no_start : {P : Type 0} (n : ℕ) → states.Linked port ≡ states.Starting n → P
    no_start n e = absurd cc
forgotten (states.Starting job) u kept is =
    let same = removed-jobs job u.started in (
      subst (AreKept u.last_job u.confirmations u.to_start) (sym same) (kept-named u.last_job job u.confirmations u.to_start (jobs_of u.started) kept.jobs),
      subst (AreStartedFor states.None) (sym same) (for-named u job states.None kept is),
    )

pub keeps-lost : (u : UnderWay) (left : List Verification) → IsKept u →
    IsKept (record u { link = lost u.link; started = forget_helper u.link.state u.started; verifications = left })
keeps-lost u left kept =
    let both = forgotten u.link.state u kept refl in
    record { jobs = both.0; coming = both.1; short = kept.short; asked = tt; raised = kept.raised }

-- a helper that is there has no job
pub keeps-dropped : (u : UnderWay) → IsLinked u.link.state → IsKept u → IsKept (record u { link = no_link })
keeps-dropped u linked kept = record {
  jobs = kept.jobs;
  coming = for-any u.link.state states.None (jobs_of u.started) (λ n is. absurd (subst IsLinked is linked)) kept.coming;
  short = kept.short;
  asked = tt;
  raised = kept.raised;
}

-- an ask is put
pub keeps-put : (u : UnderWay) (new : HelperLink) (kind : AskKind) (asker : ℕ) (blob : List ℕ) (size : ℕ) → IsKept u → new.state ≡ u.link.state →
    new.asks ≡ u.link.asks ++ (ask_of (u.link.last + 1) asker kind blob u.second size ∷ []) → IsKept (record u { link = new })
keeps-put u new kind asker blob size kept state asks =
    keeps-link u new kept state
    (subst (ArePutBy u.second) (sym asks) (up_to-push put_second u.second u.link.asks (ask_of (u.link.last + 1) asker kind blob u.second size) (omega arith) kept.asked))

-- or isn't
pub keeps-asked : {N F : Type 0} (u : UnderWay) (link new : HelperLink) (kind : AskKind) (asker : ℕ) (blob : List ℕ) (size : ℕ) (answer : Result N F) → IsKept u → new.state ≡ u.link.state →
    new.asks ≡ u.link.asks ++ (ask_of (u.link.last + 1) asker kind blob u.second size ∷ []) → OnOk answer (link ≡ new) → OnErr answer (link ≡ u.link) → IsKept (record u { link = link })
keeps-asked u link new kind asker blob size (Ok number) kept state asks put unchanged =
    subst (λ (l : HelperLink). IsKept (record u { link = l })) (sym put) (keeps-put u new kind asker blob size kept state asks)
keeps-asked u link new kind asker blob size (Err fault) kept state asks put unchanged =
    subst (λ (l : HelperLink). IsKept (record u { link = l })) (sym unchanged) kept

-- time passes
pub keeps-later : (u : UnderWay) (second : ℕ) → u.second ≤ second → IsKept u → IsKept (record u { second = second })
keeps-later u second later kept = record {
  jobs = kept.jobs;
  coming = kept.coming;
  short = kept.short;
  asked = up_to-higher put_second u.second second u.link.asks later kept.asked;
  raised = up_to-higher raised_second u.second second u.confirmations later kept.raised;
}

-- ---- child processes name themselves

-- what is found among the started jobs
job_found : (number : ℕ) (started : List StartedJob) (one : StartedJob) → find_started number started ≡ Some one →
    find_to_start number (jobs_of started) ≡ Some one.job
job_found number started one found = started-jobs number started ∙ ap (option_map the_job) found

-- what a started job is for
pub is_for : (u : UnderWay) (number : ℕ) (one : StartedJob) → IsKept u → find_started number u.started ≡ Some one →
    IsFor one.job.kind number u × (one.job.number ≡ number)
is_for u number one kept found =
    let job = job_found number u.started one found in
    let at = given_at FitsStarted u.last_job number u.confirmations (jobs_of u.started) one.job kept.jobs.started job in
    (by one.job.kind at.2 (subst (λ (n : ℕ). IsStartedFor one.job.kind n u.link.state) at.1 (for_at u.link.state number (jobs_of u.started) one.job kept.coming job)), at.1)
  where
    by : (kind : JobKind) → FitsStarted kind (find_job number u.confirmations) → IsStartedFor kind number u.link.state → IsFor kind number u
    by kinds.Helper fits is = is
    by kinds.Confirm fits is = fits

awaited_and : (found : Option Confirmation) → IsAwaited found → IsSomeAnd found (λ one. one.port ≡ None)
awaited_and None fits = absurd fits
awaited_and (Some one) fits = fits

-- of one that is found, of this kind
found_of : (kind : JobKind) (u : UnderWay) (number : ℕ) → IsKept u → (found : Option StartedJob) → find_started number u.started ≡ found →
    IsSomeAnd found (λ one. one.job.kind ≡ kind) → IsFor kind number u
found_of kind u number kept None is named = absurd named
found_of kind u number kept (Some one) is named = subst (λ (k : JobKind). IsFor k number u) named (is_for u number one kept is).0

pub confirm_awaited : (u : UnderWay) (number : ℕ) → IsKept u → IsSomeAnd (find_started number u.started) (λ one. one.job.kind ≡ kinds.Confirm) →
    IsSomeAnd (find_job number u.confirmations) (λ one. one.port ≡ None)
confirm_awaited u number kept named = awaited_and (find_job number u.confirmations) (found_of kinds.Confirm u number kept (find_started number u.started) refl named)

pub helper_awaited : (u : UnderWay) (number : ℕ) → IsKept u → IsSomeAnd (find_started number u.started) (λ one. one.job.kind ≡ kinds.Helper) →
    u.link.state ≡ states.Starting number
helper_awaited u number kept named = found_of kinds.Helper u number kept (find_started number u.started) refl named

some_of : (kind : JobKind) (found : Option StartedJob) → IsSomeAnd found (λ one. one.job.kind ≡ kind) → (one : StartedJob) × (found ≡ Some one) × (one.job.kind ≡ kind)
some_of kind None named = absurd named
some_of kind (Some one) named = (one, refl, named)

pub keeps-helper_named : (u : UnderWay) (number : ℕ) (link : HelperLink) → IsKept u → IsSomeAnd (find_started number u.started) (λ one. one.job.kind ≡ kinds.Helper) →
    link.asks ≡ u.link.asks → IsKept (record u { link = link; started = remove_started number u.started })
keeps-helper_named u number link kept named asks =
    let same = removed-jobs number u.started in
    record {
      jobs = subst (AreKept u.last_job u.confirmations u.to_start) (sym same) (kept-named u.last_job number u.confirmations u.to_start (jobs_of u.started) kept.jobs);
      coming = subst (AreStartedFor link.state) (sym same) (for-named u number link.state kept (helper_awaited u number kept named));
      short = kept.short;
      asked = subst (ArePutBy u.second) (sym asks) kept.asked;
      raised = kept.raised;
    }

pub keeps-linked : (u : UnderWay) (number port : ℕ) → IsKept u → IsSomeAnd (find_started number u.started) (λ one. one.job.kind ≡ kinds.Confirm) →
    IsKept (record u { started = remove_started number u.started; confirmations = linked number port u.confirmations })
keeps-linked u number port kept named =
    let some = some_of kinds.Confirm (find_started number u.started) named in
    let job = job_found number u.started some.0 some.1 in
    let same = removed-jobs number u.started in
    record {
      jobs = subst (AreKept u.last_job (linked number port u.confirmations) u.to_start) (sym same)
          (kept-linked u.last_job number port u.confirmations u.to_start (jobs_of u.started) some.0.job job kept.jobs);
      coming = subst (AreStartedFor u.link.state) (sym same) (for-remove u.link.state number (jobs_of u.started) kept.coming);
      short = short-change number _ u.confirmations (λ _. refl) kept.short;
      asked = kept.asked;
      raised = up_to-change raised_second (has_key desk_job number) _ u.second u.confirmations (λ _. refl) kept.raised;
    }

-- ---- confirmations

pub keeps-raised : (u : UnderWay) (held : Held) (text : List ℕ) → IsKept u → length held.message ≤ longest_body → IsKept (record u {
  to_start = u.to_start ++ (job_of (u.last_job + 1) kinds.Confirm ∷ []);
  confirmations = raise (u.last_job + 1) held text u.second u.confirmations;
  last_job = u.last_job + 1;
})
keeps-raised u held text kept short = record {
  jobs = kept-confirm u.last_job u.confirmations u.to_start (jobs_of u.started) (confirmation_of (u.last_job + 1) held text u.second) kept.jobs refl refl;
  coming = kept.coming;
  short = short-push u.confirmations (confirmation_of (u.last_job + 1) held text u.second) kept.short short;
  asked = kept.asked;
  raised = up_to-push raised_second u.second u.confirmations (confirmation_of (u.last_job + 1) held text u.second) (omega arith) kept.raised;
}

-- what is found at a port is found by its job
by_job : (u : UnderWay) (port : ℕ) (one : Confirmation) → IsKept u → find_linked port u.confirmations ≡ Some one → find_job one.job u.confirmations ≡ Some one
by_job u port one kept found = in-found one 0 u.last_job kept.jobs.order (in-by_port port u.confirmations one found)

-- one that is linked is changed
changed : (u : UnderWay) (port : ℕ) (one : Confirmation) (f : Confirmation → Confirmation) → IsKept u → find_linked port u.confirmations ≡ Some one →
    ((c : Confirmation) → (f c).job ≡ c.job) → ((c : Confirmation) → (f c).message ≡ c.message) → ((c : Confirmation) → (f c).raised_at ≡ c.raised_at) →
    IsKept (record u { confirmations = change_job one.job f u.confirmations })
changed u port one f kept found keeps same since =
    let job = by_job u port one kept found in
    let at = linked_port port u.confirmations one found in
    record {
      jobs = kept-changed u.last_job one.job f u.confirmations u.to_start (jobs_of u.started) keeps
          (linked_not_due u.last_job one.job port u.confirmations u.to_start one kept.jobs.to_start job at)
          (linked_not_begun u.last_job one.job port u.confirmations (jobs_of u.started) one kept.jobs.started job at) kept.jobs;
      coming = kept.coming;
      short = short-change one.job f u.confirmations same kept.short;
      asked = kept.asked;
      raised = up_to-change raised_second (has_key desk_job one.job) f u.second u.confirmations since kept.raised;
    }

pub keeps-took : (u : UnderWay) (port count : ℕ) → IsKept u → IsKept (record u { confirmations = took_at port count u.confirmations })
keeps-took u port count kept = by (find_linked port u.confirmations) refl
  where
    by : (found : Option Confirmation) → find_linked port u.confirmations ≡ found → IsKept (record u { confirmations = took_by found count u.confirmations })
    by None is = kept
    by (Some one) is = changed u port one (took_some count) kept is (λ _. refl) (λ _. refl) (λ _. refl)

pub keeps-ended : (u : UnderWay) (job : ℕ) → IsKept u → IsKept (without_confirmation job u)
keeps-ended u job kept =
    let same = removed-jobs job u.started in
    record {
      jobs = subst (AreKept u.last_job (remove_job job u.confirmations) u.to_start) (sym same) (kept-lost u.last_job job u.confirmations u.to_start (jobs_of u.started) kept.jobs);
      coming = subst (AreStartedFor u.link.state) (sym same) (for-remove u.link.state job (jobs_of u.started) kept.coming);
      short = short-remove job u.confirmations kept.short;
      asked = kept.asked;
      raised = up_to-remove raised_second (has_key desk_job job) u.second u.confirmations kept.raised;
    }

-- by what the user decided
keeps_by : (u : UnderWay) (port : ℕ) (piece : List ℕ) (one : Confirmation) (answer : Consent) → IsKept u → find_linked port u.confirmations ≡ Some one →
    IsKept (told_by (telling_by answer one piece u.confirmations).verdict one.job (telling_by answer one piece u.confirmations).desk u)
keeps_by u port piece one NotYet kept found = changed u port one (heard_more piece) kept found (λ _. refl) (λ _. refl) (λ _. refl)
keeps_by u port piece one Yes kept found = keeps-ended u one.job kept
keeps_by u port piece one No kept found = keeps-ended u one.job kept

pub keeps-told : (u : UnderWay) (port : ℕ) (piece : List ℕ) → IsKept u → IsKept (confirmer_told port piece u)
keeps-told u port piece kept = by (find_linked port u.confirmations) refl
  where
    by : (found : Option Confirmation) → find_linked port u.confirmations ≡ found → IsKept (told_if found (telling_if found piece u.confirmations) u)
    by None is = kept
    by (Some one) is = keeps_by u port piece one (consent one.job (one.heard ++ piece)) kept is

-- the job of one that is linked isn't among the started ones
none_started : (u : UnderWay) (port : ℕ) (one : Confirmation) → IsKept u → find_linked port u.confirmations ≡ Some one → remove_started one.job u.started ≡ u.started
none_started u port one kept found =
    started-none one.job u.started (none_by (find_started one.job u.started) (λ begun there.
    none-some begun.job (sym (linked_not_begun u.last_job one.job port u.confirmations (jobs_of u.started) one kept.jobs.started (by_job u port one kept found)
    (linked_port port u.confirmations one found)) ∙ job_found one.job u.started begun there)))

-- the desk's part is all that changes
view_by : (u : UnderWay) (port : ℕ) (piece : List ℕ) (one : Confirmation) (answer : Consent) → IsKept u → find_linked port u.confirmations ≡ Some one →
    record u { confirmations = (telling_by answer one piece u.confirmations).desk }
    ≡ told_by (telling_by answer one piece u.confirmations).verdict one.job (telling_by answer one piece u.confirmations).desk u
view_by u port piece one NotYet kept found = refl
view_by u port piece one Yes kept found =
    ap (λ (s : List StartedJob). record u { started = s; confirmations = lose one.job u.confirmations }) (sym (none_started u port one kept found))
view_by u port piece one No kept found =
    ap (λ (s : List StartedJob). record u { started = s; confirmations = lose one.job u.confirmations }) (sym (none_started u port one kept found))

pub told-view : (u : UnderWay) (port : ℕ) (piece : List ℕ) → IsKept u → record u { confirmations = (telling port piece u.confirmations).desk } ≡ confirmer_told port piece u
told-view u port piece kept = by (find_linked port u.confirmations) refl
  where
    by : (found : Option Confirmation) → find_linked port u.confirmations ≡ found →
        record u { confirmations = (telling_if found piece u.confirmations).desk } ≡ told_if found (telling_if found piece u.confirmations) u
    by None is = refl
    by (Some one) is = view_by u port piece one (consent one.job (one.heard ++ piece)) kept is

-- what it held is short
short_by : (u : UnderWay) (port : ℕ) (piece : List ℕ) (one : Confirmation) (answer : Consent) → IsKept u → find_linked port u.confirmations ≡ Some one →
    IsShortIn (telling_by answer one piece u.confirmations).verdict
short_by u port piece one NotYet kept found = tt
short_by u port piece one Yes kept found = short_at one.job u.confirmations one kept.short (by_job u port one kept found)
short_by u port piece one No kept found = short_at one.job u.confirmations one kept.short (by_job u port one kept found)

pub told-short : (u : UnderWay) (port : ℕ) (piece : List ℕ) → IsKept u → IsShortIn (telling port piece u.confirmations).verdict
told-short u port piece kept = by (find_linked port u.confirmations) refl
  where
    by : (found : Option Confirmation) → find_linked port u.confirmations ≡ found → IsShortIn (telling_if found piece u.confirmations).verdict
    by None is = tt
    by (Some one) is = short_by u port piece one (consent one.job (one.heard ++ piece)) kept is

pub ended-short : (u : UnderWay) (job : ℕ) (held : CodeHeld) → IsKept u → Some held ≡ option_map given_back (find_job job u.confirmations) → length held.message ≤ longest_body
ended-short u job held kept is = by (find_job job u.confirmations) refl is
  where
    by : (found : Option Confirmation) → find_job job u.confirmations ≡ found → Some held ≡ option_map given_back found → length held.message ≤ longest_body
    by None there some = absurd (none-some held (sym some))
    by (Some one) there some =
        subst (λ (h : CodeHeld). length h.message ≤ longest_body) (sym (same_Some held (given_back one) some)) (short_at job u.confirmations one kept.short there)
