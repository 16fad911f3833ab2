-- What is under way, from its parts in storage (ours).
use Rattle.std.specs.Prelude.{◌≡◌, ℕ, ◌≤◌, List, [], ◌∷◌, length, map, Option, Some, None}
use Rattle.world_ports.specs.declared.Job.{Job}
use Rattle.world_ports.specs.declared.JobKind.{JobKind}
use Rattle.world_ports.specs.declared.JobKind.TheVariants as kinds
use Rattle.agent_msg.specs.Replies.{failure}
use Rattle.helper_link.specs.HelperLink.{ArePutBy, HelperLink}
use Rattle.helper_link.specs.declared.state.LinkState.{LinkState}
use Rattle.helper_link.specs.declared.state.LinkState.TheVariants as states
use Rattle.confirm_desk.specs.Calls.{Telling, telling}
use Rattle.confirm_desk.specs.Confirmations.{AreRaisedBy, Confirmation, find_job, find_linked}
use Rattle.confirm_desk.specs.declared.held.Verdict.{Verdict as DeskVerdict}
use Rattle.confirm_desk.specs.declared.held.Verdict.TheVariants as verdicts
use Rattle.agent_model.specs.Asking.{JobsRise}
use Rattle.agent_model.specs.Consents.{without_confirmation}
use Rattle.wire_text.specs.Bounds.{longest_body}
use Rattle.agent_model.specs.State.{Nothing, OnAsk, OnConfirmation, StartedJob, TimeLimits, UnderWay, find_to_start}
use Rattle.agent_model.specs.Verdicts.{Awaits, Verdict, verdict_text, verdict_waits}
use Rattle.under_way.specs.Jobs.{all_started}
use Rattle.under_way.specs.Verifications.{all_verifications}
use Rattle.under_way.specs.declared.jobs.Started.{Started}
use Rattle.under_way.specs.declared.verification.Verification.{Verification}

-- its parts together
abbrev pub under_way_of : HelperLink → List Job → List Started → List Verification → List Confirmation → ℕ → TimeLimits → ℕ → UnderWay
under_way_of link to_start started verifications confirmations last_job limits second = record {
  link = link;
  to_start = to_start;
  started = all_started started;
  verifications = all_verifications verifications;
  confirmations = confirmations;
  last_job = last_job;
  limits = limits;
  second = second;
}

-- ---- the jobs

-- the job of one that was started
abbrev pub the_job : StartedJob → Job
the_job one = one.job

-- the jobs of those that were started
abbrev pub jobs_of : List StartedJob → List Job
jobs_of started = map the_job started

-- no child process came for it yet, where there is one
abbrev pub IsUnlinked : Option Confirmation → Type 0
IsUnlinked None = Unit {0}
IsUnlinked (Some confirmation) = confirmation.port ≡ None

-- there is one, and no child process came for it yet
abbrev pub IsAwaited : Option Confirmation → Type 0
IsAwaited None = ⊥
IsAwaited (Some confirmation) = confirmation.port ≡ None

-- what is waited for under the number of a job to start
abbrev pub FitsToStart : JobKind → Option Confirmation → Type 0
FitsToStart kinds.Helper found = found ≡ None
FitsToStart kinds.Confirm found = IsUnlinked found

-- a started job and the confirmation of its number go together
abbrev pub FitsStarted : JobKind → Option Confirmation → Type 0
FitsStarted kinds.Helper found = found ≡ None
FitsStarted kinds.Confirm found = IsAwaited found

-- each has a number of its own, which was given, and fits the confirmations
abbrev pub AreGiven : (JobKind → Option Confirmation → Type 0) → ℕ → List Confirmation → List Job → Type 0
AreGiven Fits last confirmations [] = Unit {0}
AreGiven Fits last confirmations (job ∷ jobs) =
    (job.number ≤ last) × (find_to_start job.number jobs ≡ None) × Fits job.kind (find_job job.number confirmations)
    × AreGiven Fits last confirmations jobs

-- the jobs to start and the started ones have numbers of their own, and fit the confirmations, which rise by their jobs
pub record AreKept (last : ℕ) (confirmations : List Confirmation) (due begun : List Job) : Type 0 where
  pub order : JobsRise 0 confirmations last
  pub to_start : AreGiven FitsToStart last confirmations due
  pub started : AreGiven FitsStarted last confirmations begun
  pub apart : (number : ℕ) (job : Job) → find_to_start number due ≡ Some job → find_to_start number begun ≡ None

-- ---- the helper's job

-- a started job of a helper is the one by which the link is starting
abbrev pub IsStartedFor : JobKind → ℕ → LinkState → Type 0
IsStartedFor kinds.Helper number state = state ≡ states.Starting number
IsStartedFor kinds.Confirm number state = Unit {0}

-- so it is for each of these; one that is still to start may be that of a helper that was lost
abbrev pub AreStartedFor : LinkState → List Job → Type 0
AreStartedFor state [] = Unit {0}
AreStartedFor state (job ∷ jobs) = IsStartedFor job.kind job.number state × AreStartedFor state jobs

-- what waits for consent is no longer than a client's message
abbrev pub AreShort : List Confirmation → Type 0
AreShort [] = Unit {0}
AreShort (one ∷ others) = (length one.message ≤ longest_body) × AreShort others

-- what holds of what is under way: no ask and no confirmation is younger than the second
pub record IsKept (under_way : UnderWay) : Type 0 where
  pub jobs : AreKept under_way.last_job under_way.confirmations under_way.to_start (jobs_of under_way.started)
  pub coming : AreStartedFor under_way.link.state (jobs_of under_way.started)
  pub short : AreShort under_way.confirmations
  pub asked : ArePutBy under_way.second under_way.link.asks
  pub raised : AreRaisedBy under_way.second under_way.confirmations

-- ---- what is told

-- what a started job is for: the helper that is being started by it, or a confirmation that no child process came for yet
abbrev pub IsFor : JobKind → ℕ → UnderWay → Type 0
IsFor kinds.Helper job under_way = under_way.link.state ≡ states.Starting job
IsFor kinds.Confirm job under_way = IsAwaited (find_job job under_way.confirmations)

-- what is told of a verdict: the number of the ask that is waited for, or nothing where it is a refusal
abbrev pub TellsOf : Verdict → Option ℕ → Type 0
TellsOf verdict (Some ask) = verdict ≡ Awaits (OnAsk ask)
TellsOf verdict None = (verdict_text verdict ≡ failure) × (verdict_waits verdict ≡ Nothing)

-- the same of the job by which the user is asked
abbrev pub TellsOfUser : Verdict → Option ℕ → Type 0
TellsOfUser verdict (Some job) = verdict ≡ Awaits (OnConfirmation job)
TellsOfUser verdict None = (verdict_text verdict ≡ failure) × (verdict_waits verdict ≡ Nothing)

-- ---- what a confirmer's bytes bring

-- by what the user decided: the confirmation goes on, or is over
abbrev pub told_by : DeskVerdict → ℕ → List Confirmation → UnderWay → UnderWay
told_by verdicts.NotYet job confirmations under_way = record under_way { confirmations = confirmations }
told_by (verdicts.Granted held) job confirmations under_way = without_confirmation job under_way
told_by (verdicts.Denied held) job confirmations under_way = without_confirmation job under_way

-- of the confirmation that is found at the port
abbrev pub told_if : Option Confirmation → Telling → UnderWay → UnderWay
told_if None telling under_way = under_way
told_if (Some confirmation) telling under_way = told_by telling.verdict confirmation.job telling.desk under_way

-- a piece of what the child process at this port sends
abbrev pub confirmer_told : ℕ → List ℕ → UnderWay → UnderWay
confirmer_told port piece under_way =
    told_if (find_linked port under_way.confirmations) (telling port piece under_way.confirmations) under_way

-- what a decision hands back is no longer than a client's message
abbrev pub IsShortIn : DeskVerdict → Type 0
IsShortIn verdicts.NotYet = Unit {0}
IsShortIn (verdicts.Granted held) = length held.message ≤ longest_body
IsShortIn (verdicts.Denied held) = length held.message ≤ longest_body
