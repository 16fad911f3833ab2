-- What an event brings that is none of the helper's stream leaves what the link has heard, but for a loss.
use Rattle.std.proofs.Common.{◌≡◌, ℕ, zero, suc, List, [], ◌∷◌, ◌++◌, refl, Option, Some, None, Bool, true, false}
use Rattle.world_ports.specs.declared.Job.{Job}
use Rattle.world_ports.specs.declared.JobKind.{JobKind}
use Rattle.world_ports.specs.declared.JobKind.TheVariants as kinds
use Rattle.wire_text.specs.Bounds.{longest_body}
use Rattle.wire_text.specs.Frames.{Bad, Front, More, Whole, front, front_body}
use Rattle.confirm_desk.specs.Confirmations.{Confirmation, Consent, No, NotYet, Yes, consent, find_asker, find_job}
use Rattle.agent_model.specs.Actions.{Granted, Outcome, Requested, Requesting, Work}
use Rattle.agent_model.specs.Children.{changed, closed, confirmer_goes_on, failed_by, is_started_by, job_left, start_failed}
use Rattle.agent_model.specs.Answers.{lose_where}
use Rattle.agent_model.specs.Consents.{consent_by, grant_to, over_if}
use Rattle.agent_model.specs.Binds.{agent_request_of}
use Rattle.agent_model.specs.Dispatch.{Asker, Served, serve}
use Rattle.agent_model.specs.State.{Client, Confirmer, Helper, Nothing, Port, Role, State, UnderWay, Unnamed, Waits, find_port, role_of}
use Rattle.agent_model.specs.Step.{asker_at, ended_at, ended_by_role, look_front, look_port, look_waits, took_at, took_by_role, took_some}
use Rattle.agent_model.proofs.GrantLemmas.{IsGranted, allowed, disallowed, grant-ends, unasked}
use Rattle.agent_model.proofs.ServeLemmas.{IsServed, answered, asked, raised, refused, serve-ends}
use Rattle.agent_laws.specs.Answered.{times_lost}

-- what is left of it behind so many losses
abbrev pub left_of : ℕ → List ℕ → List ℕ
left_of zero heard = heard
left_of (suc more) heard = []

abbrev pub IsStill : List ℕ → Outcome → Type 0
IsStill heard outcome = outcome.state.under_way.link.heard ≡ left_of (times_lost outcome.actions) heard

still-served : {asker : Asker} {held : _} {under_way : UnderWay} {served : Served} (request : Requesting)
    → IsServed asker held under_way served
    → served.work.under_way.link.heard ≡ left_of (times_lost (Requested request ∷ served.work.actions)) under_way.link.heard
still-served request (answered reply kept keeps) = refl
still-served request (refused cause) = refl
still-served request (asked errand free right) = refl
still-served request (raised key signing free) = refl

still-front : (answer : Front) (port : Port) (state : State)
    → IsStill state.under_way.link.heard (look_front answer port state)
still-front (Whole body_len) port state =
    let body : List ℕ = front_body body_len port.heard in
    let asker : Asker = asker_at state.moment port in
    let served : Served = serve (agent_request_of body) asker state.held state.under_way in
    still-served (record { port = port.number; body = body; verdict = served.work.verdict }) (serve-ends asker state.held state.under_way body)
still-front (Bad announced) port state = refl
still-front More port state = refl

still-waits : (waits : Waits) (owed : List ℕ) (port : Port) (state : State)
    → IsStill state.under_way.link.heard (look_waits waits owed port state)
still-waits Nothing [] port state = still-front (front longest_body port.heard) port state
still-waits waits owed port state = refl

pub still-look : (found : Option Port) (state : State) → IsStill state.under_way.link.heard (look_port found state)
still-look None state = refl
still-look (Some port) state = still-waits port.waits port.owed port state

still-over : (found : Option Confirmation) (state : State) → IsStill state.under_way.link.heard (over_if found state)
still-over None state = refl
still-over (Some confirmation) state = refl

still-granted : {chain : List _} {confirmation : Confirmation} {wall : ℕ} {held : _} {under_way : UnderWay} {work : Work}
    → IsGranted chain confirmation wall held under_way work
    → work.under_way.link.heard ≡ left_of (times_lost (Granted confirmation.job ∷ work.actions)) under_way.link.heard
still-granted (disallowed never) = refl
still-granted (unasked cause key may fault) = refl
still-granted (allowed key may free) = refl

still-grant : (found : Option Port) (confirmation : Confirmation) (state : State)
    → IsStill state.under_way.link.heard (grant_to found confirmation state)
still-grant None confirmation state = refl
still-grant (Some port) confirmation state = still-granted (grant-ends port.chain confirmation state)

pub still-consent : (said : Consent) (confirmation : Confirmation) (piece : List ℕ) (state : State)
    → IsStill state.under_way.link.heard (consent_by said confirmation piece state)
still-consent NotYet confirmation piece state = refl
still-consent Yes confirmation piece state = still-grant (find_port confirmation.asker state.ports) confirmation state
still-consent No confirmation piece state = refl

pub still-goes_on : (found : Option Confirmation) (rest : List ℕ) (state : State)
    → IsStill state.under_way.link.heard (confirmer_goes_on found rest state)
still-goes_on None rest state = refl
still-goes_on (Some confirmation) rest state =
    still-consent (consent confirmation.job (confirmation.heard ++ rest)) confirmation rest state

still-took_role : (role : Role) (number count : ℕ) (state : State)
    → IsStill state.under_way.link.heard (took_by_role role number count state)
still-took_role Client number count state =
    let took : State = changed number (took_some count) state in still-look (find_port number took.ports) took
still-took_role Unnamed number count state = refl
still-took_role Helper number count state = refl
still-took_role (Confirmer confirmation) number count state = refl

pub still-took : (found : Option Port) (count : ℕ) (state : State)
    → IsStill state.under_way.link.heard (took_at found count state)
still-took None count state = refl
still-took (Some port) count state =
    still-took_role (role_of port.door port.number state.under_way) port.number count state

still-ended_role : (role : Role) (number : ℕ) (state : State)
    → IsStill state.under_way.link.heard (ended_by_role role number state)
still-ended_role Client number state = still-over (find_asker number state.under_way.confirmations) (closed number state)
still-ended_role Unnamed number state = refl
still-ended_role Helper number state = refl
still-ended_role (Confirmer confirmation) number state = refl

pub still-ended : (found : Option Port) (state : State) → IsStill state.under_way.link.heard (ended_at found state)
still-ended None state = refl
still-ended (Some port) state =
    still-ended_role (role_of port.door port.number state.under_way) port.number state

still-failed_by : (kind : JobKind) (number : ℕ) (state : State)
    → IsStill state.under_way.link.heard (failed_by kind number state)
still-failed_by kinds.Helper number state = by_test (is_started_by number state.under_way.link.state)
  where
    by_test : (is : Bool) → IsStill state.under_way.link.heard (lose_where is state)
    by_test true = refl
    by_test false = refl
still-failed_by kinds.Confirm number state = still-over (find_job number state.under_way.confirmations) state

pub still-failed : (found : Option Job) (state : State) → IsStill state.under_way.link.heard (start_failed found state)
still-failed None state = refl
still-failed (Some job) state = still-failed_by job.kind job.number (job_left job.number state)
