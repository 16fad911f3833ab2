-- What an event of no client brings in two states, where it brings the same of both: small changes, and then the same end.
use Rattle.std.proofs.Common.{◌≡◌, ℕ, List, ◌++◌, refl, ap, sym, subst, ◌∙◌, Bool, true, false, Option, Some, None, Result, Ok, Err, if◌then◌else◌}
use Rattle.std.specs.Option.{option_map}
use Rattle.std.specs.Str.{bytes_eq}
use Rattle.world_ports.specs.declared.Door.{Door}
use Rattle.world_ports.specs.declared.Door.TheVariants.{Children}
use Rattle.world_ports.specs.declared.Job.{Job}
use Rattle.world_ports.specs.declared.JobKind.{JobKind}
use Rattle.world_ports.specs.declared.JobKind.TheVariants as kinds
use Rattle.wire_text.specs.Frames.{Front, Whole, Bad, More, after_front, front, front_body}
use Rattle.child_msg.specs.Messages.{Denied, False, FromChildMessage, Granted, Hello, Refused, Signed, True}
use Rattle.child_msg.specs.Reading.{from_child_of}
use Rattle.child_msg.specs.declared.fault.ChildFault.{ChildFault}
use Rattle.confirm_desk.specs.Confirmations.{Confirmation, find_asker, find_job}
use Rattle.helper_link.specs.declared.state.LinkState.{LinkState}
use Rattle.agent_model.specs.Actions.{Outcome, stay}
use Rattle.agent_model.specs.Answers.{helper_heard, lose, lose_where}
use Rattle.agent_model.specs.Children.{changed, closed, confirmer_goes_on, confirmer_named, failed_by, first_frame, first_message, heard_more, hello_heard, helper_named, is_started_by, job_left, named_by, shut, shut_then, start_failed}
use Rattle.agent_model.specs.Consents.{confirmer_heard, find_started, over, over_if}
use Rattle.agent_model.specs.State.{Client, Confirmer, Helper, Port, Role, StartedJob, State, Unnamed, find_port, find_to_start, role_of}
use Rattle.agent_model.specs.Step.{confirmer_took, ended_at, ended_by_role, heard_at, heard_by_role, helper_took, took_at, took_by_role}
use Rattle.agent_model.proofs.JobLemmas.{IsIn, in-by_asker, in-by_job, in-by_port}
use Rattle.agent_model.proofs.MakeLemmas.{role-client, role-confirmer}
use Rattle.agent_model.proofs.PortsLemmas.{find_port-change_port}

-- the port of this number is a child process's
abbrev pub IsChild : ℕ → State → Type 0
IsChild number state =
    (port : Port) → find_port number state.ports ≡ Some port → port.door ≡ Children

-- its bytes stay what they were
more_is_child : (number : ℕ) (piece : List ℕ) (state : State) → IsChild number state
    → IsChild number (changed number (heard_more piece) state)
more_is_child number piece state child port found = by_found (find_port number state.ports) refl (sym (find_port-change_port number (heard_more piece) state.ports (λ p. refl)) ∙ found)
  where
    by_found : (before : Option Port) → find_port number state.ports ≡ before
        → option_map (heard_more piece) before ≡ Some port → port.door ≡ Children
    by_found None is there = absurd (cc)
    by_found (Some old) is there =
        let same : heard_more piece old ≡ port = cc in
        ap (λ (p : Port). p.door) (sym same) ∙ child old is

-- in both states the same is at each port, and the same jobs are known
pub record IsSameWay (one other : State) : Type 0 where
  pub role : (door : Door) (number : ℕ)
      → role_of door number other.under_way ≡ role_of door number one.under_way
  pub link : other.under_way.link.state ≡ one.under_way.link.state
  pub confirmations : other.under_way.confirmations ≡ one.under_way.confirmations
  pub started : other.under_way.started ≡ one.under_way.started
  pub to_start : other.under_way.to_start ≡ one.under_way.to_start

-- small changes of states that are alike lead to such states, and their ends to outcomes that are
pub record AreAlikeInBoth (S : State → State → Type 0) (R : Outcome → Outcome → Type 0) : Type 0 where
  pub way : (one other : State) → S one other → IsSameWay one other
  pub hears : (number : ℕ) (piece : List ℕ) (one other : State) → IsChild number one → S one other
      → S (changed number (heard_more piece) one) (changed number (heard_more piece) other)
  pub closes : (number : ℕ) (one other : State) → S one other
      → S (closed number one) (closed number other)
  pub names : (job number : ℕ) (one other : State) → IsChild number one → S one other
      → S (helper_named job number one) (helper_named job number other)
  pub links : (job number : ℕ) (one other : State) → IsChild number one → S one other
      → S (confirmer_named job number one) (confirmer_named job number other)
  pub leaves : (job : ℕ) (one other : State) → S one other
      → S (job_left job one) (job_left job other)
  pub sends : (count : ℕ) (one other : State) → S one other
      → S (helper_took count one) (helper_took count other)
  pub prompts : (job count : ℕ) (one other : State) → S one other
      → S (confirmer_took job count one) (confirmer_took job count other)
  pub stays : (one other : State) → S one other → R (stay one) (stay other)
  pub shuts : (number : ℕ) (next : State → Outcome) (one other : State) → S one other
      → R (next (closed number one)) (next (closed number other))
      → R (shut_then number next one) (shut_then number next other)
  pub tells : (piece : List ℕ) (one other : State) → S one other
      → R (helper_heard piece one) (helper_heard piece other)
  pub loses : (one other : State) → S one other → R (lose one) (lose other)
  pub overs : (confirmation : Confirmation) (one other : State)
      → IsIn confirmation one.under_way.confirmations → S one other
      → R (over confirmation one) (over confirmation other)
  pub consents : (confirmation : Confirmation) (piece : List ℕ) (one other : State)
      → IsIn confirmation one.under_way.confirmations → S one other
      → R (confirmer_heard confirmation piece one) (confirmer_heard confirmation piece other)

module _ (S : State → State → Type 0) (R : Outcome → Outcome → Type 0) (alike : AreAlikeInBoth S R) where
  both-over_if : (found : Option Confirmation) (one other : State)
      → ((confirmation : Confirmation) → found ≡ Some confirmation → IsIn confirmation one.under_way.confirmations)
      → S one other → R (over_if found one) (over_if found other)
  both-over_if None one other there is = alike.stays one other is
  both-over_if (Some confirmation) one other there is =
      alike.overs confirmation one other (there confirmation refl) is

  both-goes_on : (job : ℕ) (found : Option Confirmation) (rest : List ℕ) (one other : State)
      → find_job job one.under_way.confirmations ≡ found → S one other
      → R (confirmer_goes_on found rest one) (confirmer_goes_on found rest other)
  both-goes_on job None rest one other there is = alike.stays one other is
  both-goes_on job (Some confirmation) rest one other there is = alike.consents confirmation rest one other (in-by_job job one.under_way.confirmations confirmation there) is

  -- ---- a child process that hasn't named itself

  module _ (number : ℕ) (one other : State) (child : IsChild number one) (is : S one other) where
    abbrev InBoth : (State → Outcome) → Type 0
    InBoth does = R (does one) (does other)

    both-shut : InBoth (shut number)
    both-shut = alike.shuts number stay one other is (alike.stays (closed number one) (closed number other) (alike.closes number one other is))

    both-named : (kind : JobKind) (job : ℕ) (rest : List ℕ) → InBoth (named_by kind job number rest)
    both-named kinds.Helper job rest = alike.tells rest (helper_named job number one) (helper_named job number other) (alike.names job number one other child is)
    both-named kinds.Confirm job rest =
        let after = alike.links job number one other child is in
        let first = confirmer_named job number one in
        let second = confirmer_named job number other in
        subst (λ found. R (confirmer_goes_on (find_job job first.under_way.confirmations) rest first) (confirmer_goes_on found rest second)) (ap (find_job job) (sym (alike.way first second after).confirmations))
        (both-goes_on job (find_job job first.under_way.confirmations) rest first second refl after)

    both-ticket : (right : Bool) (job : Job) (rest : List ℕ)
        → InBoth (λ state. if right then named_by job.kind job.number number rest state else shut number state)
    both-ticket true job rest = both-named job.kind job.number rest
    both-ticket false job rest = both-shut

    both-hello : (found : Option StartedJob) (ticket rest : List ℕ)
        → InBoth (hello_heard found ticket number rest)
    both-hello None ticket rest = both-shut
    both-hello (Some started) ticket rest =
        both-ticket (bytes_eq started.ticket ticket) started.job rest

    both-message : (read : Result FromChildMessage ChildFault) (rest : List ℕ)
        → InBoth (first_message read number rest)
    both-message (Ok (Hello job ticket)) rest =
        subst (λ started. R (hello_heard (find_started job one.under_way.started) ticket number rest one) (hello_heard (find_started job started) ticket number rest other)) (sym (alike.way one other is).started)
        (both-hello (find_started job one.under_way.started) ticket rest)
    both-message (Ok (Signed ask signature)) rest = both-shut
    both-message (Ok (Refused ask)) rest = both-shut
    both-message (Ok (True ask)) rest = both-shut
    both-message (Ok (False ask)) rest = both-shut
    both-message (Ok (Granted job)) rest = both-shut
    both-message (Ok (Denied job)) rest = both-shut
    both-message (Err fault) rest = both-shut

    both-frame : (answer : Front) (heard : List ℕ) → InBoth (first_frame answer number heard)
    both-frame (Whole body_len) heard =
        both-message (from_child_of (front_body body_len heard)) (after_front body_len heard)
    both-frame (Bad announced) heard = both-shut
    both-frame More heard = alike.stays one other is

  -- ---- what a child process sends and takes

  module _ (port : Port) (one other : State) (door : port.door ≡ Children) (is : S one other) where
    abbrev AtIt : (State → Outcome) → Type 0
    AtIt does = R (does one) (does other)

    -- who is there
    its : (does : Role → State → Outcome)
        → ((role : Role) → role_of port.door port.number one.under_way ≡ role → R (does role one) (does role other))
        → R (does (role_of port.door port.number one.under_way) one) (does (role_of port.door port.number other.under_way) other)
    its does each =
        subst (λ role. R (does (role_of port.door port.number one.under_way) one) (does role other)) (sym ((alike.way one other is).role port.door port.number))
        (each (role_of port.door port.number one.under_way) refl)

    no_client : role_of port.door port.number one.under_way ≡ Client → ⊥
    no_client client = let both = sym (role-client port.door port.number one.under_way client) ∙ door in absurd (cc)

    there : (confirmation : Confirmation)
        → role_of port.door port.number one.under_way ≡ Confirmer confirmation
        → IsIn confirmation one.under_way.confirmations
    there confirmation role =
        in-by_port port.number one.under_way.confirmations confirmation (role-confirmer port.door port.number one.under_way confirmation role)

    pub both-heard_role : (piece : List ℕ) → IsChild port.number one → (role : Role)
        → role_of port.door port.number one.under_way ≡ role → AtIt (heard_by_role role port piece)
    both-heard_role piece child Client role = absurd (no_client role)
    both-heard_role piece child Unnamed role =
        both-frame port.number (changed port.number (heard_more piece) one) (changed port.number (heard_more piece) other) (more_is_child port.number piece one child)
        (alike.hears port.number piece one other child is) (front 262144 (port.heard ++ piece)) (port.heard ++ piece)
    both-heard_role piece child Helper role = alike.tells piece one other is
    both-heard_role piece child (Confirmer confirmation) role =
        alike.consents confirmation piece one other (there confirmation role) is

    pub both-heard : (piece : List ℕ) → IsChild port.number one
        → R (heard_at (Some port) piece one) (heard_at (Some port) piece other)
    both-heard piece child =
        its (λ role. heard_by_role role port piece) (both-heard_role piece child)

    pub both-took_role : (count : ℕ) (role : Role)
        → role_of port.door port.number one.under_way ≡ role
        → AtIt (took_by_role role port.number count)
    both-took_role count Client role = absurd (no_client role)
    both-took_role count Unnamed role = alike.stays one other is
    both-took_role count Helper role = alike.stays (helper_took count one) (helper_took count other) (alike.sends count one other is)
    both-took_role count (Confirmer confirmation) role =
        alike.stays (confirmer_took confirmation.job count one) (confirmer_took confirmation.job count other) (alike.prompts confirmation.job count one other is)

    pub both-took : (count : ℕ)
        → R (took_at (Some port) count one) (took_at (Some port) count other)
    both-took count = its (λ role. took_by_role role port.number count) (both-took_role count)

  -- ---- what ends, and what can't be started

  module _ (port : Port) (one other : State) (is : S one other) where
    ended-role : (role : Role) (number : ℕ)
        → ((confirmation : Confirmation) → role ≡ Confirmer confirmation → IsIn confirmation one.under_way.confirmations)
        → R (ended_by_role role number one) (ended_by_role role number other)
    ended-role Client number there =
        subst (λ all. R (ended_by_role Client number one) (shut_then number (over_if (find_asker number all)) other)) (sym (alike.way one other is).confirmations)
        (alike.shuts number (over_if (find_asker number one.under_way.confirmations)) one other is
        (both-over_if (find_asker number one.under_way.confirmations) (closed number one) (closed number other) (in-by_asker number one.under_way.confirmations) (alike.closes number one other is)))
    ended-role Unnamed number there = alike.shuts number stay one other is (alike.stays (closed number one) (closed number other) (alike.closes number one other is))
    ended-role Helper number there = alike.shuts number lose one other is (alike.loses (closed number one) (closed number other) (alike.closes number one other is))
    ended-role (Confirmer confirmation) number there =
        alike.shuts number (over confirmation) one other is (alike.overs confirmation (closed number one) (closed number other) (there confirmation refl) (alike.closes number one other is))

    pub both-ended : R (ended_at (Some port) one) (ended_at (Some port) other)
    both-ended =
        subst (λ role. R (ended_at (Some port) one) (ended_by_role role port.number other)) (sym ((alike.way one other is).role port.door port.number))
        (ended-role (role_of port.door port.number one.under_way) port.number (λ confirmation role.
        in-by_port port.number one.under_way.confirmations confirmation (role-confirmer port.door port.number one.under_way confirmation role)))

  both-failed_by : (kind : JobKind) (number : ℕ) (one other : State) → S one other
      → R (failed_by kind number one) (failed_by kind number other)
  both-failed_by kinds.Helper number one other is =
      subst (λ (link : LinkState). R (failed_by kinds.Helper number one) (lose_where (is_started_by number link) other)) (sym (alike.way one other is).link) (by_link (is_started_by number one.under_way.link.state))
    where
      by_link : (started : Bool) → R (lose_where started one) (lose_where started other)
      by_link true = alike.loses one other is
      by_link false = alike.stays one other is
  both-failed_by kinds.Confirm number one other is =
      subst (λ all. R (failed_by kinds.Confirm number one) (over_if (find_job number all) other)) (sym (alike.way one other is).confirmations)
      (both-over_if (find_job number one.under_way.confirmations) one other (in-by_job number one.under_way.confirmations) is)

  both-start_failed : (found : Option Job) (one other : State) → S one other
      → R (start_failed found one) (start_failed found other)
  both-start_failed None one other is = alike.stays one other is
  both-start_failed (Some job) one other is = both-failed_by job.kind job.number (job_left job.number one) (job_left job.number other) (alike.leaves job.number one other is)

  pub both-failed : (number : ℕ) (one other : State) → S one other
      → R (start_failed (find_to_start number one.under_way.to_start) one) (start_failed (find_to_start number other.under_way.to_start) other)
  both-failed number one other is =
      subst (λ jobs. R (start_failed (find_to_start number one.under_way.to_start) one) (start_failed (find_to_start number jobs) other)) (sym (alike.way one other is).to_start)
      (both-start_failed (find_to_start number one.under_way.to_start) one other is)
