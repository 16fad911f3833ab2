-- What a child process that names itself is to the agent's parts.
use Rattle.std.specs.Option.{option_map}
use Rattle.std.proofs.Common.{◌≡◌, ◌++◌, ◌==◌, ℕ, List, [], ◌∷◌, refl, ap, arith, sym, subst, ◌∙◌, Option, Some, None, IsSome, Result, Ok, Err, Bool, true, false, if◌then◌else◌}
use Rattle.std.proofs.lemmas.Bool.Decides.{nat_tests}
use Rattle.std.specs.Str.{bytes_eq}
use Rattle.lists.proofs.KeyedLemmas.{find_by-change}
use Rattle.world_ports.specs.declared.Job.{Job}
use Rattle.world_ports.specs.declared.JobKind.{JobKind}
use Rattle.world_ports.specs.declared.JobKind.TheVariants as kinds
use Rattle.child_msg.specs.Messages.{Denied, False, FromChildMessage, Granted, Hello, Refused, Signed, True}
use Rattle.child_msg.specs.declared.fault.ChildFault.{ChildFault}
use Rattle.confirm_desk.specs.Confirmations.{Confirmation, find_job, find_linked, is_at, linked, linked_at, job_of}
use Rattle.agent_model.specs.Answers.{helper_heard}
use Rattle.helper_link.specs.HelperLink.{linked_to}
use Rattle.wire_text.specs.Bounds.{longest_body}
use Rattle.wire_text.specs.Frames.{Front, front}
use Rattle.agent_model.specs.Children.{confirmer_goes_on, confirmer_named, first_frame, first_message, heard_more, hello_heard, helper_named, named_by, unheard, unnamed_heard, shut}
use Rattle.agent_model.specs.Consents.{confirmer_heard, find_started, remove_started}
use Rattle.agent_model.specs.KeyStates.{KeyState}
use Rattle.agent_model.specs.State.{Port, StartedJob, State, UnderWay, change_port, find_port}
use Rattle.agent_model.proofs.PortsLemmas.{find_port-change_port}
use Rattle.agent_model.proofs.TieLemmas.{IsOf, apart, found_after, here}
use Rattle.under_way.specs.Parts.{IsAwaited, IsFor}
use Rattle.agent_core.specs.Confirmers.{IsHeldFor}
use Rattle.agent_core.specs.Parts.{after, state_of}
use Rattle.agent_core.specs.Settlings.{IsNamed, named_job, ticket_of}
use Rattle.agent_core.specs.Slots.{OpenPorts, heard_in}
use Rattle.agent_core.proofs.HelperLemmas.{open-change_port}

named_ticket : (same : Bool) (one : StartedJob) (job : Job) (number : ℕ) (rest : List ℕ) (state : State) → (if same then Some one.job else None) ≡ Some job → (if same then named_by one.job.kind one.job.number number rest state else shut number state) ≡ named_by job.kind job.number number rest state
named_ticket false one job number rest state some = absurd (cc)
named_ticket true one job number rest state some =
    let same : one.job ≡ job = cc in
    ap (λ (j : Job). named_by j.kind j.number number rest state) same

named_hello : (found : Option StartedJob) (ticket : List ℕ) (job : Job) (number : ℕ) (rest : List ℕ) (state : State) → ticket_of found ticket ≡ Some job → hello_heard found ticket number rest state ≡ named_by job.kind job.number number rest state
named_hello None ticket job number rest state some = absurd (cc)
named_hello (Some one) ticket job number rest state some =
    named_ticket (bytes_eq one.ticket ticket) one job number rest state some

-- one that names a job counts by its kind
pub first-named : (read : Result FromChildMessage ChildFault) (job : Job) (number : ℕ) (rest : List ℕ) (state : State) → named_job read state.under_way ≡ Some job → first_message read number rest state ≡ named_by job.kind job.number number rest state
first-named (Ok (Hello named ticket)) job number rest state some =
    named_hello (find_started named state.under_way.started) ticket job number rest state some
first-named (Ok (Signed ask signature)) job number rest state some = absurd (cc)
first-named (Ok (Refused ask)) job number rest state some = absurd (cc)
first-named (Ok (True ask)) job number rest state some = absurd (cc)
first-named (Ok (False ask)) job number rest state some = absurd (cc)
first-named (Ok (Granted other)) job number rest state some = absurd (cc)
first-named (Ok (Denied other)) job number rest state some = absurd (cc)
first-named (Err fault) job number rest state some = absurd (cc)

-- ---- the job that was named

-- the confirmation that it is for
awaited_one : (found : Option Confirmation) → IsAwaited found → (one : Confirmation) × (found ≡ Some one)
awaited_one None is = absurd is
awaited_one (Some one) is = (one, refl)

for_confirmation : (kind : JobKind) (job : ℕ) (going : UnderWay) → kind ≡ kinds.Confirm → IsFor kind job going → IsAwaited (find_job job going.confirmations)
for_confirmation kinds.Helper job going is for = absurd (cc)
for_confirmation kinds.Confirm job going is for = for

pub confirmation_named : (job : Job) (going : UnderWay) → IsNamed job going → job.kind ≡ kinds.Confirm → (one : Confirmation) × (find_job job.number going.confirmations ≡ Some one)
confirmation_named job going named is =
    awaited_one (find_job job.number going.confirmations) (for_confirmation job.kind job.number going is named.is_for)

-- its child process came to the port, to be found by its job
pub linked_job : (job number : ℕ) (confirmations : List Confirmation) (one : Confirmation) → find_job job confirmations ≡ Some one → find_job job (linked job number confirmations) ≡ Some (linked_at number one)
linked_job job number confirmations one found =
    find_by-change job_of job (linked_at number) confirmations (λ _. refl) ∙ ap (option_map (linked_at number)) found

-- and by its port, where none was linked to that before
pub linked_there : (job number : ℕ) (confirmations : List Confirmation) (one : Confirmation) → find_job job confirmations ≡ Some one → find_linked number confirmations ≡ None → find_linked number (linked job number confirmations) ≡ Some (linked_at number one)
linked_there job number [] one found free = absurd (cc)
linked_there job number (other ∷ confirmations) one found free =
    by_tests (linked_there job number confirmations one) (other.job == job) (is_at number other.port) refl found free
  where
    self : (number == number) ≡ true
    self = grind (arith, nat_tests)

    by_tests : (find_job job confirmations ≡ Some one → find_linked number confirmations ≡ None → find_linked number (linked job number confirmations) ≡ Some (linked_at number one)) → (test at : Bool) → is_at number other.port ≡ at → (if test then Some other else find_job job confirmations) ≡ Some one → (if at then Some other else find_linked number confirmations) ≡ None → find_linked number (if test then linked_at number other ∷ confirmations else other ∷ linked job number confirmations) ≡ Some (linked_at number one)
    by_tests rest true at there is free =
        let here : other ≡ one = cc in
        rw self (ap (λ (c : Confirmation). Some (linked_at number c)) here)
    by_tests rest false true there is free = absurd (cc)
    by_tests rest false false there is free = rw there (rest is free)

-- ---- who waits

-- a change that leaves what a port is owed
found_before : (number at : ℕ) (f : Port → Port) (ports : List Port) (port : Port) → ((p : Port) → (f p).number ≡ p.number) → ((p : Port) → (f p).owed ≡ p.owed) → find_port number (change_port at f ports) ≡ Some port → (was : Port) × (find_port number ports ≡ Some was) × (port.owed ≡ was.owed)
found_before number at f ports port same owed found = by_port (found_after number at f ports port same found)
  where
    by_port : IsOf number at f ports port → (was : Port) × (find_port number ports ≡ Some was) × (port.owed ≡ was.owed)
    by_port (here old is was changed) = (old, was, ap (λ (p : Port). p.owed) changed ∙ owed old)
    by_port (apart other was) = (port, was, refl)

-- leaves whoever waits for consent open, and owed nothing
pub held-changed : (at : ℕ) (f : Port → Port) (ports : List Port) (one other : Confirmation) → ((p : Port) → (f p).number ≡ p.number) → ((p : Port) → (f p).owed ≡ p.owed) → other.asker ≡ one.asker → IsHeldFor one ports → IsHeldFor other (change_port at f ports)
held-changed at f ports one other same owed asker held =
    let P : ℕ → Type 0 = λ n. IsSome (find_port n (change_port at f ports)) × ((port : Port) → find_port n (change_port at f ports) ≡ Some port → port.owed ≡ []) in
    let parts : P one.asker = (
      open-change_port one.asker at f ports same held.is_open,
      λ port found. (let before = found_before one.asker at f ports port same owed found in before.2 ∙ held.silent before.0 before.1),
    ) in
    let moved : P other.asker = subst P (sym asker) parts in
    record { is_open = moved.0; silent = moved.1 }

-- ---- the agent's parts

-- the port that sent more
pub pushed_found : (ports mid : OpenPorts) (number : ℕ) (piece : List ℕ) (port : Port) → find_port number ports.ports ≡ Some port → mid ≡ record ports { ports = change_port number (heard_more piece) ports.ports } → find_port number mid.ports ≡ Some (heard_more piece port)
pushed_found ports mid number piece port found mid_is =
    ap (λ (v : OpenPorts). find_port number v.ports) mid_is
    ∙ find_port-change_port number (heard_more piece) ports.ports (λ p. refl)
    ∙ ap (option_map (heard_more piece)) found

-- what stands at its front decides
pub unnamed_state : (wall : ℕ) (keys : KeyState) (going : UnderWay) (ports mid : OpenPorts) (number : ℕ) (piece : List ℕ)
    (port : Port) (f : Front) → find_port number ports.ports ≡ Some port
    → mid ≡ record ports { ports = change_port number (heard_more piece) ports.ports }
    → f ≡ front longest_body (heard_in (find_port number mid.ports))
    → after mid.closed (first_frame f number (port.heard ++ piece) (state_of wall keys going mid))
    ≡ after ports.closed (unnamed_heard port.heard piece number (state_of wall keys going ports))
unnamed_state wall keys going ports mid number piece port f found mid_is is =
    let pushed : OpenPorts = record ports { ports = change_port number (heard_more piece) ports.ports } in
    ap (λ (v : OpenPorts). after v.closed (first_frame f number (port.heard ++ piece) (state_of wall keys going v))) mid_is
    ∙ ap (λ (g : Front). after ports.closed (first_frame g number (port.heard ++ piece) (state_of wall keys going pushed)))
    (is ∙ ap (λ o. front longest_body (heard_in o)) (pushed_found ports mid number piece port found mid_is))

-- the helper named itself, and goes on
pub child_named : (wall : ℕ) (keys : KeyState) (going mid : UnderWay) (ports new : OpenPorts)
    (read : Result FromChildMessage ChildFault) (job : Job) (number : ℕ) (sent rest : List ℕ)
    → named_job read going ≡ Some job → job.kind ≡ kinds.Helper → mid ≡ record going {
      link = linked_to number going.link;
      started = remove_started job.number going.started;
    } → new ≡ record ports { ports = change_port number unheard ports.ports } → sent ≡ rest
    → after new.closed (helper_heard sent (state_of wall keys mid new))
    ≡ after ports.closed (first_message read number rest (state_of wall keys going ports))
child_named wall keys going mid ports new read job number sent rest named kind mid_is new_is same =
    let state : State = state_of wall keys going ports in
    let linked : UnderWay = record going {
      link = linked_to number going.link;
      started = remove_started job.number going.started;
    } in
    ap (λ (u : UnderWay). after new.closed (helper_heard sent (state_of wall keys u new))) mid_is
    ∙ ap (λ (v : OpenPorts). after v.closed (helper_heard sent (state_of wall keys linked v))) new_is
    ∙ ap (λ bytes. after ports.closed (helper_heard bytes (helper_named job.number number state))) same
    ∙ ap (λ k. after ports.closed (named_by k job.number number rest state)) (sym kind)
    ∙ ap (after ports.closed) (sym (first-named read job number rest state named))

-- so does one that asks the user
pub child_asks : (wall : ℕ) (keys : KeyState) (going mid : UnderWay) (ports new : OpenPorts)
    (read : Result FromChildMessage ChildFault) (job : Job) (number : ℕ) (sent rest : List ℕ) (one : Confirmation)
    → named_job read going ≡ Some job → job.kind ≡ kinds.Confirm → find_job job.number going.confirmations ≡ Some one
    → mid ≡ record going {
      started = remove_started job.number going.started;
      confirmations = linked job.number number going.confirmations;
    } → new ≡ record ports { ports = change_port number unheard ports.ports } → sent ≡ rest
    → after new.closed (confirmer_heard (linked_at number one) sent (state_of wall keys mid new))
    ≡ after ports.closed (first_message read number rest (state_of wall keys going ports))
child_asks wall keys going mid ports new read job number sent rest one named kind found mid_is new_is same =
    let state : State = state_of wall keys going ports in
    let asking : UnderWay = record going {
      started = remove_started job.number going.started;
      confirmations = linked job.number number going.confirmations;
    } in
    ap (λ (u : UnderWay). after new.closed (confirmer_heard (linked_at number one) sent (state_of wall keys u new))) mid_is
    ∙ ap (λ (v : OpenPorts). after v.closed (confirmer_heard (linked_at number one) sent (state_of wall keys asking v))) new_is
    ∙ ap (λ bytes. after ports.closed (confirmer_heard (linked_at number one) bytes (confirmer_named job.number number state))) same
    ∙ ap (λ f. after ports.closed (confirmer_goes_on f rest (confirmer_named job.number number state)))
    (sym (linked_job job.number number going.confirmations one found))
    ∙ ap (λ k. after ports.closed (named_by k job.number number rest state)) (sym kind)
    ∙ ap (after ports.closed) (sym (first-named read job number rest state named))
