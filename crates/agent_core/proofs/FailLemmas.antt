-- What the end of a port and a failed start are in the agent's state.
use Rattle.std.proofs.Common.{◌≡◌, ℕ, List, refl, ap, subst, sym, ◌∙◌, Option, Some, None, IsSome}
use Rattle.std.specs.Option.{option_map}
use Rattle.wire_text.specs.Frames.{Whole}
use Rattle.world_ports.specs.declared.Job.{Job}
use Rattle.world_ports.specs.declared.JobKind.{JobKind}
use Rattle.world_ports.specs.declared.JobKind.TheVariants as kinds
use Rattle.helper_link.specs.declared.state.LinkState.TheVariants as states
use Rattle.confirm_desk.specs.Confirmations.{Confirmation, find_asker, find_job}
use Rattle.agent_model.specs.Actions.{stay}
use Rattle.agent_model.specs.Answers.{lose, lose_where}
use Rattle.agent_model.specs.Children.{failed_by, start_failed, is_started_by, job_left, remove_to_start, shut, shut_then}
use Rattle.agent_model.specs.Consents.{over, over_if}
use Rattle.agent_model.specs.Events.{Ended, Heard, StartFailed, Took}
use Rattle.agent_model.specs.KeyStates.{KeyState}
use Rattle.agent_model.specs.Looks.{due_by}
use Rattle.agent_model.specs.Sound.{IsRising}
use Rattle.agent_model.specs.State.{Client, Confirmer, Helper, Port, State, UnderWay, Unnamed, change_port, find_port, find_to_start}
use Rattle.agent_model.specs.Step.{ended_at, handle, heard_at, took_at, took_some}
use Rattle.agent_model.proofs.PortsLemmas.{find_port-change_port, found_number}
use Rattle.agent_core.specs.Bound.{HasNoRequest, LeavesNoRequest, WantsNoMemory}
use Rattle.agent_core.specs.Parts.{state_of}
use Rattle.agent_core.specs.Roles.{role_by}
use Rattle.agent_core.specs.Slots.{OpenPorts}
use Rattle.agent_core.proofs.HelperLemmas.{lose-closed}
use Rattle.agent_core.proofs.RoleLemmas.{ended-as, linked-as, port_of_role, took-as}

-- ---- a port has ended

-- a client's, and with it the confirmation that it waits for
pub client_ends : (number : ℕ) (state : State) → role_by (find_port number state.ports) state.under_way ≡ Some Client
    → shut_then number (over_if (find_asker number state.under_way.confirmations)) state ≡ handle (Ended number) state
client_ends number state is =
    let there = port_of_role (find_port number state.ports) state.under_way Client is in
    ap (λ n. shut_then n (over_if (find_asker n state.under_way.confirmations)) state) (sym (found_number number state.ports there.0 there.1))
    ∙ sym (ended-as number there.0 Client state there.1 there.2)

-- that of a child process that hasn't named itself
pub unnamed_ends : (number : ℕ) (state : State) → role_by (find_port number state.ports) state.under_way ≡ Some Unnamed
    → shut number state ≡ handle (Ended number) state
unnamed_ends number state is =
    let there = port_of_role (find_port number state.ports) state.under_way Unnamed is in
    ap (λ n. shut n state) (sym (found_number number state.ports there.0 there.1))
    ∙ sym (ended-as number there.0 Unnamed state there.1 there.2)

-- that of a child process that asks the user
pub confirmer_ends : (number : ℕ) (state : State) (one : Confirmation)
    → role_by (find_port number state.ports) state.under_way ≡ Some (Confirmer one)
    → shut_then number (over one) state ≡ handle (Ended number) state
confirmer_ends number state one is =
    let there = port_of_role (find_port number state.ports) state.under_way (Confirmer one) is in
    ap (λ n. shut_then n (over one) state) (sym (found_number number state.ports there.0 there.1))
    ∙ sym (ended-as number there.0 (Confirmer one) state there.1 there.2)

-- the helper's
pub helper_ends : (number last : ℕ) (state : State) → IsRising 0 last state.ports
    → role_by (find_port number state.ports) state.under_way ≡ Some Helper → lose state ≡ handle (Ended number) state
helper_ends number last state rising is =
    let there = port_of_role (find_port number state.ports) state.under_way Helper is in
    let same : there.0.number ≡ number = found_number number state.ports there.0 there.1 in
    lose-closed number last state (linked-as there.0.door there.0.number state.under_way there.2 ∙ ap (λ n. states.Linked n) same) rising
    ∙ ap (λ n. shut_then n lose state) (sym same)
    ∙ sym (ended-as number there.0 Helper state there.1 there.2)

-- ---- a job could not be started

-- by its kind
failed_as : (job : ℕ) (kind : JobKind) (found : Option Job) (state : State) → IsSome found → ((one : Job) → found ≡ Some one → (one.kind ≡ kind) × (one.number ≡ job)) → start_failed found state ≡ failed_by kind job (job_left job state)
failed_as job kind None state some is = absurd (cc)
failed_as job kind (Some one) state some is =
    ap (λ k. failed_by k one.number (job_left one.number state)) (is one refl).0
    ∙ ap (λ n. failed_by kind n (job_left n state)) (is one refl).1

-- a helper's, which is lost where it was being started by that job
pub helper_fails : (wall : ℕ) (keys : KeyState) (going mid : UnderWay) (ports : OpenPorts) (job : ℕ) (kind : JobKind)
    → IsSome (find_to_start job going.to_start)
    → ((one : Job) → find_to_start job going.to_start ≡ Some one → (one.kind ≡ kind) × (one.number ≡ job))
    → kind ≡ kinds.Helper → mid ≡ record going { to_start = remove_to_start job going.to_start }
    → lose_where (is_started_by job mid.link.state) (state_of wall keys mid ports)
    ≡ handle (StartFailed job) (state_of wall keys going ports)
helper_fails wall keys going mid ports job kind some is helper mid_is =
    let state : State = state_of wall keys going ports in
    ap (λ (u : UnderWay). lose_where (is_started_by job u.link.state) (state_of wall keys u ports)) mid_is
    ∙ ap (λ k. failed_by k job (job_left job state)) (sym helper)
    ∙ sym (failed_as job kind (find_to_start job going.to_start) state some is)

-- that of a child process that is to ask the user
pub confirmer_fails : (wall : ℕ) (keys : KeyState) (going mid : UnderWay) (ports : OpenPorts) (job : ℕ) (kind : JobKind)
    → IsSome (find_to_start job going.to_start)
    → ((one : Job) → find_to_start job going.to_start ≡ Some one → (one.kind ≡ kind) × (one.number ≡ job))
    → kind ≡ kinds.Confirm → mid ≡ record going { to_start = remove_to_start job going.to_start }
    → over_if (find_job job mid.confirmations) (state_of wall keys mid ports)
    ≡ handle (StartFailed job) (state_of wall keys going ports)
confirmer_fails wall keys going mid ports job kind some is confirm mid_is =
    let state : State = state_of wall keys going ports in
    ap (λ (u : UnderWay). over_if (find_job job u.confirmations) (state_of wall keys u ports)) mid_is
    ∙ ap (λ k. failed_by k job (job_left job state)) (sym confirm)
    ∙ sym (failed_as job kind (find_to_start job going.to_start) state some is)

-- ---- a port that isn't open

pub absent_ends : (number : ℕ) (state : State) → find_port number state.ports ≡ None → stay state ≡ handle (Ended number) state
absent_ends number state absent = sym (ap (λ found. ended_at found state) absent)

pub absent_hears : (number : ℕ) (piece : List ℕ) (state : State) → find_port number state.ports ≡ None → stay state ≡ handle (Heard number piece) state
absent_hears number piece state absent = sym (ap (λ found. heard_at found piece state) absent)

pub absent_takes : (number count : ℕ) (state : State) → find_port number state.ports ≡ None → stay state ≡ handle (Took number count) state
absent_takes number count state absent = sym (ap (λ found. took_at found count state) absent)

-- a child process that hasn't named itself takes nothing
pub unnamed_takes : (number count : ℕ) (state : State) → role_by (find_port number state.ports) state.under_way ≡ Some Unnamed → stay state ≡ handle (Took number count) state
unnamed_takes number count state is =
    let there = port_of_role (find_port number state.ports) state.under_way Unnamed is in
    sym (took-as number count there.0 Unnamed state there.1 there.2)

-- ---- bytes that were sent

-- where that wants no memory, a look at the client takes no request
pub none_whole : (number count : ℕ) (state : State) (old mid : OpenPorts) → state.ports ≡ old.ports
    → role_by (find_port number state.ports) state.under_way ≡ Some Client
    → mid ≡ record old { ports = change_port number (took_some count) old.ports }
    → WantsNoMemory state (Took number count)
    → (body_len : ℕ) → due_by (find_port number mid.ports) ≡ Whole body_len → ⊥
none_whole number count state old mid same is mid_is wants body_len whole =
    let there = port_of_role (find_port number state.ports) state.under_way Client is in
    let port : Port = there.0 in
    let at_port : LeavesNoRequest (Some port) count state.under_way =
    subst (λ found. LeavesNoRequest found count state.under_way) there.1 wants in
    let none : HasNoRequest Client (took_some count port) =
    subst (λ role. HasNoRequest role (took_some count port)) there.2 at_port in
    let found : find_port number old.ports ≡ Some port = ap (find_port number) (sym same) ∙ there.1 in
    let left : find_port number mid.ports ≡ Some (took_some count port) =
    ap (λ (v : OpenPorts). find_port number v.ports) mid_is
    ∙ find_port-change_port number (took_some count) old.ports (λ p. refl)
    ∙ ap (option_map (took_some count)) found in
    none body_len (ap due_by (sym left) ∙ whole)
