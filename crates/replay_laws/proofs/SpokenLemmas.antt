-- The events of the lines that tell of a piece.
use Rattle.std.proofs.Common.{◌≡◌, ℕ, zero, suc, ◌<◌, ◌≤◌, List, [], ◌∷◌, ◌++◌, length, take, drop, refl, sym, ap, subst, ◌∙◌, arith, append-nil, Bool, true, false, Some}
use Rattle.std.proofs.lemmas.Bool.Decides.{nat_tests}
use Rattle.std.proofs.lemmas.List.{drop_all, take_all}
use Rattle.lists.specs.Rising.{is_among}
use Rattle.world_ports.specs.declared.Door.{Door}
use Rattle.world_ports.specs.declared.Door.TheVariants.{Clients, Children}
use Rattle.world_ports.specs.declared.Moment.{Moment}
use Rattle.wire_text.specs.Bounds.{longest_body}
use Rattle.wire_text.specs.Frames.{Bad, Front, More, Whole, front, split}
use Rattle.redact_core.specs.Redaction.{Redacted, redacted_all}
use Rattle.record_world.specs.Recording.{Port as Kept, Taken, client_taken, hear_lines, longest_piece, rest_taken, taken, taken_by}
use Rattle.agent_model.specs.Actions.{Outcome}
use Rattle.agent_model.specs.Children.{changed, heard_more}
use Rattle.agent_model.specs.Events.{Heard}
use Rattle.agent_model.specs.Looks.{due, due_by}
use Rattle.agent_model.specs.State.{Port, State, change_port, find_port}
use Rattle.agent_model.specs.Step.{handle, looked}
use Rattle.agent_model.proofs.ClientLemmas.{handle-heard, looked-stays}
use Rattle.agent_model.proofs.PortsLemmas.{change_port-by}
use Rattle.replay_laws.specs.Lines.{events_of}
use Rattle.replay_laws.specs.Replaying.{AllFitUnless, FitsUnless, stepped_all, stepped_unless}
use Rattle.replay_laws.proofs.PieceLemmas.{heard_up_to, held_events}

-- ---- a port that is kept keeps its number and door

rest_same : (at : Front) (port : Kept) (frames : Redacted) (rest : List ℕ)
    → ((rest_taken at port frames rest).port.number ≡ port.number)
    × ((rest_taken at port frames rest).port.door ≡ port.door)
rest_same (Bad announced) port frames rest = (refl, refl)
rest_same (Whole body_len) port frames rest = (refl, refl)
rest_same More port frames rest = (refl, refl)

client_same : (is_bad : Bool) (port : Kept) (piece : List ℕ) (early : List (List ℕ))
    → ((client_taken is_bad port piece early).port.number ≡ port.number)
    × ((client_taken is_bad port piece early).port.door ≡ port.door)
client_same true port piece early = (refl, refl)
client_same false port piece early =
    let cut = split longest_body (port.unrecorded ++ piece) in
    rest_same (front longest_body cut.rest) port (redacted_all cut.bodies early) cut.rest

pub taken_same : (door : Door) (port : Kept) (piece : List ℕ) (early : List (List ℕ))
    → ((taken_by door port piece early).port.number ≡ port.number)
    × ((taken_by door port piece early).port.door ≡ port.door)
taken_same Clients port piece early = client_same port.is_bad port piece early
taken_same Children port piece early = (refl, refl)

-- ---- the events of a piece that is told

pub events_told : (taken : Taken) (number : ℕ) → taken.port.number ≡ number
    → events_of (hear_lines taken) ≡ heard_up_to number (length taken.bytes) taken.bytes
events_told taken number is =
    held_events taken.port.is_held taken.port.number taken.bytes
    ∙ ap (λ n. heard_up_to n (length taken.bytes) taken.bytes) is

-- one that a read brings is one
pub one_piece : (number : ℕ) (piece : List ℕ) → 0 < length piece → length piece ≤ longest_piece
    → heard_up_to number (length piece) piece ≡ Heard number piece ∷ []
one_piece number [] some few = absurd (omega (arith, some))
one_piece number (byte ∷ bytes) some few =
    ap (λ first. Heard number first ∷ heard_up_to number (length bytes) (drop longest_piece (byte ∷ bytes)))
    (take_all longest_piece (byte ∷ bytes) few)
    ∙ ap (λ rest. Heard number (byte ∷ bytes) ∷ heard_up_to number (length bytes) rest)
    (drop_all longest_piece (byte ∷ bytes) few)
    ∙ ap (λ later. Heard number (byte ∷ bytes) ∷ later) (nothing (length bytes))
  where
    nothing : (count : ℕ) → heard_up_to number count [] ≡ []
    nothing zero = refl
    nothing (suc count) = refl

-- those of a port that was closed are passed over
pub all_passed : (moment : Moment) (number count : ℕ) (bytes ports : List ℕ) (state : State)
    → is_among number ports ≡ true
    → AllFitUnless moment ports (heard_up_to number count bytes) state
    × (stepped_all moment ports (heard_up_to number count bytes) state ≡ state)
all_passed moment number zero bytes ports state passed = (tt, refl)
all_passed moment number (suc count) [] ports state passed = (tt, refl)
all_passed moment number (suc count) (byte ∷ bytes) ports state passed =
    let later = all_passed moment number count (drop longest_piece (byte ∷ bytes)) ports state passed in
    let piece = take longest_piece (byte ∷ bytes) in
    subst
    (λ b. (FitsUnless b (Heard number piece) state × AllFitUnless moment ports (heard_up_to number count (drop longest_piece (byte ∷ bytes))) (stepped_unless b moment (Heard number piece) state))
    ×
    (stepped_all moment ports (heard_up_to number count (drop longest_piece (byte ∷ bytes))) (stepped_unless b moment (Heard number piece) state) ≡ state))
    (sym passed) ((tt, later.0), later.1)

-- ---- nothing is heard

same_ports : (number : ℕ) (ports : List Port) → change_port number (λ port. port) ports ≡ ports
same_ports number [] = refl
same_ports number (port ∷ ports) =
    let rest = same_ports number ports in
    grind (arith, nat_tests)

pub nothing_heard : (number : ℕ) (port : Port) (state : State)
    → find_port number state.ports ≡ Some port
    → port.door ≡ Clients → due port ≡ More → (handle (Heard number []) state).state ≡ state
nothing_heard number port state found client none =
    let same : changed number (heard_more []) state ≡ state =
    ap (λ ports. let s : State = record state { ports = ports } in s)
    (change_port-by number (heard_more []) (λ p. p) state.ports port found (ap (λ bytes. let p : Port = record port { heard = bytes } in p) (append-nil port.heard)) ∙ same_ports number state.ports) in
    ap (λ (o : Outcome). o.state) (handle-heard number [] port state found client)
    ∙ ap (λ (s : State). (looked number s).state) same
    ∙ looked-stays number state (ap due_by found ∙ none)
