-- Who waits at a port, and what an event ends there, by their definitions.
use Rattle.std.proofs.Common.{◌≡◌, ◌≢◌, ◌⊎◌, ◌==◌, ◌&&◌, ℕ, List, [], ◌∷◌, ◌++◌, length, map, refl, ap, arith, sym, ◌∙◌, Bool, true, false, Option, Some, None, inl, inr, if◌then◌else◌}
use Rattle.std.proofs.lemmas.Bool.{cases_eq}
use Rattle.std.proofs.lemmas.Bool.Decides.{nat_tests}
use Rattle.world_ports.specs.declared.Door.TheVariants.{Clients, Children}
use Rattle.agent_model.specs.Actions.{Action}
use Rattle.agent_model.specs.Events.{Happening, Timed, Joined, Heard, Ended, Took, Started, StartFailed, Tick}
use Rattle.agent_model.specs.Runs.{Stamped}
use Rattle.agent_model.specs.State.{Nothing, OnAsk, OnConfirmation, Port, Waits, is_client}
use Rattle.agent_model.specs.Step.{took_some}
use Rattle.agent_model.proofs.MakeLemmas.{IsOf, takes}
use Rattle.log_book.specs.Peers.{Peer}
use Rattle.log_book.specs.declared.told.Asked.TheVariants as asks
use Rattle.log_laws.specs.Ends.{Came, End, Left, Request, Went, ask_in, came_at, came_by, ended_at, ends_at, ends_with, is_busy, last_request, readings_of, waits_at, waits_with, went_by}
use Rattle.log_laws.specs.Ends as law
use Rattle.log_laws.proofs.BookLemmas.{AreAlike, both, claim-alike, claim_of, neither, peer_or}
use Rattle.log_laws.proofs.ClientLemmas.{Client, idle, taking, waiting}
use Rattle.log_laws.proofs.EndLemmas.{left_ends}
use Rattle.log_laws.proofs.FareLemmas.{Fares}

-- ---- what an event ends

either-way : (is : Bool) {none : List End} → (if is then none else none) ≡ none
either-way true = refl
either-way false = refl

pub ends-none : (number : ℕ) (timed : Timed) (port : Port) (last : Option Request)
    → ((later : List Action) → came_at number port later timed.event ≡ None) → ends_with number timed (Some port) last ≡ []
ends-none number timed port None none = refl
ends-none number timed port (Some request) none =
    ap (λ came. if is_client port.door then law.ended_by timed.moment.wall came (went_by number request.later) (readings_of request) else []) (none request.later)
    ∙ either-way (is_client port.door)

pub ends-child : (number : ℕ) (timed : Timed) (found : Option Port) (last : Option Request)
    → ((port : Port) → found ≡ Some port → port.door ≡ Children) → ends_with number timed found last ≡ []
ends-child number timed None last child = refl
ends-child number timed (Some port) None child = refl
ends-child number timed (Some port) (Some request) child =
    ap (λ door. if is_client door then law.ended_by timed.moment.wall (came_at number port request.later timed.event) (went_by number request.later) (readings_of request) else []) (child port refl)

pub ends-some : (number : ℕ) (timed : Timed) (port : Port) (request : Request) (came : Came) → port.door ≡ Clients
    → came_at number port request.later timed.event ≡ Some came
    → ends_with number timed (Some port) (Some request) ≡ map (ended_at timed.moment.wall came (went_by number request.later)) (readings_of request)
ends-some number timed port request came door is =
    ap (λ d. if is_client d then law.ended_by timed.moment.wall (came_at number port request.later timed.event) (went_by number request.later) (readings_of request) else []) door
    ∙ ap (λ c. law.ended_by timed.moment.wall c (went_by number request.later) (readings_of request)) is

pub waits-child : (number : ℕ) (found : Option Port) (last : Option Request) → ((port : Port) → found ≡ Some port → port.door ≡ Children)
    → waits_with number found last ≡ []
waits-child number None last child = refl
waits-child number (Some port) None child = refl
waits-child number (Some port) (Some request) child =
    ap (λ door. if is_client door && is_busy port.waits port.owed then map (law.waiting (went_by number request.later)) (readings_of request) else []) (child port refl)

pub waits-none : (number : ℕ) (port : Port) (last : Option Request) → is_busy port.waits port.owed ≡ false → waits_with number (Some port) last ≡ []
waits-none number port None idle_port = refl
waits-none number port (Some request) idle_port =
    ap (λ b. if is_client port.door && b then map (law.waiting (went_by number request.later)) (readings_of request) else []) idle_port
    ∙ either (is_client port.door)
  where
    either : (is : Bool) → (if is && false then map (law.waiting (went_by number request.later)) (readings_of request) else []) ≡ []
    either true = refl
    either false = refl

-- ---- who waits

pub idle-not : (port : Port) → port.waits ≡ Nothing → port.owed ≡ [] → is_busy port.waits port.owed ≡ false
idle-not port nothing unowed = ap (λ w. is_busy w port.owed) nothing ∙ ap (λ o. is_busy Nothing o) unowed

waiting-is : (on : Waits) (owed : List ℕ) → on ≢ Nothing → is_busy on owed ≡ true
waiting-is Nothing owed some = absurd (some refl)
waiting-is (OnAsk ask) owed some = refl
waiting-is (OnConfirmation job) owed some = refl

owed-is_busy : (owed : List ℕ) → owed ≢ [] → is_busy Nothing owed ≡ true
owed-is_busy [] some = absurd (some refl)
owed-is_busy (byte ∷ owed) some = grind (arith, nat_tests)

pub busy-is : (port : Port) (peer : Peer) → Client port peer → peer.asked ≢ asks.Nothing → is_busy port.waits port.owed ≡ true
busy-is port peer (idle nothing unowed sent given none more) some = absurd (some none)
busy-is port peer (waiting on unowed sent given asking) some = waiting-is port.waits port.owed on
busy-is port peer (taking body nothing owes sent asking fits text) some =
    ap (λ w. is_busy w port.owed) nothing ∙ owed-is_busy port.owed owes

pub left-none : (wall : ℕ) (is : Bool) (went : Went) (found : Option Peer) → claim_of found ≡ [] → left_ends wall is went found ≡ []
left-none wall true went found none = ap (map (ended_at wall Left went)) none
left-none wall false went found none = refl

-- an event is the end of this port, or isn't
pub ended-or : (number : ℕ) (event : Happening) → (event ≡ Ended number) ⊎ (event ≢ Ended number)
ended-or number (Joined door) = inr (λ is. absurd (cc))
ended-or number (Heard port piece) = inr (λ is. absurd (cc))
ended-or number (Ended port) = elim (cases_eq number port) [
  | inl equal ↦ inl (ap Ended (sym equal))
  | inr other ↦ inr (λ is. let same : number ≡ port = cc in other same)
]
ended-or number (Took port count) = inr (λ is. absurd (cc))
ended-or number (Started job ticket) = inr (λ is. absurd (cc))
ended-or number (StartFailed job) = inr (λ is. absurd (cc))
ended-or number Tick = inr (λ is. absurd (cc))

-- an event of others ends nothing of this client
pub came-none : (number : ℕ) (port : Port) (event : Happening) → (IsOf event number → ⊥) → event ≢ Ended number
    → (later : List Action) → came_at number port later event ≡ None
came-none number port (Joined door) foreign open_yet later = refl
came-none number port (Heard at piece) foreign open_yet later = refl
came-none number port (Ended at) foreign open_yet later =
    let other : at ≢ number = λ same. open_yet (ap Ended same) in
    let fails : (at == number) ≡ false = grind (arith, nat_tests) in
    ap (λ b. if b && is_busy port.waits port.owed then Some Left else None) fails
came-none number port (Took at count) foreign open_yet later =
    let other : at ≢ number = λ same. foreign (took_some count, takes count (ap (λ n. Took n count) same)) in
    let fails : (at == number) ≡ false = grind (arith, nat_tests) in
    ap (λ b. if b && (count == length port.owed) then Some (came_by (went_by number later).put (ask_in number later)) else None) fails
came-none number port (Started job ticket) foreign open_yet later = refl
came-none number port (StartFailed job) foreign open_yet later = refl
came-none number port Tick foreign open_yet later = refl

-- the end of an idle client's port neither
pub came-idle : (number : ℕ) (port : Port) (event : Happening) → (IsOf event number → ⊥) → is_busy port.waits port.owed ≡ false
    → (later : List Action) → came_at number port later event ≡ None
came-idle number port event foreign idle_port later = by_either (ended-or number event)
  where
    either : (is : Bool) → (if is && false then Some Left else None) ≡ None
    either true = refl
    either false = refl

    by_either : (event ≡ Ended number) ⊎ (event ≢ Ended number) → came_at number port later event ≡ None
    by_either (inl is) =
        ap (came_at number port later) is
        ∙ ap (λ b. if (number == number) && b then Some Left else None) idle_port
        ∙ either (number == number)
    by_either (inr open_yet) = came-none number port event foreign open_yet later

pub fares-alike : (number : ℕ) (past : List Stamped) (port : Port) {one other : Option Peer} → AreAlike one other
    → Fares number past port (peer_or number one) → Fares number past port (peer_or number other)
fares-alike number past port neither fares = fares
fares-alike number past port (both one other is) fares = λ busy.
    (let now = fares (λ none. busy (is.asked ∙ none)) in
    record {
      request = now.request;
      last = now.last;
      reads = claim-alike (both one other is) ∙ now.reads;
      asked = now.asked;
      raised = now.raised;
      taking = λ nothing. (
        (now.taking nothing).0,
        λ was_put body small text. (now.taking nothing).1 was_put body small (ap (λ g. g ++ port.owed) (sym is.given) ∙ text),
      );
    })
