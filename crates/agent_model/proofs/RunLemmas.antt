-- Lemmas on events one after another.
use Rattle.std.proofs.Common.{◌≡◌, ℕ, suc, ◌^◌, ◌<◌, ◌≤◌, List, [], ◌∷◌, ◌++◌, refl, ap, arith, ◌∙◌, Some, None, Bool, true, false}
use Rattle.std.proofs.lemmas.Bool.Decides.{nat_tests}
use Rattle.lists.specs.Keyed.{has_key}
use Rattle.lists.proofs.FirstLemmas.{find-change_none, find-push_other, find-remove_none}
use Rattle.lists.proofs.KeyedLemmas.{differ, keeps_key}
use Rattle.world_ports.specs.declared.Moment.{Moment}
use Rattle.world_ports.specs.declared.Door.{Door}
use Rattle.world_ports.specs.declared.Door.TheVariants.{Clients, Children}
use Rattle.agent_model.specs.Events.{Happening, Timed, Joined, Heard, Ended, Took, Started, StartFailed, Tick}
use Rattle.agent_model.specs.Runs.{AllFit, run}
use Rattle.agent_model.specs.Sound.{IsRising, IsSound}
use Rattle.agent_model.specs.State.{Fits, Port, Settings, State, UnderWay, change_port, client_count, find_port, first_state, is_client, new_port, remove_port, number_of}
use Rattle.agent_model.specs.Step.{admitted, handle, has_room, joined, step}
use Rattle.agent_model.specs.Time.{at_moment}
use Rattle.agent_model.specs.Answers.{close_helper, lose}
use Rattle.agent_model.specs.Verdicts.{HelperLost, Refuses}
pub use Rattle.agent_model.specs.Runs.{last_after}
use Rattle.helper_link.specs.HelperLink.{askers}
use Rattle.helper_link.specs.declared.state.LinkState.TheVariants as states
use Rattle.agent_model.proofs.LeadLemmas.{Follows, Leads, changes, follows-makes, leads-tell_each, removes, same}
use Rattle.agent_model.proofs.TieLemmas.{IsOf, apart, found_after, here}
use Rattle.agent_model.proofs.MakeLemmas.{by_event, loses, makes-handle, overs}
use Rattle.agent_model.proofs.OnTimeLemmas.{at_moment-on_time, taken_in-at_moment}
use Rattle.agent_model.proofs.PortsLemmas.{find_port-left, find_port-remove_port, rising-append, rising-change_port, rising-remove_port, rising_higher}
use Rattle.agent_model.proofs.TimeLemmas.{at_moment-keeps, on_time-at_moment}

-- a moment that was taken in is not taken in again
pub at_moment-twice : (state : State) (moment : Moment)
    → at_moment moment (at_moment moment state) ≡ at_moment moment state
at_moment-twice state moment =
    on_time-at_moment moment (at_moment moment state) (at_moment-on_time moment state) ∙ taken_in-at_moment moment state

-- ---- what stays where ports are changed and closed

-- the numbers rise
pub leads-rising : (low high : ℕ) (old : List Port) {new : List Port} → Leads old new
    → IsRising low high old → IsRising low high new
leads-rising low high old same rising = rising
leads-rising low high old (changes number f ports keeps door leads) rising =
    rising-change_port number low high f ports keeps (leads-rising low high old leads rising)
leads-rising low high old (removes number ports leads) rising =
    rising-remove_port number low high ports (leads-rising low high old leads rising)

count-change_port : (number : ℕ) (f : Port → Port) (ports : List Port)
    → ((p : Port) → (f p).door ≡ p.door)
    → client_count (change_port number f ports) ≡ client_count ports
count-change_port number f [] door = refl
count-change_port number f (port ∷ ports) door =
    let rest : client_count (change_port number f ports) ≡ client_count ports = count-change_port number f ports door in
    let same : is_client (f port).door ≡ is_client port.door = ap is_client (door port) in
    grind (arith, nat_tests)

count-remove_port : (number : ℕ) (ports : List Port)
    → client_count (remove_port number ports) ≤ client_count ports
count-remove_port number [] = omega arith
count-remove_port number (port ∷ ports) =
    let rest : client_count (remove_port number ports) ≤ client_count ports = count-remove_port number ports in
    grind (arith, nat_tests)

-- no more clients are open
pub leads-few : (old : List Port) {new : List Port} → Leads old new
    → client_count new ≤ client_count old
leads-few old same = omega arith
leads-few old (changes number f ports keeps door leads) =
    omega (arith, count-change_port number f ports door, leads-few old leads)
leads-few old (removes number ports leads) =
    omega (arith, count-remove_port number ports, leads-few old leads)

find_port-removed : (number other : ℕ) (ports : List Port) → find_port number ports ≡ None
    → find_port number (remove_port other ports) ≡ None
find_port-removed number other ports absent =
    find-remove_none (has_key number_of number) (has_key number_of other) ports absent

find_port-changed : (number other : ℕ) (f : Port → Port) (ports : List Port)
    → ((port : Port) → (f port).number ≡ port.number) → find_port number ports ≡ None
    → find_port number (change_port other f ports) ≡ None
find_port-changed number other f ports keeps absent =
    find-change_none (has_key number_of number) (has_key number_of other) f ports
    (λ port fails. keeps_key number_of number f keeps port ∙ fails) absent

-- a port that isn't there stays away
pub leads-absent : (number : ℕ) (old : List Port) {new : List Port} → Leads old new
    → find_port number old ≡ None → find_port number new ≡ None
leads-absent number old same absent = absent
leads-absent number old (changes other f ports keeps door leads) absent =
    find_port-changed number other f ports keeps (leads-absent number old leads absent)
leads-absent number old (removes other ports leads) absent =
    find_port-removed number other ports (leads-absent number old leads absent)

-- a port that is open afterwards was open before, and has its door
pub leads-found : (number low high : ℕ) (old : List Port) {new : List Port} (port : Port)
    → Leads old new → IsRising low high old → find_port number new ≡ Some port
    → (was : Port) × (find_port number old ≡ Some was) × (port.door ≡ was.door)
leads-found number low high old port same rising found = (port, found, refl)
leads-found number low high old port (changes other f ports keeps doors leads) rising found =
    by_port (λ before. leads-found number low high old before leads rising) (found_after number other f ports port keeps found)
  where
    by_port : ((before : Port) → find_port number ports ≡ Some before → (was : Port) × (find_port number old ≡ Some was) × (before.door ≡ was.door))
        → IsOf number other f ports port
        → (was : Port) × (find_port number old ≡ Some was) × (port.door ≡ was.door)
    by_port earlier (here before at was is) =
        let first = earlier before was in
        (first.0, first.1, ap (λ (p : Port). p.door) is ∙ doors before ∙ first.2)
    by_port earlier (apart at was) = earlier port was
leads-found number low high old port (removes other ports leads) rising found =
    leads-found number low high old port leads rising (find_port-left number other low high ports port (leads-rising low high old leads rising) found)

-- and the numbers rise up to the last one behind what follows
pub rising_behind : (old new : State) → Follows old new → IsRising 0 old.last_port old.ports
    → IsRising 0 new.last_port new.ports
rising_behind old new follows rising =
    rw follows.last (leads-rising 0 old.last_port old.ports follows.ports rising)

-- ---- a step

-- what a moment leaves of the ports
pub at_moment-follows : (moment : Moment) (state : State) → Follows state (at_moment moment state)
at_moment-follows moment state =
    at_moment-keeps (Follows state) moment state (λ s follows. follows-makes Tick state (loses s) follows)
    (λ one s there follows. follows-makes Tick state (overs one s there) follows) record { last = refl; ports = same }

-- what every event but a joining leaves of the ports
pub handle-follows : (event : Happening) (state : State) → ((door : Door) → event ≡ Joined door → ⊥)
    → Follows state (handle event state).state
handle-follows event state other =
    follows-makes event state (makes-handle event state other) record { last = refl; ports = same }

-- and behind a moment
step-follows : (state : State) (moment : Moment) (event : Happening)
    → ((door : Door) → event ≡ Joined door → ⊥) → Follows state (step state moment event).state
step-follows state moment event other =
    let opened : State = at_moment moment state in
    let follows = follows-makes event state (makes-handle event opened other) (at_moment-follows moment state) in
    record { last = follows.last; ports = follows.ports }

-- what every event leaves of the ports, a joining too
handle_ports : (P : State → Type 0) (event : Happening) (state : State)
    → ((door : Door) → P state → P (joined door state))
    → ((new : State) → Follows state new → P state → P new) → P state → P (handle event state).state
handle_ports P event state joins keeps holds =
    by_event (λ outcome. P outcome.state) event state (λ door. joins door holds)
    (λ outcome makes. keeps outcome.state (follows-makes event state makes record { last = refl; ports = same }) holds)

-- and behind a moment
by_ports : (P : State → Type 0) (event : Happening) (moment : Moment) (state : State)
    → ((s : State) (door : Door) → P s → P (joined door s))
    → ((old new : State) → Follows old new → P old → P new) → P state
    → P (handle event (at_moment moment state)).state
by_ports P event moment state joins keeps holds =
    let opened : State = at_moment moment state in
    handle_ports P event opened (joins opened) (keeps opened) (keeps state opened (at_moment-follows moment state) holds)

-- only a port that joins gets a number
pub step-last_port : (state : State) (moment : Moment) (event : Happening)
    → (step state moment event).state.last_port ≡ last_after event state.last_port
step-last_port state moment (Joined door) = ap suc (at_moment-follows moment state).last
step-last_port state moment (Heard port piece) =
    (step-follows state moment (Heard port piece) (λ door is. cc)).last
step-last_port state moment (Ended port) =
    (step-follows state moment (Ended port) (λ door is. cc)).last
step-last_port state moment (Took port count) =
    (step-follows state moment (Took port count) (λ door is. cc)).last
step-last_port state moment (Started job ticket) =
    (step-follows state moment (Started job ticket) (λ door is. cc)).last
step-last_port state moment (StartFailed job) =
    (step-follows state moment (StartFailed job) (λ door is. cc)).last
step-last_port state moment Tick = (step-follows state moment Tick (λ door is. cc)).last

-- the last number never falls
pub last_after-le : (event : Happening) (last : ℕ) → last ≤ last_after event last
last_after-le (Joined door) last = omega arith
last_after-le (Heard port piece) last = omega arith
last_after-le (Ended port) last = omega arith
last_after-le (Took port count) last = omega arith
last_after-le (Started job ticket) last = omega arith
last_after-le (StartFailed job) last = omega arith
last_after-le Tick last = omega arith

-- and where the event may come it fits 64 bits
pub last_after-fits : (event : Happening) (state : State) → Fits event state
    → state.last_port < 2 ^ 64 → last_after event state.last_port < 2 ^ 64
last_after-fits (Joined door) state fits below = omega (arith, fits)
last_after-fits (Heard port piece) state fits below = below
last_after-fits (Ended port) state fits below = below
last_after-fits (Took port count) state fits below = below
last_after-fits (Started job ticket) state fits below = below
last_after-fits (StartFailed job) state fits below = below
last_after-fits Tick state fits below = below

-- the numbers of the open ports rise up to the last one
abbrev pub IsNumbered : State → Type 0
IsNumbered state = IsRising 0 state.last_port state.ports

admitted-rising : (room : Bool) (last : ℕ) (door : Door) (ports : List Port) → IsRising 0 last ports
    → IsRising 0 (suc last) (admitted room (suc last) door ports)
admitted-rising true last door ports rising =
    rising-append 0 last (suc last) door ports (omega arith) rising
admitted-rising false last door ports rising =
    rising_higher 0 last (suc last) ports (omega arith) rising

-- every event keeps the numbers rising
pub step_keeps-rising : (state : State) (moment : Moment) (event : Happening) → IsNumbered state
    → IsNumbered (step state moment event).state
step_keeps-rising state moment event =
    by_ports IsNumbered event moment state (λ s door. admitted-rising (has_room door s.ports s.under_way) s.last_port door s.ports)
    rising_behind

count-append : (number : ℕ) (door : Door) (ports : List Port)
    → client_count (ports ++ new_port number door ∷ []) ≤ suc (client_count ports)
count-append number door [] = grind (arith, nat_tests)
count-append number door (port ∷ ports) =
    let rest : client_count (ports ++ new_port number door ∷ []) ≤ suc (client_count ports) = count-append number door ports in
    grind (arith, nat_tests)

count-append_child : (number : ℕ) (ports : List Port)
    → client_count (ports ++ new_port number Children ∷ []) ≡ client_count ports
count-append_child number [] = refl
count-append_child number (port ∷ ports) =
    let rest : client_count (ports ++ new_port number Children ∷ []) ≡ client_count ports = count-append_child number ports in
    grind (arith, nat_tests)

admitted-few : (door : Door) (room : Bool) (last : ℕ) (ports : List Port) (under_way : UnderWay)
    → has_room door ports under_way ≡ room → client_count ports ≤ 128
    → client_count (admitted room (suc last) door ports) ≤ 128
admitted-few door false last ports under_way is few = few
admitted-few Clients true last ports under_way is few =
    let less : client_count ports < 128 = grind (arith, nat_tests) in
    omega (arith, count-append (suc last) Clients ports)
admitted-few Children true last ports under_way is few =
    rw (count-append_child (suc last) ports) few

-- every event keeps the clients few
pub step_keeps-few : (state : State) (moment : Moment) (event : Happening)
    → client_count state.ports ≤ 128 → client_count (step state moment event).state.ports ≤ 128
step_keeps-few state moment event =
    by_ports (λ s. client_count s.ports ≤ 128) event moment state
    (λ s door. admitted-few door (has_room door s.ports s.under_way) s.last_port s.ports s.under_way refl)
    (λ old new follows few. omega (arith, leads-few old.ports follows.ports, few))

-- every event leaves a sound state
pub step_keeps-sound : (state : State) (moment : Moment) (event : Happening) → IsSound state
    → IsSound (step state moment event).state
step_keeps-sound state moment event sound = record {
  rising = step_keeps-rising state moment event sound.rising;
  few = step_keeps-few state moment event sound.few;
}

find_port-joined : (number other : ℕ) (door : Door) (ports : List Port) → number < other
    → find_port number ports ≡ None → find_port number (ports ++ new_port other door ∷ []) ≡ None
find_port-joined number other door ports below absent =
    find-push_other (has_key number_of number) ports (new_port other door) (differ other number (λ is. omega arith)) ∙ absent

find_port-admitted : (room : Bool) (number other : ℕ) (door : Door) (ports : List Port)
    → number < other → find_port number ports ≡ None
    → find_port number (admitted room other door ports) ≡ None
find_port-admitted true number other door ports below absent =
    find_port-joined number other door ports below absent
find_port-admitted false number other door ports below absent = absent

-- a number that was given out and isn't open stays unused
pub handle-unused : (state : State) (event : Happening) (number : ℕ) → number ≤ state.last_port
    → find_port number state.ports ≡ None → find_port number (handle event state).state.ports ≡ None
handle-unused state event number below =
    handle_ports (λ s. find_port number s.ports ≡ None) event state
    (λ door. find_port-admitted (has_room door state.ports state.under_way) number (suc state.last_port) door state.ports (omega arith))
    (λ new follows. leads-absent number state.ports follows.ports)

-- and behind a moment
pub step-unused : (state : State) (moment : Moment) (event : Happening) (number : ℕ)
    → number ≤ state.last_port → find_port number state.ports ≡ None
    → find_port number (step state moment event).state.ports ≡ None
step-unused state moment event number below absent =
    let follows = at_moment-follows moment state in
    handle-unused (at_moment moment state) event number (omega (arith, below, follows.last)) (leads-absent number state.ports follows.ports absent)

-- ---- runs

-- events that come one after another keep a sound state sound
pub run_keeps-sound : (state : State) (events : List Timed) → IsSound state
    → IsSound (run state events)
run_keeps-sound state [] sound = sound
run_keeps-sound state (timed ∷ later) sound =
    run_keeps-sound (step state timed.moment timed.event).state later (step_keeps-sound state timed.moment timed.event sound)

pub first_is_sound : (settings : Settings) → IsSound (first_state settings)
first_is_sound settings = record { rising = omega arith; few = omega arith }

-- the last number fits 64 bits
pub run-fits : (state : State) (events : List Timed) → AllFit state events
    → state.last_port < 2 ^ 64 → (run state events).last_port < 2 ^ 64
run-fits state [] fit below = below
run-fits state (timed ∷ later) fit below =
    let last = step-last_port state timed.moment timed.event in
    let next : (step state timed.moment timed.event).state.last_port < 2 ^ 64 = rw last (last_after-fits timed.event state fit.0 below) in
    run-fits (step state timed.moment timed.event).state later fit.1 next

-- the last number never falls
pub step-rises : (state : State) (moment : Moment) (event : Happening)
    → state.last_port ≤ (step state moment event).state.last_port
step-rises state moment event =
    omega (arith, step-last_port state moment event, last_after-le event state.last_port)

pub run-rises : (state : State) (events : List Timed)
    → state.last_port ≤ (run state events).last_port
run-rises state [] = omega arith
run-rises state (timed ∷ later) =
    let first = step-rises state timed.moment timed.event in
    let rest = run-rises (step state timed.moment timed.event).state later in
    omega (arith, first, rest)

-- a number that was given out and isn't open stays unused
pub run-unused : (state : State) (events : List Timed) (number : ℕ) → number ≤ state.last_port
    → find_port number state.ports ≡ None → find_port number (run state events).ports ≡ None
run-unused state [] number below absent = absent
run-unused state (timed ∷ later) number below absent =
    let rises = step-rises state timed.moment timed.event in
    run-unused (step state timed.moment timed.event).state later number (omega (arith, rises))
    (step-unused state timed.moment timed.event number below absent)

-- ---- the loss of the helper

-- its port isn't open afterwards
pub lost-closed : (state : State) (port : ℕ) → IsRising 0 state.last_port state.ports
    → state.under_way.link.state ≡ states.Linked port
    → find_port port (lose state).state.ports ≡ None
lost-closed state port rising linked =
    let closes : close_helper state.under_way.link.state state.ports ≡ remove_port port state.ports = ap (λ l. close_helper l state.ports) linked in
    let gone : find_port port (close_helper state.under_way.link.state state.ports) ≡ None =
    ap (find_port port) closes ∙ find_port-remove_port port 0 state.last_port state.ports rising in
    let ports : List Port = close_helper state.under_way.link.state state.ports in
    leads-absent port ports (leads-tell_each ports (Refuses HelperLost) (askers state.under_way.link.asks) ports same) gone
