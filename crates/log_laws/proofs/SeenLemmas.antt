-- What is seen of a run, and what its history has.
use Rattle.std.proofs.Common.{◌≡◌, ℕ, List, [], ◌∷◌, ◌++◌, map, refl, ap, sym, ◌∙◌, Bool, true, false, Option, None, Some}
use Rattle.std.proofs.lemmas.List.{append-nil}
use Rattle.std.proofs.lemmas.List.Elements.{filter_map-append}
use Rattle.std.specs.List.{filter_map}
use Rattle.world_ports.specs.declared.Moment.{Moment}
use Rattle.agent_model.specs.Actions.{Action, Outcome}
use Rattle.agent_model.specs.Events.{Happening, Timed, Joined, Heard, Ended, Took, Started, StartFailed, Tick}
use Rattle.agent_model.specs.Runs.{Stamped, history, stamped}
use Rattle.agent_model.specs.State.{State, find_port}
use Rattle.agent_model.specs.Step.{step}
use Rattle.log_book.specs.declared.sight.Sight.{Sight}
use Rattle.log_book.specs.declared.sight.What.{What}
use Rattle.log_book.specs.declared.sight.What.TheVariants as what
use Rattle.log_laws.specs.Puts.{SeesPuts, SeesRaises, counted, put_seen, raised_seen}
use Rattle.log_laws.specs.Sights.{came_of, closed_sight, event_sights, goes_over, is_of_client, of_client, put_by, put_in, put_sight, raised_by, raised_in, raised_sight, run_sights}

-- ---- things of which none counts, and things of which each does

none_of : (of : What → Option ℕ) (f : ℕ → Sight) (ports : List ℕ) → ((port : ℕ) → of (f port).what ≡ None) → counted of (map f ports) ≡ []
none_of of f [] none = refl
none_of of f (port ∷ ports) none = rw (none port) (none_of of f ports none)

all_of : (of : What → Option ℕ) (f : ℕ → Sight) (ports : List ℕ) → ((port : ℕ) → of (f port).what ≡ Some port) → counted of (map f ports) ≡ ports
all_of of f [] some = refl
all_of of f (port ∷ ports) some = rw (some port) (ap (λ (others : List ℕ). port ∷ others) (all_of of f ports some))

-- the actions of an event, with their moment or without
unstamped : (by : Action → Option ℕ) (moment : Moment) (actions : List Action) → filter_map (λ (one : Stamped). by one.action) (map (λ (action : Action). record { moment = moment; action = action }) actions) ≡ filter_map by actions
unstamped by moment [] = refl
unstamped by moment (action ∷ actions) = rw (unstamped by moment actions) refl

-- ---- bytes of clients

client_none : (of : What → Option ℕ) (is : Bool) (sight : Sight) → of sight.what ≡ None → counted of (of_client is sight) ≡ []
client_none of true sight none = rw none refl
client_none of false sight none = refl

module _ (of : What → Option ℕ) (sent : (port : ℕ) (piece : List ℕ) → of (what.Sent port piece) ≡ None) (given : (port : ℕ) (bytes : List ℕ) → of (what.Given port bytes) ≡ None) (by : Action → Option ℕ) (came : (wall : ℕ) (outcome : Outcome) → counted of (came_of wall outcome) ≡ filter_map by outcome.actions) where
  bytes_none : (moment : Moment) (state : State) (event : Happening) → counted of (goes_over moment state event) ≡ []
  bytes_none moment state (Joined door) = refl
  bytes_none moment state (Heard port piece) = client_none of (is_of_client (find_port port state.ports)) _ (sent port piece)
  bytes_none moment state (Ended port) = refl
  bytes_none moment state (Took port count) = client_none of (is_of_client (find_port port state.ports)) _ (given port _)
  bytes_none moment state (Started job ticket) = refl
  bytes_none moment state (StartFailed job) = refl
  bytes_none moment state Tick = refl

  -- an event
  event_counts : (state : State) (timed : Timed) → counted of (event_sights state timed) ≡ filter_map by (step state timed.moment timed.event).actions
  event_counts state timed =
      let outcome = step state timed.moment timed.event in
      filter_map-append (λ (sight : Sight). of sight.what) (goes_over timed.moment state timed.event) (came_of timed.moment.wall outcome)
      ∙ ap (λ (ports : List ℕ). ports ++ counted of (came_of timed.moment.wall outcome)) (bytes_none timed.moment state timed.event)
      ∙ came timed.moment.wall outcome

  -- a run
  run_counts : (state : State) (events : List Timed) → counted of (run_sights state events) ≡ filter_map (λ (one : Stamped). by one.action) (history state events)
  run_counts state [] = refl
  run_counts state (timed ∷ later) =
      let outcome = step state timed.moment timed.event in
      filter_map-append (λ (sight : Sight). of sight.what) (event_sights state timed) (run_sights outcome.state later)
      ∙ ap (λ (ports : List ℕ). ports ++ counted of (run_sights outcome.state later)) (event_counts state timed)
      ∙ ap (λ (ports : List ℕ). filter_map by outcome.actions ++ ports) (run_counts outcome.state later)
      ∙ sym (filter_map-append (λ (one : Stamped). by one.action) (stamped outcome) (history outcome.state later)
      ∙ ap (λ (ports : List ℕ). ports ++ filter_map (λ (one : Stamped). by one.action) (history outcome.state later)) (unstamped by outcome.state.moment outcome.actions))

-- ---- what came of an event

-- by the three kinds of it
three : (of : What → Option ℕ) (raised put closed : List Sight) → counted of (raised ++ (put ++ closed)) ≡ counted of raised ++ (counted of put ++ counted of closed)
three of raised put closed =
    filter_map-append (λ (sight : Sight). of sight.what) raised (put ++ closed)
    ∙ ap (λ (ports : List ℕ). counted of raised ++ ports) (filter_map-append (λ (sight : Sight). of sight.what) put closed)

came_puts : (wall : ℕ) (outcome : Outcome) → counted put_seen (came_of wall outcome) ≡ put_in outcome.actions
came_puts wall outcome =
    let faults = outcome.state.under_way.link.faults in
    three put_seen (map (raised_sight wall faults) (raised_in outcome.actions)) (map (put_sight wall faults) (put_in outcome.actions)) (map (closed_sight wall faults) outcome.closes)
    ∙ rw (none_of put_seen (raised_sight wall faults) (raised_in outcome.actions) (λ port. refl), all_of put_seen (put_sight wall faults) (put_in outcome.actions) (λ port. refl), none_of put_seen (closed_sight wall faults) outcome.closes (λ port. refl)) (append-nil (put_in outcome.actions))

came_raises : (wall : ℕ) (outcome : Outcome) → counted raised_seen (came_of wall outcome) ≡ raised_in outcome.actions
came_raises wall outcome =
    let faults = outcome.state.under_way.link.faults in
    three raised_seen (map (raised_sight wall faults) (raised_in outcome.actions)) (map (put_sight wall faults) (put_in outcome.actions)) (map (closed_sight wall faults) outcome.closes)
    ∙ rw (all_of raised_seen (raised_sight wall faults) (raised_in outcome.actions) (λ port. refl), none_of raised_seen (put_sight wall faults) (put_in outcome.actions) (λ port. refl), none_of raised_seen (closed_sight wall faults) outcome.closes (λ port. refl)) (append-nil (raised_in outcome.actions))

pub sees_puts : (state : State) (events : List Timed) → SeesPuts state events
sees_puts state events = run_counts put_seen (λ port piece. refl) (λ port bytes. refl) put_by came_puts state events

pub sees_raises : (state : State) (events : List Timed) → SeesRaises state events
sees_raises state events = run_counts raised_seen (λ port piece. refl) (λ port bytes. refl) raised_by came_raises state events
