-- The ports that an event closed, and what is open after it.
use Rattle.std.proofs.Common.{◌≡◌, ◌∙◌, ℕ, Bool, true, false, List, [], ◌∷◌, ◌++◌, refl, sym, ap, not, ◌&&◌, ◌||◌, ◌==◌, arith}
use Rattle.lists.specs.Rising.{is_among}
use Rattle.world_ports.specs.declared.events.Moment.{Moment}
use Rattle.agent_model.specs.Closings.{joined_between}
use Rattle.agent_model.specs.Events.{Happening}
use Rattle.agent_model.specs.NumberLists.{without}
use Rattle.agent_model.specs.Sound.{IsRising}
use Rattle.agent_model.specs.State.{State, is_open, numbers}
use Rattle.agent_model.specs.Step.{step}
use Rattle.agent_model.proofs.ClosesLemmas.{closes-closed, is_among-open}
use Rattle.loop_model.proofs.TestLemmas.{and_both, not_true, or_assoc, or_left}
use Rattle.std.proofs.lemmas.Bool.Decides.{nat_tests}

among-append : (number : ℕ) (first later : List ℕ)
    → is_among number (first ++ later) ≡ (is_among number first || is_among number later)
among-append number [] later = refl
among-append number (other ∷ first) later =
    ap (λ (b : Bool). (number == other) || b) (among-append number first later)
    ∙ sym (or_assoc (number == other) (is_among number first) (is_among number later))

among-without : (number : ℕ) (all left : List ℕ)
    → is_among number (without all left) ≡ (is_among number all && not (is_among number left))
among-without number [] left = refl
among-without number (other ∷ all) left =
    let rest : is_among number (without all left) ≡ (is_among number all && not (is_among number left)) =
    among-without number all left in
    grind (arith, nat_tests)

-- a port that was closed was open or joined, and isn't open
closed-is : (state : State) (moment : Moment) (event : Happening) (port : ℕ)
    → IsRising 0 state.last_port state.ports
    → is_among port (step state moment event).closes
    ≡ (is_among port (numbers state.ports ++ joined_between state.last_port (step state moment event).state.last_port)
    && not (is_open port (step state moment event).state))
closed-is state moment event port rising =
    let next = (step state moment event).state in
    let all = numbers state.ports ++ joined_between state.last_port next.last_port in
    ap (is_among port) (closes-closed state moment event rising)
    ∙ among-without port all (numbers next.ports)
    ∙ ap (λ (b : Bool). is_among port all && not b) (is_among-open port next.ports)

pub closed-shut : (state : State) (moment : Moment) (event : Happening) (port : ℕ)
    → IsRising 0 state.last_port state.ports
    → is_among port (step state moment event).closes ≡ true → is_open port (step state moment event).state ≡ false
closed-shut state moment event port rising closed =
    let next = (step state moment event).state in
    not_true (is_open port next)
    (and_both (is_among port (numbers state.ports ++ joined_between state.last_port next.last_port))
    (not (is_open port next)) (sym (closed-is state moment event port rising) ∙ closed)).1

-- a port that was open is open where the event didn't close it
pub open-closes : (state : State) (moment : Moment) (event : Happening) (port : ℕ)
    → IsRising 0 state.last_port state.ports
    → is_open port state ≡ true
    → is_open port (step state moment event).state ≡ not (is_among port (step state moment event).closes)
open-closes state moment event port rising opened =
    let next = (step state moment event).state in
    let joined = joined_between state.last_port next.last_port in
    let was : is_among port (numbers state.ports) ≡ true = is_among-open port state.ports ∙ opened in
    let all : is_among port (numbers state.ports ++ joined) ≡ true =
    among-append port (numbers state.ports) joined ∙ or_left (is_among port (numbers state.ports)) (is_among port joined) was in
    sym (ap not (closed-is state moment event port rising)
    ∙ ap (λ (b : Bool). not (b && not (is_open port next))) all
    ∙ twice (is_open port next))
  where
    twice : (a : Bool) → not (true && not a) ≡ a
    twice true = refl
    twice false = refl
