-- A look at the clock that closes no port leaves no agent without clients that had some.
use Rattle.std.proofs.Common.{◌≡◌, ◌∙◌, ℕ, suc, ◌<◌, Bool, true, false, if◌then◌else◌, List, [], ◌∷◌, Option, Some, None, is_some, not, ◌==◌, refl, sym, ap, arith}
use Rattle.std.proofs.lemmas.Bool.Decides.{nat_tests}
use Rattle.lists.specs.Rising.{is_among}
use Rattle.world_ports.specs.declared.events.Moment.{Moment}
use Rattle.agent_model.specs.Events.{Tick}
use Rattle.agent_model.specs.Sound.{IsRising}
use Rattle.agent_model.specs.State.{Port, State, client_count, find_port, is_client, is_open}
use Rattle.agent_model.specs.Step.{step}
use Rattle.agent_model.specs.Time.{at_moment}
use Rattle.agent_model.proofs.PortsLemmas.{found_above}
use Rattle.loop_model.proofs.ClosedLemmas.{open-closes}
use Rattle.loop_model.proofs.LeftLemmas.{door_at}

-- where they are counted, one is found
a_client : (low high : ℕ) (ports : List Port) → IsRising low high ports
    → (client_count ports == 0) ≡ false
    → (at : Port) × (find_port at.number ports ≡ Some at) × (is_client at.door ≡ true)
a_client low high [] rising some = absurd (cc)
a_client low high (first ∷ ports) rising some =
    by (is_client first.door) refl some (a_client first.number high ports rising.1)
  where
    own : find_port first.number (first ∷ ports) ≡ Some first
    own = grind (arith, nat_tests)

    behind : (at : Port) → find_port at.number ports ≡ Some at
        → find_port at.number (first ∷ ports) ≡ Some at
    behind at found =
        let above : first.number < at.number = found_above at.number first.number high ports at rising.1 found in
        grind (arith, nat_tests)

    by : (client : Bool) → is_client first.door ≡ client
        → ((if client then suc (client_count ports) else client_count ports) == 0) ≡ false
        → ((client_count ports == 0) ≡ false
        → (at : Port) × (find_port at.number ports ≡ Some at) × (is_client at.door ≡ true))
        → (at : Port) × (find_port at.number (first ∷ ports) ≡ Some at) × (is_client at.door ≡ true)
    by true is some rest = (first, own, is)
    by false is some rest = let at = rest some in (at.0, behind at.0 at.1, at.2)

-- and one that is found is counted
is_counted : (number : ℕ) (at : Port) (ports : List Port) → find_port number ports ≡ Some at
    → is_client at.door ≡ true
    → (client_count ports == 0) ≡ false
is_counted number at [] found client = absurd (cc)
is_counted number at (first ∷ ports) found client =
    by (is_client first.door) (first.number == number) refl found (λ there. is_counted number at ports there client)
  where
    by : (counts here : Bool) → is_client first.door ≡ counts
        → (if here then Some first else find_port number ports) ≡ Some at
        → (find_port number ports ≡ Some at → (client_count ports == 0) ≡ false)
        → ((if counts then suc (client_count ports) else client_count ports) == 0) ≡ false
    by true here is found rest = grind (arith, nat_tests)
    by false true is found rest =
        let same : first ≡ at = cc in
        let no : false ≡ true = sym is ∙ ap (λ (p : Port). is_client p.door) same ∙ client in
        absurd (cc)
    by false false is found rest = rest found

no_clients_before : (before : Bool) (state : State) (moment : Moment)
    → IsRising 0 state.last_port state.ports
    → (step state moment Tick).closes ≡ [] → (client_count state.ports == 0) ≡ before
    → (client_count (at_moment moment state).ports == 0) ≡ true → before ≡ true
no_clients_before true state moment rising none was left = refl
no_clients_before false state moment rising none was left =
    let one = a_client 0 state.last_port state.ports rising was in
    let opened : is_open one.0.number (at_moment moment state) ≡ true =
    open-closes state moment Tick one.0.number rising (ap is_some one.1)
    ∙ ap (λ (closes : List ℕ). not (is_among one.0.number closes)) none in
    by_found one.0.number (find_port one.0.number (at_moment moment state).ports) refl opened
    (door_at true state moment one.0.number rising (is_hers one.0 one.1 one.2))
  where
    is_hers : (one : Port) → find_port one.number state.ports ≡ Some one → is_client one.door ≡ true
        → (p : Port)
        → find_port one.number state.ports ≡ Some p → is_client p.door ≡ true
    is_hers one found client p there =
        let both : Some one ≡ Some p = sym found ∙ there in
        let same : one ≡ p = cc in
        ap (λ (q : Port). is_client q.door) (sym same) ∙ client

    by_found : (number : ℕ) (found : Option Port)
        → find_port number (at_moment moment state).ports ≡ found
        → is_some found ≡ true
        → ((p : Port) → find_port number (at_moment moment state).ports ≡ Some p → is_client p.door ≡ true)
        → false ≡ true
    by_found number None is opened client = absurd (cc)
    by_found number (Some at) is opened client =
        sym (is_counted number at (at_moment moment state).ports is (client at is)) ∙ left

-- so where none is open after it, none was before
pub no_clients : (state : State) (moment : Moment) → IsRising 0 state.last_port state.ports
    → (step state moment Tick).closes ≡ [] → (client_count (step state moment Tick).state.ports == 0) ≡ true
    → (client_count state.ports == 0) ≡ true
no_clients state moment rising none left =
    no_clients_before (client_count state.ports == 0) state moment rising none refl left
