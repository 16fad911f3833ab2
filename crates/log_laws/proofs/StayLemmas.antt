-- A client that has the rest of a reply to take keeps its port, unless the event is of it; and one whose port ends is
-- gone.
use Rattle.std.proofs.Common.{◌≡◌, ◌≢◌, ℕ, suc, List, [], ◌∷◌, refl, ap, sym, subst, ◌∙◌, Bool, true, false, Option, Some, None}
use Rattle.world_ports.specs.declared.Door.{Door}
use Rattle.world_ports.specs.declared.Door.TheVariants.{Clients, Children}
use Rattle.world_ports.specs.declared.Moment.{Moment}
use Rattle.confirm_desk.specs.Confirmations.{Confirmation, find_asker}
use Rattle.agent_model.specs.Actions.{Outcome}
use Rattle.agent_model.specs.Children.{closed, unheard}
use Rattle.agent_model.specs.Consents.{grant_work, over_if}
use Rattle.agent_model.specs.Events.{Happening, Ended}
use Rattle.agent_model.specs.Sound.{IsRising, IsTied}
use Rattle.agent_model.specs.State.{Nothing, Port, State, find_port, new_port, remove_port}
use Rattle.agent_model.specs.Step.{admitted, ended_at, ended_by_role, handle, has_room, step}
use Rattle.agent_model.specs.Time.{at_moment}
use Rattle.agent_model.specs.Verdicts.{NotConfirmed, Refuses, tell}
use Rattle.agent_model.specs.State as model
use Rattle.agent_model.proofs.FatedLemmas.{tied-opened}
use Rattle.agent_model.proofs.FatedMakeLemmas.{found_still}
use Rattle.agent_model.proofs.GrantLemmas.{grant-ends}
use Rattle.agent_model.proofs.LeadLemmas.{changes, leads-close_confirmer, same}
use Rattle.agent_model.proofs.MakeLemmas.{Change, IsOf, Makes, MayClose, Quiet, alters, by_event, child, closes, ended, first, goes_on, grants, idle, links, loses, mild_of, names, overs, serves, stays, tells}
use Rattle.agent_model.proofs.PortsLemmas.{find_port-apart, find_port-remove_port, find_port-removed_apart, found_number}
use Rattle.agent_model.proofs.RunLemmas.{leads-absent}
use Rattle.agent_model.proofs.TiedLemmas.{tied-quiet}
use Rattle.log_laws.proofs.TurnLemmas.{Turns, gets, granted-some, leaves, named-child, not_at, rests, time-turns, turn-lose, turn-over, turn-tells}

-- what waits for nothing stays, where it isn't closed
rests-only : {old : Port} {after : Option Port} → Turns ⊥ old after → old.waits ≡ Nothing → after ≡ Some old
rests-only rests nothing = refl
rests-only (gets new verdict waits owed door heard owes on any) nothing = absurd (waits nothing)
rests-only (leaves is) nothing = absurd is

module _ (number : ℕ) (event : Happening) (foreign : IsOf event number → ⊥) (open_yet : event ≢ Ended number) (port : Port) (door : port.door ≡ Clients) (nothing : port.waits ≡ Nothing) (owed : port.owed ≢ []) where
  kept-open : {confirmations : List Confirmation} (ports : List Port) (at : ℕ) → find_port number ports ≡ Some port
      → MayClose event at ports confirmations → number ≢ at
  kept-open ports at found (idle other there waits unowed client) equal =
      let it : Some port ≡ Some other = sym found ∙ ap (λ n. find_port n ports) equal ∙ there in
      let is : port ≡ other = cc in
      owed (ap (λ (p : Port). p.owed) is ∙ unowed)
  kept-open ports at found (child other there is_child free) equal =
      let it : Some port ≡ Some other = sym found ∙ ap (λ n. find_port n ports) equal ∙ there in
      let is : port ≡ other = cc in
      let no : Clients ≡ Children = sym door ∙ ap (λ (p : Port). p.door) is ∙ is_child in
      absurd (cc)
  kept-open ports at found (ended is) equal = open_yet (is ∙ ap Ended (sym equal))

  stays-quiet : {old new : State} → Quiet event old new → find_port number old.ports ≡ Some port
      → find_port number new.ports ≡ Some port
  stays-quiet {old = old} (alters at f change) found =
      find_port-apart number at f old.ports (mild_of change).number (λ equal. foreign (f, subst (λ n. Change event n f) (sym equal) change))
      ∙ found
  stays-quiet {old = old} (closes at why) found =
      find_port-removed_apart number at old.ports (kept-open old.ports at found why) ∙ found
  stays-quiet (goes_on new goes) found = found
  stays-quiet {old = old} (names job at new) found =
      find_port-apart number at unheard old.ports (λ p. refl) (not_at number ⊥ at old.ports port (found, door) (λ other there. named-child other new there))
      ∙ found
  stays-quiet {old = old} (links job at new) found =
      find_port-apart number at unheard old.ports (λ p. refl) (not_at number ⊥ at old.ports port (found, door) (λ other there. named-child other new there))
      ∙ found

  stays-makes : {old : State} {outcome : Outcome} → Makes event old outcome → IsTied old
      → find_port number old.ports ≡ Some port → find_port number outcome.state.ports ≡ Some port
  stays-makes (stays state) tied found = found
  stays-makes (first quiet rest) tied found = stays-makes rest (tied-quiet quiet tied) (stays-quiet quiet found)
  stays-makes (serves body_len served state there client waits unowed own) tied found =
      let other : number ≢ served.number = λ equal. foreign (subst (IsOf event) (sym equal) own) in
      find_port-apart number served.number _ _ (λ p. refl) other
      ∙ find_port-apart number served.number _ state.ports (λ p. refl) other
      ∙ found
  stays-makes (tells piece state) tied found = rests-only (turn-tells number ⊥ piece state port tied (found, door)) nothing
  stays-makes (loses state) tied found = rests-only (turn-lose number ⊥ state port tied (found, door)) nothing
  stays-makes (overs one state there) tied found =
      rests-only (turn-over number ⊥ one (Refuses NotConfirmed) state port there tied (λ none. absurd (cc)) (found, door)) nothing
  stays-makes (grants one asker state there asks) tied found =
      rests-only (turn-over number ⊥ one (grant_work asker.chain one state).verdict state port there tied (granted-some (grant-ends asker.chain one state)) (found, door)) nothing

  -- an event, behind its moment
  pub step-stays : (state : State) (moment : Moment) → IsTied state → find_port number state.ports ≡ Some port
      → find_port number (step state moment event).state.ports ≡ Some port
  step-stays state moment tied found =
      let opened : State = at_moment moment state in
      let there : find_port number opened.ports ≡ Some port = rests-only ((time-turns number moment state tied).turns port found door) nothing in
      by_event (λ made. find_port number made.state.ports ≡ Some port) event opened
      (λ joined_door. joins opened there joined_door (has_room joined_door opened.ports opened.under_way))
      (λ made makes. stays-makes makes (tied-opened moment state tied) there)
    where
      joins : (opened : State) → find_port number opened.ports ≡ Some port → (joined_door : Door) (room : Bool)
          → find_port number (admitted room (suc opened.last_port) joined_door opened.ports) ≡ Some port
      joins opened there joined_door true = found_still number port opened.ports (new_port (suc opened.last_port) joined_door ∷ []) there
      joins opened there joined_door false = there

-- a client whose port ends isn't open any more
pub ended-gone : (number : ℕ) (port : Port) (state : State) → find_port number state.ports ≡ Some port → port.door ≡ Clients
    → IsRising 0 state.last_port state.ports → find_port number (handle (Ended number) state).state.ports ≡ None
ended-gone number port state found door rising =
    ap (λ (o : Option Port). find_port number (ended_at o state).state.ports) found
    ∙ ap (λ (d : Door). find_port number (ended_by_role (model.role_of d port.number state.under_way) port.number state).state.ports) door
    ∙ by_asker (find_asker port.number state.under_way.confirmations)
  where
    removed : find_port number (remove_port port.number state.ports) ≡ None
    removed =
        ap (λ n. find_port number (remove_port n state.ports)) (found_number number state.ports port found)
        ∙ find_port-remove_port number 0 state.last_port state.ports rising

    by_asker : (asks : Option Confirmation) → find_port number (over_if asks (closed port.number state)).state.ports ≡ None
    by_asker None = removed
    by_asker (Some one) =
        leads-absent number (remove_port port.number state.ports)
        (changes one.asker (tell (Refuses NotConfirmed)) _ (λ p. refl) (λ p. refl)
        (leads-close_confirmer (remove_port port.number state.ports) one.port (remove_port port.number state.ports) same)) removed
