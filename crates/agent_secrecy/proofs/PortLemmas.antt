-- Ports, with what clients sent hidden.
use Rattle.std.proofs.Common.{◌≡◌, ℕ, suc, ◌==◌, List, [], ◌∷◌, ◌++◌, refl, sym, ap, ◌∙◌, Bool, true, false, cond, nat_lt, Option, Some, None, is_some}
use Rattle.std.proofs.lemmas.List.{map-append}
use Rattle.std.specs.Option.{option_map}
use Rattle.world_ports.specs.declared.Door.{Door}
use Rattle.world_ports.specs.declared.Door.TheVariants.{Clients, Children}
use Rattle.helper_link.specs.declared.state.LinkState.{LinkState}
use Rattle.helper_link.specs.declared.state.LinkState.TheVariants as states
use Rattle.agent_model.specs.Actions.{closing}
use Rattle.agent_model.specs.Answers.{close_helper, helper_closes, tell_each}
use Rattle.agent_model.specs.Children.{heard_more, unheard}
use Rattle.agent_model.specs.Consents.{close_confirmer, confirmer_closes}
use Rattle.agent_model.specs.State.{Port, UnderWay, change_port, client_count, find_port, is_client, is_unnamed, new_port, number_of, numbers, remove_port, role_of, unnamed_count}
use Rattle.agent_model.specs.Step.{admitted, has_room}
use Rattle.agent_model.specs.Verdicts.{Verdict, tell}
use Rattle.agent_secrecy.specs.Hiding.{hide_heard, hide_port, hide_ports, hide_under_way}
use Rattle.lists.proofs.FirstLemmas.{find-map, remove-map}
use Rattle.lists.specs.Keyed.{has_key}

module _ (heard : ℕ → List ℕ → List ℕ) where
  pub find_port-hidden : (number : ℕ) (ports : List Port)
      → find_port number (hide_ports heard ports) ≡ option_map (hide_port heard) (find_port number ports)
  find_port-hidden number ports = find-map (hide_port heard) (has_key number_of number) (has_key number_of number) (λ port. refl) ports

  -- one port changed
  pub change_port-hidden : (number : ℕ) (f g : Port → Port) (ports : List Port)
      → ((port : Port) → find_port number ports ≡ Some port → g (hide_port heard port) ≡ hide_port heard (f port))
      → change_port number g (hide_ports heard ports) ≡ hide_ports heard (change_port number f ports)
  change_port-hidden number f g [] same = refl
  change_port-hidden number f g (port ∷ ports) same = by_test (port.number == number) same (change_port-hidden number f g ports)
    where
      by_test : (is : Bool)
          → ((p : Port) → cond is (Some port) (find_port number ports) ≡ Some p → g (hide_port heard p) ≡ hide_port heard (f p))
          → (((p : Port) → find_port number ports ≡ Some p → g (hide_port heard p) ≡ hide_port heard (f p)) → change_port number g (hide_ports heard ports) ≡ hide_ports heard (change_port number f ports))
          → cond is (g (hide_port heard port) ∷ hide_ports heard ports) (hide_port heard port ∷ change_port number g (hide_ports heard ports)) ≡ hide_ports heard (cond is (f port ∷ ports) (port ∷ change_port number f ports))
      by_test true here later = ap (λ p. p ∷ hide_ports heard ports) (here port refl)
      by_test false here later = ap (λ rest. hide_port heard port ∷ rest) (later here)

  pub remove_port-hidden : (number : ℕ) (ports : List Port)
      → remove_port number (hide_ports heard ports) ≡ hide_ports heard (remove_port number ports)
  remove_port-hidden number ports = remove-map (hide_port heard) (has_key number_of number) (has_key number_of number) (λ port. refl) ports

  pub numbers-hidden : (ports : List Port) → numbers (hide_ports heard ports) ≡ numbers ports
  numbers-hidden [] = refl
  numbers-hidden (port ∷ ports) = ap (λ others. port.number ∷ others) (numbers-hidden ports)

  pub client_count-hidden : (ports : List Port)
      → client_count (hide_ports heard ports) ≡ client_count ports
  client_count-hidden [] = refl
  client_count-hidden (port ∷ ports) =
      ap (λ n. cond (is_client port.door) (suc n) n) (client_count-hidden ports)

  same_role : (door : Door) (number : ℕ) (under_way : UnderWay)
      → role_of door number (hide_under_way under_way) ≡ role_of door number under_way
  same_role Clients number under_way = refl
  same_role Children number under_way = refl

  pub unnamed_count-hidden : (under_way : UnderWay) (ports : List Port)
      → unnamed_count (hide_under_way under_way) (hide_ports heard ports) ≡ unnamed_count under_way ports
  unnamed_count-hidden under_way [] = refl
  unnamed_count-hidden under_way (port ∷ ports) =
      ap (λ role. cond (is_unnamed role) (suc (unnamed_count (hide_under_way under_way) (hide_ports heard ports))) (unnamed_count (hide_under_way under_way) (hide_ports heard ports))) (same_role port.door port.number under_way)
      ∙ ap (λ n. cond (is_unnamed (role_of port.door port.number under_way)) (suc n) n) (unnamed_count-hidden under_way ports)

  pub has_room-hidden : (door : Door) (ports : List Port) (under_way : UnderWay)
      → has_room door (hide_ports heard ports) (hide_under_way under_way) ≡ has_room door ports under_way
  has_room-hidden Clients ports under_way = ap (λ n. nat_lt n 128) (client_count-hidden ports)
  has_room-hidden Children ports under_way =
      ap (λ n. nat_lt n 32) (unnamed_count-hidden under_way ports)

  -- a new port has sent nothing
  fresh : (door : Door) (number : ℕ) → heard number [] ≡ []
      → hide_port heard (new_port number door) ≡ new_port number door
  fresh Clients number none =
      ap (λ bytes. let p : Port = record (new_port number Clients) { heard = bytes } in p) none
  fresh Children number none = refl

  pub admitted-hidden : (room : Bool) (number : ℕ) (door : Door) (ports : List Port)
      → heard number [] ≡ []
      → admitted room number door (hide_ports heard ports) ≡ hide_ports heard (admitted room number door ports)
  admitted-hidden true number door ports none =
      ap (λ p. hide_ports heard ports ++ p ∷ []) (sym (fresh door number none)) ∙ sym (map-append (hide_port heard) ports (new_port number door ∷ []))
  admitted-hidden false number door ports none = refl

  pub tell-hidden : (number : ℕ) (verdict : Verdict) (ports : List Port)
      → change_port number (tell verdict) (hide_ports heard ports) ≡ hide_ports heard (change_port number (tell verdict) ports)
  tell-hidden number verdict ports =
      change_port-hidden number (tell verdict) (tell verdict) ports (λ port found. refl)

  pub tell_each-hidden : (verdict : Verdict) (askers : List ℕ) (ports : List Port)
      → tell_each verdict askers (hide_ports heard ports) ≡ hide_ports heard (tell_each verdict askers ports)
  tell_each-hidden verdict [] ports = refl
  tell_each-hidden verdict (asker ∷ askers) ports = ap (tell_each verdict askers) (tell-hidden asker verdict ports) ∙ tell_each-hidden verdict askers (change_port asker (tell verdict) ports)

  pub close_helper-hidden : (state : LinkState) (ports : List Port)
      → close_helper state (hide_ports heard ports) ≡ hide_ports heard (close_helper state ports)
  close_helper-hidden states.None ports = refl
  close_helper-hidden (states.Starting job) ports = refl
  close_helper-hidden (states.Linked port) ports = remove_port-hidden port ports

  pub close_confirmer-hidden : (port : Option ℕ) (ports : List Port)
      → close_confirmer port (hide_ports heard ports) ≡ hide_ports heard (close_confirmer port ports)
  close_confirmer-hidden None ports = refl
  close_confirmer-hidden (Some port) ports = remove_port-hidden port ports

  -- which port is closed
  pub closing-hidden : (number : ℕ) (ports : List Port) (later : List ℕ)
      → closing number (hide_ports heard ports) later ≡ closing number ports later
  closing-hidden number ports later =
      ap (λ found. cond (is_some found) (number ∷ later) later) (find_port-hidden number ports) ∙ by_found (find_port number ports)
    where
      by_found : (found : Option Port)
          → cond (is_some (option_map (hide_port heard) found)) (number ∷ later) later ≡ cond (is_some found) (number ∷ later) later
      by_found None = refl
      by_found (Some port) = refl

  pub helper_closes-hidden : (state : LinkState) (ports : List Port)
      → helper_closes state (hide_ports heard ports) ≡ helper_closes state ports
  helper_closes-hidden states.None ports = refl
  helper_closes-hidden (states.Starting job) ports = refl
  helper_closes-hidden (states.Linked port) ports = closing-hidden port ports []

  pub confirmer_closes-hidden : (port : Option ℕ) (ports : List Port)
      → confirmer_closes port (hide_ports heard ports) ≡ confirmer_closes port ports
  confirmer_closes-hidden None ports = refl
  confirmer_closes-hidden (Some port) ports = closing-hidden port ports []

  -- ---- child processes: what they sent isn't hidden

  pub unhidden : (door : Door) (number : ℕ) (bytes : List ℕ) → door ≡ Children
      → hide_heard heard door number bytes ≡ bytes
  unhidden Children number bytes is = refl
  unhidden Clients number bytes is = absurd (cc)

  abbrev with_bytes : Port → List ℕ → Port
  with_bytes port bytes = record port { heard = bytes }

  pub unheard-hidden : (port : Port) → port.door ≡ Children
      → unheard (hide_port heard port) ≡ hide_port heard (unheard port)
  unheard-hidden port is = ap (with_bytes port) (sym (unhidden port.door port.number [] is))

  pub heard_more-hidden : (piece : List ℕ) (port : Port) → port.door ≡ Children
      → heard_more piece (hide_port heard port) ≡ hide_port heard (heard_more piece port)
  heard_more-hidden piece port is =
      ap (λ bytes. with_bytes port (bytes ++ piece)) (unhidden port.door port.number port.heard is)
      ∙ ap (with_bytes port) (sym (unhidden port.door port.number (port.heard ++ piece) is))
