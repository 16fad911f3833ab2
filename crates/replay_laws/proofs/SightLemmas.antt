-- Runs that are alike but for what isn't told, and what an onlooker sees of them.
use Rattle.std.proofs.Common.{◌≡◌, ℕ, List, ◌++◌, sym, ap, ◌∙◌, Some}
use Rattle.world_ports.specs.declared.Door.{Door}
use Rattle.world_ports.specs.declared.Door.TheVariants.{Clients}
use Rattle.wire_text.specs.Wire.{IsBytes}
use Rattle.agent_model.specs.Events.{Happening, Joined, Heard, Ended, Took, Started, StartFailed, Tick}
use Rattle.agent_model.specs.State.{Port, State, find_port, numbers, owed_by}
use Rattle.agent_model.specs.Step.{handle}
use Rattle.agent_secrecy.proofs.PortLemmas.{numbers-hidden}
use Rattle.agent_secrecy.proofs.QuietLemmas.{IsQuiet}
use Rattle.agent_secrecy.proofs.SecrecyLemmas.{owed_at_client}
use Rattle.replay_laws.specs.Redacting.{IsRenaming, as_is, told_at}
use Rattle.replay_laws.specs.Replaying.{LooksAlike}
use Rattle.replay_laws.specs.Telling.{AreToldAlike, BringsAlike, IsOfNoClient, IsShort, told_bytes}
use Rattle.replay_laws.proofs.EventLemmas.{heard-told, joined-told, pair_of, quiet-told, took-told}
use Rattle.replay_laws.proofs.TellLemmas.{told-nothing, told_fronts}

quiet_is : (event : Happening) (state : State) → IsOfNoClient event state → IsQuiet event state
quiet_is (Joined door) state quiet = quiet
quiet_is (Heard port piece) state quiet = quiet
quiet_is (Ended port) state quiet = quiet
quiet_is (Took port count) state quiet = quiet
quiet_is (Started job ticket) state quiet = quiet
quiet_is (StartFailed job) state quiet = quiet
quiet_is Tick state quiet = quiet

module _ (rename : List ℕ → List ℕ) (renaming : IsRenaming rename) where
  pub quiet_alike : (event : Happening) (s t : State) → AreToldAlike rename s t
      → IsOfNoClient event s
      → IsOfNoClient event t → BringsAlike rename (handle event s) (handle event t)
  quiet_alike event s t same one other =
      quiet-told rename renaming (told_bytes rename) event s t same (quiet_is event s one) (quiet_is event t other)

  pub joined_alike : (door : Door) (s t : State) → AreToldAlike rename s t
      → BringsAlike rename (handle (Joined door) s) (handle (Joined door) t)
  joined_alike door s t same =
      joined-told rename renaming (told_bytes rename) door s t (told-nothing rename) same

  pub heard_alike : (number : ℕ) (piece bytes : List ℕ) (port : Port) (s t : State)
      → AreToldAlike rename s t
      → find_port number s.ports ≡ Some port → port.door ≡ Clients
      → told_bytes rename (port.heard ++ piece) ≡ told_bytes rename port.heard ++ bytes
      → IsBytes (port.heard ++ piece) → IsShort rename (port.heard ++ piece)
      → BringsAlike rename (handle (Heard number piece) s) (handle (Heard number bytes) t)
  heard_alike number piece bytes port s t same found client is each short =
      heard-told rename renaming (told_bytes rename) number piece bytes port s t same found client is
      (told_fronts rename renaming (port.heard ++ piece) each short)

  pub took_alike : (number count : ℕ) (port : Port) (s t : State) → AreToldAlike rename s t
      → find_port number s.ports ≡ Some port → port.door ≡ Clients → IsBytes port.heard → IsShort rename port.heard
      → BringsAlike rename (handle (Took number count) s) (handle (Took number count) t)
  took_alike number count port s t same found client each short =
      took-told rename renaming (told_bytes rename) number count port s t same found client
      (told_fronts rename renaming port.heard each short)

  pub looks_alike : (s t : State) → AreToldAlike rename s t → LooksAlike s t
  looks_alike s t same = record {
    ports =
        sym (numbers-hidden (told_at (told_bytes rename)) s.ports) ∙ ap (λ (x : State). numbers x.ports) same
        ∙ numbers-hidden as_is t.ports;
    owed = λ number port found client.
        let q = pair_of rename renaming (told_bytes rename) number port s t same found in
        ap (λ at. owed_by at s.under_way) found ∙ owed_at_client port s.under_way client
        ∙ ap (λ (p : Port). p.owed) q.same
        ∙ sym (ap (λ at. owed_by at t.under_way) q.found ∙ owed_at_client q.port t.under_way (ap (λ (p : Port). p.door) (sym q.same) ∙ client));
    jobs = ap (λ (x : State). x.under_way.to_start) same;
    faults = ap (λ (x : State). x.under_way.link.faults) same;
  }
