-- A client that waits for nothing and is owed nothing stays so, whatever others do, while it is open.
use Rattle.std.proofs.Common.{◌≡◌, ◌≢◌, ℕ, suc, List, [], refl, ap, sym, ◌∙◌, Option, Some, None, false}
use Rattle.world_ports.specs.declared.events.Door.TheVariants.{Clients}
use Rattle.world_ports.specs.declared.events.Moment.{Moment}
use Rattle.confirm_desk.specs.Confirmations.{Confirmation}
use Rattle.agent_model.specs.Actions.{Outcome}
use Rattle.agent_model.specs.Answers.{lose}
use Rattle.agent_model.specs.Children.{unheard}
use Rattle.agent_model.specs.Consents.{grant_work, over}
use Rattle.agent_model.specs.Events.{Happening, Tick}
use Rattle.agent_model.specs.Fates.{IsTold}
use Rattle.agent_model.specs.Sound.{IsTied}
use Rattle.agent_model.specs.State.{Nothing, OnAsk, Port, State, change_port, find_port}
use Rattle.agent_model.specs.Step.{handle, has_room}
use Rattle.agent_model.specs.Time.{at_moment}
use Rattle.agent_model.specs.Verdicts.{Awaits, NotConfirmed, Refuses}
use Rattle.agent_model.proofs.FatedMakeLemmas.{fated-makes, tied-taken}
use Rattle.agent_model.proofs.GrantLemmas.{grant-ends}
use Rattle.agent_model.proofs.JobLemmas.{IsIn}
use Rattle.agent_model.proofs.MakeLemmas.{IsOf, Makes, Quiet, alters, by_event_as, closes, first, goes_on, grants, hears, links, loses, mild_of, names, overs, serves, stays, tells}
use Rattle.agent_model.proofs.NewsLemmas.{Told, told-grant, told-heard, told-leads, told-lose, told-over, untold}
use Rattle.agent_model.proofs.PortsLemmas.{find_port-apart, find_port-left}
use Rattle.agent_model.proofs.RunLemmas.{leads-absent}
use Rattle.agent_model.proofs.StillLemmas.{still-lost, still-over, still-tells}
use Rattle.agent_model.proofs.TiedLemmas.{tied-quiet}
use Rattle.agent_model.proofs.TimeLemmas.{at_moment-keeps}
use Rattle.loop_model.specs.Elsewhere.{is_of}
use Rattle.loop_model.proofs.ElsewhereLemmas.{find-admitted}
use Rattle.loop_model.proofs.SparedLemmas.{KeepsNumber, elsewhere}

-- a client that waits for nothing and is owed nothing
pub record AtRest (at : Port) : Type 0 where
  pub door : at.door ≡ Clients
  pub waits : at.waits ≡ Nothing
  pub owed : at.owed ≡ []

module _ (port : ℕ) where
  -- the port of this number is one, if it is open
  abbrev pub Rests : List Port → Type 0
  Rests ports = (at : Port) → find_port port ports ≡ Some at → AtRest at

  -- ---- what tells others

  -- it is as one that was told nothing
  abbrev IsUntold : List Port → Type 0
  IsUntold ports = IsTold port (Awaits Nothing) ports

  no_ask : (ask : ℕ) → Nothing ≢ OnAsk ask
  no_ask ask is = absurd (cc)

  rests-untold : (ports : List Port) → IsUntold ports → Rests ports
  rests-untold ports told at found =
      let both : Some told.port ≡ Some at = sym told.found ∙ found in
      let same : told.port ≡ at = cc in
      record {
        door = ap (λ (p : Port). p.door) (sym same) ∙ told.door;
        waits = ap (λ (p : Port). p.waits) (sym same) ∙ told.waits;
        owed = ap (λ (p : Port). p.owed) (sym same) ∙ told.owed;
      }

  rests-told : (old new : List Port) → Told old new → (IsUntold old → IsUntold new) → Rests old
      → Rests new
  rests-told old new told keeps rests = by_found (find_port port old) refl
    where
      by_found : (found : Option Port) → find_port port old ≡ found → Rests new
      by_found None none = λ at found.
          let no : None ≡ Some at = sym (leads-absent port old (told-leads told) none) ∙ found in
          absurd (cc)
      by_found (Some was) there =
          let rest = rests was there in
          rests-untold new (keeps record { port = was; found = there; door = rest.door; owed = rest.owed; waits = rest.waits })

  -- the helper is lost, or a confirmation ends
  rests-lost : (state : State) → IsTied state → Rests state.ports → Rests (lose state).state.ports
  rests-lost state tied =
      rests-told state.ports _ (told-lose state.ports state untold) (still-lost port (Awaits Nothing) no_ask state tied)

  rests-over : (one : Confirmation) (state : State) → IsIn one state.under_way.confirmations → IsTied state
      → Rests state.ports → Rests (over one state).state.ports
  rests-over one state there tied =
      rests-told state.ports _ (told-over state.ports one state untold)
      (still-over port (Awaits Nothing) refl one state (Refuses NotConfirmed) there tied)

  -- ---- an event of another port

  rests-apart : (number : ℕ) (f : Port → Port) (ports : List Port) → KeepsNumber f → port ≢ number
      → Rests ports → Rests (change_port number f ports)
  rests-apart number f ports keeps other rests at found =
      rests at (sym (find_port-apart port number f ports keeps other) ∙ found)

  module _ (event : Happening) (elsewhere : (number : ℕ) → IsOf event number → port ≢ number) where
    rests-quiet : {old new : State} → Quiet event old new → IsTied old → Rests old.ports
        → Rests new.ports
    rests-quiet {old} (alters number f change) tied rests =
        rests-apart number f old.ports (mild_of change).number (elsewhere number (f, change)) rests
    rests-quiet {old} (closes number may) tied rests = λ at found.
        rests at (find_port-left port number 0 old.last_port old.ports at tied.rising found)
    rests-quiet (goes_on new goes) tied rests = rests
    rests-quiet {old} (names job number new) tied rests =
        rests-apart number unheard old.ports (λ p. refl) (elsewhere number (_, hears new.piece new.came)) rests
    rests-quiet {old} (links job number new) tied rests =
        rests-apart number unheard old.ports (λ p. refl) (elsewhere number (_, hears new.piece new.came)) rests

    rests-makes : {old : State} {outcome : Outcome} → Makes event old outcome → IsTied old
        → Rests old.ports → Rests outcome.state.ports
    rests-makes (stays state) tied rests = rests
    rests-makes (first change rest) tied rests =
        rests-makes rest (tied-quiet change tied) (rests-quiet change tied rests)
    rests-makes (serves body_len at state found door waits owed own) tied rests =
        let other = elsewhere at.number own in
        rests-apart at.number _ _ (λ p. refl) other
        (rests-apart at.number _ state.ports (λ p. refl) other rests)
    rests-makes (tells piece state) tied rests =
        rests-told state.ports _ (told-heard state.ports piece state untold)
        (still-tells port (Awaits Nothing) no_ask piece state tied) rests
    rests-makes (loses state) tied rests = rests-lost state tied rests
    rests-makes (overs one state there) tied rests = rests-over one state there tied rests
    rests-makes (grants one at state there opened) tied rests =
        rests-told state.ports _ (told-grant state.ports state (grant-ends at.chain one state) untold)
        (still-over port (Awaits Nothing) refl one state (grant_work at.chain one state).verdict there tied) rests

  pub rests-other : (event : Happening) (state : State) → IsTied state
      → is_of event state.last_port port ≡ false → Rests state.ports → Rests (handle event state).state.ports
  rests-other event state tied other rests =
      by_event_as (λ outcome. Rests outcome.state.ports) event state
      (λ door is at found.
      rests at
      (sym (find-admitted (has_room door state.ports state.under_way) port (suc state.last_port) door state.ports (sym (ap (λ e. is_of e state.last_port port) is) ∙ other))
      ∙ found))
      (λ outcome makes. rests-makes event (elsewhere event state.last_port port other) makes tied rests)

  -- ---- a moment

  pub rests-moment : (moment : Moment) (state : State) → IsTied state → Rests state.ports
      → Rests (at_moment moment state).ports
  rests-moment moment state tied rests =
      (at_moment-keeps (λ s. IsTied s × Rests s.ports) moment state
      (λ s both. ((fated-makes {event = Tick} (loses s) both.0).tied, rests-lost s both.0 both.1))
      (λ one s there both. ((fated-makes {event = Tick} (overs one s there) both.0).tied, rests-over one s there both.0 both.1))
      (tied-taken moment state tied, rests)).1
