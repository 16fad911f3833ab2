-- Who waits goes on waiting where nobody tells it anything.
use Rattle.std.proofs.Common.{◌≡◌, ◌≢◌, ℕ, List, refl, ap, sym, subst, ◌∙◌, Option, Some, None, inl, inr}
use Rattle.std.proofs.lemmas.Bool.{cases_eq}
use Rattle.world_ports.specs.declared.Door.TheVariants.{Clients, Children}
use Rattle.helper_link.specs.declared.state.LinkState.{LinkState}
use Rattle.helper_link.specs.declared.state.LinkState.TheVariants as states
use Rattle.agent_model.specs.Answers.{close_helper}
use Rattle.agent_model.specs.Children.{unheard}
use Rattle.agent_model.specs.Consents.{close_confirmer}
use Rattle.agent_model.specs.Events.{Ended, Happening}
use Rattle.agent_model.specs.Fates.{IsTold}
use Rattle.agent_model.specs.State.{Nothing, Port, State, Waits, change_port, find_port, remove_port}
use Rattle.agent_model.specs.Verdicts.{Awaits, Verdict, tell}
use Rattle.agent_model.proofs.FateLemmas.{told-apart, told-here}
use Rattle.agent_model.proofs.MakeLemmas.{IsMild, MayClose, Quiet, alters, child, closes, ended, goes_on, idle, links, mild-unheard, mild_of, names}
use Rattle.agent_model.proofs.PortsLemmas.{find_port-removed_apart}

-- ---- another port is closed

module _ (number : ℕ) (verdict : Verdict) where
  pub told-removed : (at : ℕ) (ports : List Port) → number ≢ at → IsTold number verdict ports →
      IsTold number verdict (remove_port at ports)
  told-removed at ports other told = record {
    port = told.port;
    found = find_port-removed_apart number at ports other ∙ told.found;
    door = told.door;
    owed = told.owed;
    waits = told.waits;
  }

  -- a child process's isn't its own
  told-child : (at : ℕ) (ports : List Port) →
      ((port : Port) → find_port at ports ≡ Some port → port.door ≡ Children) →
      IsTold number verdict ports → IsTold number verdict (remove_port at ports)
  told-child at ports child_at told = told-removed at ports other told
    where
      other : number ≢ at
      other equal =
          let child_there : told.port.door ≡ Children =
          child_at told.port (ap (λ n. find_port n ports) (sym equal) ∙ told.found) in
          let doors : Clients ≡ Children = sym told.door ∙ child_there in
          absurd (cc)

  pub told-close_helper : (link : LinkState) (ports : List Port) →
      ((at : ℕ) (port : Port) → link ≡ states.Linked at → find_port at ports ≡ Some port →
      port.door ≡ Children) → IsTold number verdict ports →
      IsTold number verdict (close_helper link ports)
  told-close_helper states.None ports children told = told
  told-close_helper (states.Starting job) ports children told = told
  told-close_helper (states.Linked at) ports children told =
      told-child at ports (λ port. children at port refl) told

  pub told-close_confirmer : (at : Option ℕ) (ports : List Port) →
      ((n : ℕ) (port : Port) → at ≡ Some n → find_port n ports ≡ Some port → port.door ≡ Children) →
      IsTold number verdict ports → IsTold number verdict (close_confirmer at ports)
  told-close_confirmer None ports children told = told
  told-close_confirmer (Some at) ports children told =
      told-child at ports (λ port. children at port refl) told

-- ---- who waits

module _ (number : ℕ) (on : Waits) (some : on ≢ Nothing) where
  -- the client of this port waits for this
  abbrev pub IsPending : List Port → Type 0
  IsPending ports = IsTold number (Awaits on) ports

  pub waits-mild : (at : ℕ) (f : Port → Port) (ports : List Port) → IsMild f → IsPending ports →
      IsPending (change_port at f ports)
  waits-mild at f ports mild told = elim (cases_eq number at) [
    | inl same_number ↦ subst (λ n. IsPending (change_port n f ports)) same_number
        (told-here number (Awaits on) (Awaits on) f ports mild.number mild.door mild.owed
        (λ p waits. mild.waits p ∙ waits) told)
    | inr other ↦ told-apart number at (Awaits on) f ports mild.number other told
  ]

  -- its port is found where it is
  same_port : (at : ℕ) (ports : List Port) (port : Port) (told : IsPending ports) → number ≡ at →
      find_port at ports ≡ Some port → told.port ≡ port
  same_port at ports port told equal found =
      let is : Some told.port ≡ Some port =
      sym told.found ∙ ap (λ n. find_port n ports) equal ∙ found in cc

  -- a client that waits for nothing is another one
  pub apart_from : (at : ℕ) (ports : List Port) (port : Port) → IsPending ports →
      find_port at ports ≡ Some port → port.waits ≡ Nothing → number ≢ at
  apart_from at ports port told found nothing equal =
      some (sym told.waits ∙ ap (λ (p : Port). p.waits) (same_port at ports port told equal found)
      ∙ nothing)

  -- its port stays unless it ended
  pub waits-quiet : {event : Happening} {old new : State} → Quiet event old new →
      event ≢ Ended number → IsPending old.ports → IsPending new.ports
  waits-quiet {old = old} (alters at f change) open_yet told =
      waits-mild at f old.ports (mild_of change) told
  waits-quiet {event = event} {old = old} (closes at may) open_yet told =
      told-removed number (Awaits on) at old.ports (other may) told
    where
      other : MayClose event at old.ports old.under_way.confirmations → number ≢ at
      other (idle port found nothing none client) equal =
          apart_from at old.ports port told found nothing equal
      other (child port found door free) equal =
          let doors : Clients ≡ Children =
          sym told.door ∙ ap (λ (p : Port). p.door) (same_port at old.ports port told equal found)
          ∙ door in
          absurd (cc)
      other (ended is) equal = open_yet (is ∙ ap Ended (sym equal))
  waits-quiet (goes_on new goes) open_yet told = told
  waits-quiet {old = old} (names job at new) open_yet told =
      waits-mild at unheard old.ports mild-unheard told
  waits-quiet {old = old} (links job at new) open_yet told =
      waits-mild at unheard old.ports mild-unheard told

  -- while another client is served
  pub waits-served : (take : Port → Port) (verdict : Verdict) (port : Port) (ports : List Port) →
      ((p : Port) → (take p).number ≡ p.number) → find_port port.number ports ≡ Some port →
      port.waits ≡ Nothing → IsPending ports →
      IsPending (change_port port.number (tell verdict) (change_port port.number take ports))
  waits-served take verdict port ports keeps found nothing told =
      let other = apart_from port.number ports port told found nothing in
      told-apart number port.number _ (tell verdict) (change_port port.number take ports) (λ p. refl)
      other (told-apart number port.number _ take ports keeps other told)
