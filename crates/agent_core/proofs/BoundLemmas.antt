-- Who waits stays tied to the asks while ports change a little, and is owed nothing when the helper is lost.
use Rattle.std.proofs.Common.{◌≡◌, ℕ, List, [], ◌∷◌, refl, ap, sym, subst, ◌∙◌, ◌++◌, Some, arith}
use Rattle.std.proofs.lemmas.Bool.Decides.{nat_tests}
use Rattle.helper_link.specs.HelperLink.{askers, linked_to}
use Rattle.helper_link.specs.Settling.{find_ask, remove_ask}
use Rattle.helper_link.specs.Sound.{RiseTo}
use Rattle.helper_link.specs.Telling.{telling}
use Rattle.helper_link.specs.declared.ask.Ask.{Ask}
use Rattle.helper_link.specs.declared.answer.Settled.{Settled}
use Rattle.helper_link.proofs.AnswerLemmas.{lead_rise, settling_leads}
use Rattle.agent_model.specs.Children.{heard_more, unheard}
use Rattle.agent_model.specs.Consents.{remove_started}
use Rattle.agent_model.specs.Sound.{AreTied, IsRising, IsWaiting}
use Rattle.agent_model.specs.State.{OnAsk, Port, UnderWay, change_port, find_port, remove_port}
use Rattle.agent_model.specs.Verdicts.{HelperLost, Refuses, tell}
use Rattle.agent_model.proofs.PortsLemmas.{find_port-left}
use Rattle.agent_model.proofs.TieLemmas.{IsOf, apart, found_after, here, tied-told}
use Rattle.agent_core.specs.Bound.{AreSilent, IsBound}
use Rattle.agent_core.specs.Settlings.{AreProvable, answered, unanswered}
use Rattle.agent_core.specs.Slots.{OpenPorts}
use Rattle.agent_core.proofs.JudgedLemmas.{judged-answered, judged-changed, provable-answered, tied-answered}

-- ---- the loss of the helper

-- the first ask is found, and taken out
first_ask : (one : Ask) (asks : List Ask) → (find_ask one.number (one ∷ asks) ≡ Some one) × (remove_ask one.number (one ∷ asks) ≡ asks)
first_ask one asks = (grind (arith, nat_tests), grind (arith, nat_tests))

-- each asker is owed nothing
pub silent-asks : (low last : ℕ) (asks : List Ask) (ports : List Port) → RiseTo low asks last → AreTied ports asks → AreSilent (askers asks) ports
silent-asks low last [] ports rise tied = tt
silent-asks low last (one ∷ asks) ports rise tied =
    let first = first_ask one asks in
    let after : AreTied (change_port one.asker (tell (Refuses HelperLost)) ports) asks =
    subst (AreTied (change_port one.asker (tell (Refuses HelperLost)) ports)) first.1
    (tied-told ports (one ∷ asks) tied one.number one.asker one.kind (tell (Refuses HelperLost)) low last rise (record { blob = one.blob; put_at = one.put_at; size = one.size; found = first.0 }) (λ p. refl) (λ p ask is. absurd (cc))) in (
      λ port found. (tied.waits one.asker one.number port found (tied.asks one.number one port first.0 found)).owed,
      silent-asks one.number last asks (change_port one.asker (tell (Refuses HelperLost)) ports) rise.1 after,
    )

-- the next one is, and those behind it
pub silent-at : (one : Ask) (later all : List Ask) (ports : List Port) → all ≡ one ∷ later → AreSilent (askers all) ports
    → ((port : Port) → find_port one.asker ports ≡ Some port → port.owed ≡ [])
    × AreSilent (askers later) (change_port one.asker (tell (Refuses HelperLost)) ports)
silent-at one later all ports all_is silent = subst (λ s. AreSilent (askers s) ports) all_is silent

-- a port goes
pub tied-removed : (number last : ℕ) (ports : List Port) (asks : List Ask) → IsRising 0 last ports → AreTied ports asks → AreTied (remove_port number ports) asks
tied-removed number last ports asks rising tied = record {
  waits = λ n ask port found is. tied.waits n ask port (find_port-left n number 0 last ports port rising found) is;
  asks = λ ask one port there found. tied.asks ask one port there (find_port-left one.asker number 0 last ports port rising found);
}

-- a change that leaves who a port is, its chain, what it waits for and what it is owed
pub record IsSlight (f : Port → Port) : Type 0 where
  pub number : (p : Port) → (f p).number ≡ p.number
  pub door : (p : Port) → (f p).door ≡ p.door
  pub owed : (p : Port) → (f p).owed ≡ p.owed
  pub chain : (p : Port) → (f p).chain ≡ p.chain
  pub waits : (p : Port) → (f p).waits ≡ p.waits

pub tied-changed : (at : ℕ) (f : Port → Port) (ports : List Port) (asks : List Ask) → IsSlight f → AreTied ports asks → AreTied (change_port at f ports) asks
tied-changed at f ports asks slight tied = record {
  waits = λ n ask port found is. waiting n ask port (found_after n at f ports port slight.number found) is;
  asks = λ ask one port there found. asked ask one port there (found_after one.asker at f ports port slight.number found);
}
  where
    waiting : (n ask : ℕ) (port : Port) → IsOf n at f ports port → port.waits ≡ OnAsk ask → IsWaiting n ask port asks
    waiting n ask port (apart other found) is = tied.waits n ask port found is
    waiting n ask port (here old same found changed) is =
        let was = tied.waits n ask old found (sym (slight.waits old) ∙ ap (λ (p : Port). p.waits) (sym changed) ∙ is) in
        record {
          kind = was.kind;
          blob = was.blob;
          put_at = was.put_at;
          size = was.size;
          unanswered = was.unanswered;
          owed = ap (λ (p : Port). p.owed) changed ∙ slight.owed old ∙ was.owed;
          door = ap (λ (p : Port). p.door) changed ∙ slight.door old ∙ was.door;
        }

    asked : (ask : ℕ) (one : Ask) (port : Port) → find_ask ask asks ≡ Some one → IsOf one.asker at f ports port → port.waits ≡ OnAsk ask
    asked ask one port there (apart other found) = tied.asks ask one port there found
    asked ask one port there (here old same found changed) =
        ap (λ (p : Port). p.waits) changed ∙ slight.waits old ∙ tied.asks ask one old there found

-- more is heard of a port, or what was heard of it is taken out
slight-heard : (piece : List ℕ) → IsSlight (heard_more piece)
slight-heard piece = record { number = λ p. refl; door = λ p. refl; owed = λ p. refl; chain = λ p. refl; waits = λ p. refl }

slight-unheard : IsSlight unheard
slight-unheard = record { number = λ p. refl; door = λ p. refl; owed = λ p. refl; chain = λ p. refl; waits = λ p. refl }

pub bound-pushed : (number : ℕ) (piece : List ℕ) (ports mid : OpenPorts) (going : UnderWay) → IsBound ports.ports going → mid ≡ record ports { ports = change_port number (heard_more piece) ports.ports } → IsBound mid.ports going
bound-pushed number piece ports mid going bound mid_is =
    subst (λ ps. IsBound ps going) (sym (ap (λ (v : OpenPorts). v.ports) mid_is))
    (record {
      order = bound.order;
      tied = tied-changed number (heard_more piece) ports.ports going.link.asks (slight-heard piece) bound.tied;
      judged = judged-changed number (heard_more piece) ports.ports going.verifications going.link.asks (λ p. refl) (λ p. refl) bound.judged;
    })

pub bound-named : (number job : ℕ) (ports after : OpenPorts) (going mid : UnderWay) → IsBound ports.ports going → mid ≡ record going { link = linked_to number going.link; started = remove_started job going.started } → after ≡ record ports { ports = change_port number unheard ports.ports } → IsBound after.ports mid
bound-named number job ports after going mid bound mid_is after_is =
    let named : UnderWay = record going { link = linked_to number going.link; started = remove_started job going.started } in
    subst (λ u. IsBound after.ports u) (sym mid_is)
    (subst (λ ps. IsBound ps named) (sym (ap (λ (v : OpenPorts). v.ports) after_is))
    (record {
      order = bound.order;
      tied = tied-changed number unheard ports.ports going.link.asks slight-unheard bound.tied;
      judged = judged-changed number unheard ports.ports going.verifications going.link.asks (λ p. refl) (λ p. refl) bound.judged;
    }))

-- what answers verify is judged as it was
pub provable-answers : (piece : List ℕ) (ports : OpenPorts) (going told : UnderWay) (settled : List Settled) → IsBound ports.ports going → told ≡ record going { link = (telling piece going.link).link } → settled ≡ (telling piece going.link).settled → AreProvable settled told.verifications ports.ports
provable-answers piece ports going told settled bound told_is settled_is =
    let telling_is = telling piece going.link in
    let leads = settling_leads (going.link.heard ++ piece) going.link.asks in
    subst (λ vs. AreProvable settled vs ports.ports) (sym (ap (λ (u : UnderWay). u.verifications) told_is))
    (subst (λ s. AreProvable s going.verifications ports.ports) (sym settled_is)
    (provable-answered 0 going.link.last telling_is.settled ports.ports going.verifications going.link.asks telling_is.link.asks leads bound.order bound.tied bound.judged))

-- answers leave the asks that they leave
pub bound-answered : (piece : List ℕ) (ports mid : OpenPorts) (going told left : UnderWay) (settled : List Settled) → IsBound ports.ports going → told ≡ record going { link = (telling piece going.link).link } → settled ≡ (telling piece going.link).settled → left ≡ record told { verifications = unanswered settled told.verifications } → mid ≡ record ports { ports = answered settled told.verifications ports.ports } → IsBound mid.ports left
bound-answered piece ports mid going told left settled bound told_is settled_is left_is mid_is =
    let telling_is = telling piece going.link in
    let leads = settling_leads (going.link.heard ++ piece) going.link.asks in
    let to : List Settled → UnderWay → UnderWay = λ s u. record u { verifications = unanswered s u.verifications } in
    let heard : UnderWay = record going { link = telling_is.link } in
    let after : IsBound (answered telling_is.settled going.verifications ports.ports) (to telling_is.settled heard) = record {
      order = lead_rise telling_is.settled going.link.asks telling_is.link.asks 0 going.link.last leads bound.order;
      tied = tied-answered 0 going.link.last telling_is.settled ports.ports going.verifications going.link.asks telling_is.link.asks leads bound.order bound.tied;
      judged = judged-answered 0 going.link.last telling_is.settled ports.ports going.verifications going.link.asks telling_is.link.asks leads bound.order bound.tied bound.judged;
    } in
    let ports_are : answered telling_is.settled going.verifications ports.ports ≡ mid.ports =
    ap (λ s. answered s going.verifications ports.ports) (sym settled_is) ∙ ap (λ (u : UnderWay). answered settled u.verifications ports.ports) (sym told_is) ∙ sym (ap (λ (v : OpenPorts). v.ports) mid_is) in
    let left_are : to telling_is.settled heard ≡ left = ap (λ s. to s heard) (sym settled_is) ∙ ap (to settled) (sym told_is) ∙ sym left_is in
    subst (λ u. IsBound mid.ports u) left_are (subst (λ ps. IsBound ps (to telling_is.settled heard)) ports_are after)
