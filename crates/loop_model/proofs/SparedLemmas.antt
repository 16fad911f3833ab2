-- What events do to the ports other than their own.
use Rattle.std.proofs.Common.{◌≡◌, ◌≢◌, ◌==◌, ℕ, List, refl, ap, sym, subst, inl, inr, Option, Some, None, true, false, ◌∙◌, eq-eqb}
use Rattle.std.specs.Option.{option_map}
use Rattle.std.proofs.lemmas.Bool.{cases_eq}
use Rattle.wire_text.specs.Frames.{Front, Whole, Bad, More}
use Rattle.agent_model.specs.Actions.{Outcome}
use Rattle.agent_model.specs.Children.{changed, unheard}
use Rattle.agent_model.specs.Consents.{close_confirmer}
use Rattle.agent_model.specs.Events.{Happening}
use Rattle.agent_model.specs.Looks.{due}
use Rattle.agent_model.specs.Sound.{IsRising}
use Rattle.agent_model.specs.State.{Port, State, change_port, find_port, remove_port}
use Rattle.agent_model.specs.Step.{look_front, looked}
use Rattle.agent_model.proofs.ClientLemmas.{looked-found}
use Rattle.agent_model.proofs.GrantLemmas.{grant-ends}
use Rattle.agent_model.proofs.MakeLemmas.{Change, IsOf, Makes, Quiet, first, goes_on, grants, hears, links, loses, mild_of, names, overs, serves, stays, takes, tells}
use Rattle.agent_model.proofs.MakeLemmas as made
use Rattle.agent_model.proofs.PortsLemmas.{find_port-apart, find_port-change_port, find_port-left, found_number, rising-change_port, rising-remove_port}
use Rattle.agent_model.proofs.NewsLemmas.{IsNews, Told, gone, news, news-number, told-grant, told-heard, told-lose, told-over, untold}
use Rattle.loop_model.specs.Elsewhere.{is_of}

-- a change leaves a port's number
abbrev pub KeepsNumber : (Port → Port) → Type 0
KeepsNumber f = (p : Port) → (f p).number ≡ p.number

-- the ports that removals, changes of other ports than this, and quiet changes lead to
pub data Spares (IsQuiet : (Port → Port) → Type 0) (port : ℕ) (old : List Port) : List Port → Type 0 where
  same : Spares IsQuiet port old old
  quiet : (number : ℕ) (f : Port → Port) (ports : List Port) → KeepsNumber f → IsQuiet f
      → Spares IsQuiet port old ports → Spares IsQuiet port old (change_port number f ports)
  alters : (number : ℕ) (f : Port → Port) (ports : List Port) → KeepsNumber f → port ≢ number
      → Spares IsQuiet port old ports → Spares IsQuiet port old (change_port number f ports)
  removes : (number : ℕ) (ports : List Port) → Spares IsQuiet port old ports
      → Spares IsQuiet port old (remove_port number ports)

module _ (IsQuiet : (Port → Port) → Type 0) (port : ℕ) (start : List Port) where
  -- these ports come from those at the start, and those of a state do
  abbrev pub Left : List Port → Type 0
  Left ports = Spares IsQuiet port start ports

  abbrev pub Spared : State → Type 0
  Spared state = Left state.ports

  -- the numbers still rise
  pub spares-rising : (low high : ℕ) {new : List Port} → Left new → IsRising low high start
      → IsRising low high new
  spares-rising low high same rising = rising
  spares-rising low high (quiet number f ports keeps is spares) rising =
      rising-change_port number low high f ports keeps (spares-rising low high spares rising)
  spares-rising low high (alters number f ports keeps other spares) rising =
      rising-change_port number low high f ports keeps (spares-rising low high spares rising)
  spares-rising low high (removes number ports spares) rising =
      rising-remove_port number low high ports (spares-rising low high spares rising)

  pub spares-close_confirmer : (number : Option ℕ) (ports : List Port) → Left ports
      → Left (close_confirmer number ports)
  spares-close_confirmer None ports spares = spares
  spares-close_confirmer (Some number) ports spares = removes number ports spares

  -- ---- a client is looked at, at another port

  spared-front : (answer : Front) (at : Port) (state : State) → port ≢ at.number → Spared state
      → Spared (look_front answer at state).state
  spared-front (Whole body_len) at state other spared =
      alters at.number _ _ (λ p. refl) other (alters at.number _ state.ports (λ p. refl) other spared)
  spared-front (Bad announced) at state other spared = removes at.number state.ports spared
  spared-front More at state other spared = spared

  -- once its port was changed
  pub spared-looked : (number : ℕ) (at : Port) (f : Port → Port) (state : State)
      → find_port number state.ports ≡ Some at
      → KeepsNumber f → port ≢ number → Spared state → Spared (looked number (changed number f state)).state
  spared-looked number at f state is keeps other spared =
      let next = changed number f state in
      let found : find_port number next.ports ≡ Some (f at) =
      find_port-change_port number f state.ports keeps ∙ ap (option_map f) is in
      subst (λ (o : Outcome). Spared o.state) (sym (looked-found number (f at) next (due (f at)) found refl))
      (spared-front (due (f at)) (f at) next
      (λ equal. other (equal ∙ found_number number next.ports (f at) found)) (alters number f state.ports keeps other spared))

  -- ---- what tells others, where it is quiet that they are told

  module _ (quiet-news : (f : Port → Port) → IsNews f → IsQuiet f) where
    pub spares-told : {old new : List Port} → Told old new → Left old → Left new
    spares-told untold spares = spares
    spares-told (news number f ports is told) spares =
        quiet number f ports (news-number is) (quiet-news f is) (spares-told told spares)
    spares-told (gone number ports told) spares = removes number ports (spares-told told spares)

    -- what an event makes at other ports than this

    module _ (event : Happening) (elsewhere : (number : ℕ) → IsOf event number → port ≢ number) where
      spared-quiet : {old new : State} → Quiet event old new → Spared old → Spared new
      spared-quiet {old} (made.alters number f change) spared =
          alters number f old.ports (mild_of change).number (elsewhere number (f, change)) spared
      spared-quiet {old} (made.closes number may) spared = removes number old.ports spared
      spared-quiet (goes_on new goes) spared = spared
      spared-quiet {old} (names job number new) spared =
          alters number unheard old.ports (λ p. refl) (elsewhere number (_, hears new.piece new.came)) spared
      spared-quiet {old} (links job number new) spared =
          alters number unheard old.ports (λ p. refl) (elsewhere number (_, hears new.piece new.came)) spared

      pub spared-makes : {old : State} {outcome : Outcome} → Makes event old outcome → Spared old
          → Spared outcome.state
      spared-makes (stays state) spared = spared
      spared-makes (first change rest) spared = spared-makes rest (spared-quiet change spared)
      spared-makes (serves body_len at state found door waits owed own) spared =
          spared-front (Whole body_len) at state (elsewhere at.number own) spared
      spared-makes (tells piece state) spared =
          spares-told (told-heard state.ports piece state untold) spared
      spared-makes (loses state) spared = spares-told (told-lose state.ports state untold) spared
      spared-makes (overs confirmation state there) spared =
          spares-told (told-over state.ports confirmation state untold) spared
      spared-makes (grants confirmation at state there opened) spared =
          spares-told (told-grant state.ports state (grant-ends at.chain confirmation state) untold) spared

-- an event that isn't of a port is of another
pub elsewhere : (event : Happening) (last port : ℕ) → is_of event last port ≡ false → (number : ℕ)
    → IsOf event number
    → port ≢ number
elsewhere event last port other number of_it equal = by_change of_it.1
  where
    none : {e : Happening} → event ≡ e → is_of e last port ≡ (number == port) → ⊥
    none is here =
        let yes : is_of event last port ≡ true =
        ap (λ e. is_of e last port) is ∙ here ∙ eq-eqb number port (sym equal) in
        let no : true ≡ false = sym yes ∙ other in
        absurd (cc)

    by_change : {f : Port → Port} → Change event number f → ⊥
    by_change (hears piece is) = none is refl
    by_change (takes count is) = none is refl

-- ---- what is found then

-- what a change leads to was there before it
found_before : (f : Port → Port) (found : Option Port) (at : Port) → option_map f found ≡ Some at
    → (was : Port) × (found ≡ Some was) × (f was ≡ at)
found_before f None at is = absurd (cc)
found_before f (Some was) at is = let made : f was ≡ at = cc in (was, refl, made)

-- what quiet changes keep of a port holds of it while it is open
pub holds-spared : (IsQuiet : (Port → Port) → Type 0) (Good : Port → Type 0)
    → ((f : Port → Port) → IsQuiet f → (p : Port) → Good p → Good (f p)) → (port low high : ℕ) (old : List Port)
    {new : List Port} → Spares IsQuiet port old new → IsRising low high old
    → ((at : Port) → find_port port old ≡ Some at → Good at) → (at : Port) → find_port port new ≡ Some at → Good at
holds-spared IsQuiet Good keep port low high old same rising good at found = good at found
holds-spared IsQuiet Good keep port low high old (quiet number f ports keeps is spares) rising good at found =
    elim (cases_eq port number) [
      | inl here ↦
          (let before = found_before f (find_port port ports) at
          (sym (find_port-change_port port f ports keeps) ∙ ap (λ n. find_port port (change_port n f ports)) here ∙ found) in
          subst Good before.2
          (keep f is before.0 (holds-spared IsQuiet Good keep port low high old spares rising good before.0 before.1)))
      | inr other ↦
          holds-spared IsQuiet Good keep port low high old spares rising good at
          (sym (find_port-apart port number f ports keeps other) ∙ found)
    ]
holds-spared IsQuiet Good keep port low high old (alters number f ports keeps other spares) rising good at found =
    holds-spared IsQuiet Good keep port low high old spares rising good at
    (sym (find_port-apart port number f ports keeps other) ∙ found)
holds-spared IsQuiet Good keep port low high old (removes number ports spares) rising good at found =
    holds-spared IsQuiet Good keep port low high old spares rising good at
    (find_port-left port number low high ports at (spares-rising IsQuiet port old low high spares rising) found)
