-- Which requests for signatures of one client an event reads: none, unless it is of that client.
use Rattle.std.proofs.Common.{◌≡◌, ◌≢◌, ◌==◌, ℕ, List, [], ◌∷◌, ◌++◌, map, refl, ap, arith, sym, subst, ◌∙◌, Some, None, false}
use Rattle.std.proofs.lemmas.Bool.Decides.{nat_tests}
use Rattle.std.proofs.lemmas.List.Elements.{filter_map-append}
use Rattle.std.specs.List.{filter_map}
use Rattle.world_ports.specs.declared.Door.TheVariants.{Clients, Children}
use Rattle.world_ports.specs.declared.Moment.{Moment}
use Rattle.dest_rule.specs.declared.binding.Binding.{Binding}
use Rattle.confirm_desk.specs.Confirmations.{Confirmation}
use Rattle.helper_link.specs.Telling.{telling}
use Rattle.agent_model.specs.Actions.{Action, Answered, Asked, Granted, Lost, Outcome, Over, Proved, Raised, Requested, Work}
use Rattle.agent_model.specs.Dispatch.{Asker, Served}
use Rattle.agent_model.specs.Events.{Happening}
use Rattle.agent_model.specs.KeyStates.{KeyState}
use Rattle.agent_model.specs.Runs.{Stamped}
use Rattle.agent_model.specs.Sound.{IsTied}
use Rattle.agent_model.specs.State.{Port, State, UnderWay, find_port}
use Rattle.agent_model.specs.Step.{asker_at, handle, step}
use Rattle.agent_model.specs.Time.{time_passes}
use Rattle.agent_model.proofs.ActionLemmas.{Each, each-tells}
use Rattle.agent_model.proofs.GrantLemmas.{IsGranted, allowed, disallowed, grant-ends, unasked}
use Rattle.agent_model.proofs.LeadLemmas.{follows-quiet, same}
use Rattle.agent_model.proofs.MakeLemmas.{IsOf, Makes, Quiet, first, grants, loses, overs, serves, stays, tells}
use Rattle.agent_model.proofs.RunLemmas.{leads-found}
use Rattle.agent_model.proofs.ServeLemmas.{IsServed, answered, asked, raised, refused, serve-ends}
use Rattle.agent_model.proofs.TiedLemmas.{tied-quiet}
use Rattle.agent_model.proofs.TimeLemmas.{AreEnds, end, loss, no_more, one_more, time_passes-ends}
use Rattle.log_laws.specs.Reads.{Reading, read_in}

module _ (number : ℕ) where
  -- the action is no request of this client
  abbrev pub IsOther : Action → Type 0
  IsOther (Requested requesting) = requesting.port ≢ number
  IsOther (Asked asking) = Unit {0}
  IsOther (Answered settled) = Unit {0}
  IsOther (Proved proving) = Unit {0}
  IsOther (Raised raising) = Unit {0}
  IsOther (Granted job) = Unit {0}
  IsOther (Over job) = Unit {0}
  IsOther Lost = Unit {0}

  other-none : (wall : ℕ) (action : Action) → IsOther action → read_in wall number action ≡ None
  other-none wall (Requested requesting) other =
      let fails : (requesting.port == number) ≡ false = grind (arith, nat_tests) in
      rw fails refl
  other-none wall (Asked asking) other = refl
  other-none wall (Answered settled) other = refl
  other-none wall (Proved proving) other = refl
  other-none wall (Raised raising) other = refl
  other-none wall (Granted job) other = refl
  other-none wall (Over job) other = refl
  other-none wall Lost other = refl

  -- so nothing is read of it
  pub others-none : (wall : ℕ) (actions : List Action) → Each IsOther actions
      → filter_map (read_in wall number) actions ≡ []
  others-none wall [] others = refl
  others-none wall (action ∷ actions) others =
      rw (other-none wall action others.0) (others-none wall actions others.1)

  -- what is read in an event, by its actions alone
  pub reads-stamped : (moment : Moment) (actions : List Action)
      → filter_map (λ (one : Stamped). read_in one.moment.wall number one.action) (map (λ (action : Action). record { moment = moment; action = action }) actions)
      ≡ filter_map (read_in moment.wall number) actions
  reads-stamped moment [] = refl
  reads-stamped moment (action ∷ actions) = rw (reads-stamped moment actions) refl

  -- ---- what an event does that is of another, or of a child process

  -- where the event is of this port, a child process is there
  abbrev pub IsForeign : Happening → List Port → Type 0
  IsForeign event ports = IsOf event number → (port : Port) → find_port number ports ≡ Some port → port.door ≡ Children

  foreign-quiet : {event : Happening} {old mid : State} → Quiet event old mid → IsTied old → IsForeign event old.ports
      → IsForeign event mid.ports
  foreign-quiet {event = event} {old = old} quiet tied foreign of port found =
      let leads = (follows-quiet event old quiet record { last = refl; ports = same }).ports in
      let was = leads-found number 0 old.last_port old.ports port leads tied.rising found in
      was.2 ∙ foreign of was.0 was.1

  pub served-others : {asker : Asker} {held : KeyState} {under_way : UnderWay} {served : Served}
      → IsServed asker held under_way served → Each IsOther served.work.actions
  served-others (answered reply kept greatest) = tt
  served-others (refused cause) = tt
  served-others (asked errand free may) = (tt, tt)
  served-others (raised key signing free) = (tt, tt)

  granted-others : {chain : List Binding} {one : Confirmation} {wall : ℕ} {held : KeyState} {under_way : UnderWay} {work : Work}
      → IsGranted chain one wall held under_way work → Each IsOther work.actions
  granted-others (disallowed never) = tt
  granted-others (unasked cause key may fault) = tt
  granted-others (allowed key may free) = (tt, tt)

  pub others-makes : {event : Happening} {old : State} {outcome : Outcome} → Makes event old outcome → IsTied old
      → IsForeign event old.ports → Each IsOther outcome.actions
  others-makes (stays state) tied foreign = tt
  others-makes (first quiet rest) tied foreign =
      others-makes rest (tied-quiet quiet tied) (foreign-quiet quiet tied foreign)
  others-makes {event = event} (serves body_len port state found door nothing owed own) tied foreign = (
    λ same.
        let child : port.door ≡ Children = foreign (subst (IsOf event) same own) port (ap (λ n. find_port n state.ports) (sym same) ∙ found) in
        let no : Clients ≡ Children = sym door ∙ child in
        absurd (cc),
    served-others (serve-ends (asker_at state.moment port) state.held state.under_way _),
  )
  others-makes (tells piece state) tied foreign =
      each-tells IsOther (λ one. tt) (λ proving. tt) tt (telling piece state.under_way.link) state
  others-makes (loses state) tied foreign = (tt, tt)
  others-makes (overs one state there) tied foreign = (tt, tt)
  others-makes (grants one port state there found) tied foreign = (tt, granted-others (grant-ends port.chain one state))

  -- a request that was taken: its own action is read, and what it does besides isn't
  pub served-none : (wall : ℕ) {asker : Asker} {held : KeyState} {under_way : UnderWay} {served : Served}
      → IsServed asker held under_way served → filter_map (read_in wall number) served.work.actions ≡ []
  served-none wall is = others-none wall _ (served-others is)

  -- ---- a moment

  pub ends-others : {actions : List Action} → AreEnds actions → Each IsOther actions
  ends-others no_more = tt
  ends-others (one_more action later loss ends) = (tt, ends-others ends)
  ends-others (one_more action later (end job) ends) = (tt, ends-others ends)

  -- what an event reads, behind its moment
  pub reads-step : (state : State) (moment : Moment) (event : Happening) (wall : ℕ)
      → filter_map (read_in wall number) (step state moment event).actions
      ≡ filter_map (read_in wall number) (handle event (time_passes moment state).state).actions
  reads-step state moment event wall =
      filter_map-append (read_in wall number) (time_passes moment state).actions (handle event (time_passes moment state).state).actions
      ∙ ap (λ (l : List Reading). l ++ filter_map (read_in wall number) (handle event (time_passes moment state).state).actions)
      (others-none wall (time_passes moment state).actions (ends-others (time_passes-ends moment state)))
