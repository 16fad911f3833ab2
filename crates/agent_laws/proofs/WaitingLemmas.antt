-- Behind an act Asked, whoever the ask is for waits for it.
use Rattle.std.proofs.Common.{◌≡◌, ℕ, ◌+◌, List, [], ◌++◌, refl, ap, subst, ◌∙◌, ◌⊎◌, Some, inl, inr}
use Rattle.std.specs.Option.{option_map}
use Rattle.world_ports.specs.declared.Door.TheVariants.{Clients}
use Rattle.world_ports.specs.declared.Moment.{Moment}
use Rattle.wire_text.specs.Frames.{front_body}
use Rattle.confirm_desk.specs.Confirmations.{Confirmation, find_job}
use Rattle.helper_link.specs.Telling.{telling}
use Rattle.agent_model.specs.Actions.{Asked, Asking, Outcome, Work}
use Rattle.agent_model.specs.Asking.{IsAsking}
use Rattle.agent_model.specs.Children.{changed}
use Rattle.agent_model.specs.Consents.{close_confirmer, grant_concluded, signing_of, without_confirmation}
use Rattle.agent_model.specs.Dispatch.{Served}
use Rattle.agent_model.specs.Errands.{Signs, asking_of}
use Rattle.agent_model.specs.Events.{Happening}
use Rattle.agent_model.specs.Fates.{IsTold}
use Rattle.agent_model.specs.Grants.{IsAmong}
use Rattle.agent_model.specs.Sound.{IsTied}
use Rattle.agent_model.specs.State.{OnAsk, OnConfirmation, Port, State, change_port, find_port}
use Rattle.agent_model.specs.Step.{asker_at, attempts, concluded, handle, step, take_frame}
use Rattle.agent_model.specs.Time.{at_moment, time_passes}
use Rattle.agent_model.specs.Verdicts.{Awaits, tell}
use Rattle.agent_model.proofs.ActionLemmas.{each-tells}
use Rattle.agent_model.proofs.FatedLemmas.{tied-opened}
use Rattle.agent_model.proofs.GrantLemmas.{IsGranted, allowed, disallowed, grant-ends, unasked}
use Rattle.agent_model.proofs.JobLemmas.{IsIn, in-found}
use Rattle.agent_model.proofs.MakeLemmas.{Makes, by_event, first, grants, loses, overs, serves, stays, tells}
use Rattle.agent_model.proofs.PortsLemmas.{find_port-change_port}
use Rattle.agent_model.proofs.ServeLemmas.{IsServed, answered, asked, raised, refused, serve-ends}
use Rattle.agent_model.proofs.TiedLemmas.{tied-quiet}
use Rattle.agent_model.proofs.TimeLemmas.{time_passes-ends}
use Rattle.agent_model.proofs.WaitLemmas.{told-close_confirmer}
use Rattle.agent_laws.specs.Answered.{WaitsFor}
use Rattle.agent_laws.proofs.PendingLemmas.{among-either}
use Rattle.agent_laws.proofs.SilentLemmas.{IsSilent, none-asked, silent-ends}

-- whoever asked by one of these actions waits for that ask
abbrev Waiting : Outcome → Type 0
Waiting outcome = (asking : Asking) → IsAmong (Asked asking) outcome.actions
    → WaitsFor asking.port asking.ask outcome.state

-- ---- a request

module _ (body : List ℕ) (take : Port → Port) (number : (p : Port) → (take p).number ≡ p.number) (port : Port) (state : State) (found : find_port port.number state.ports ≡ Some port) (door : (take port).door ≡ Clients) (owed : (take port).owed ≡ []) where
  told-served : (ask : ℕ)
      → IsTold port.number (Awaits (OnAsk ask)) (change_port port.number (tell (Awaits (OnAsk ask))) (change_port port.number take state.ports))
  told-served ask = record {
    port = tell (Awaits (OnAsk ask)) (take port);
    found = find_port-change_port port.number (tell (Awaits (OnAsk ask))) (change_port port.number take state.ports) (λ p. refl)
        ∙ ap (option_map (tell (Awaits (OnAsk ask)))) (find_port-change_port port.number take state.ports number ∙ ap (option_map take) found);
    door = door;
    owed = ap (λ bytes. bytes ++ []) owed;
    waits = refl;
  }

  waits-served : {served : Served}
      → IsServed (asker_at state.moment port) state.held state.under_way served
      → Waiting (concluded port.number body served (changed port.number take state))
  waits-served (answered reply kept keeps) asking (inl same) = absurd (cc)
  waits-served (answered reply kept keeps) asking (inr none) = absurd none
  waits-served (refused cause) asking (inl same) = absurd (cc)
  waits-served (refused cause) asking (inr none) = absurd none
  waits-served (asked errand free right) asking (inl same) = absurd (cc)
  waits-served (asked errand free right) asking (inr (inr none)) = absurd none
  waits-served (asked errand free right) asking (inr (inl same)) =
      let is : asking_of errand port.number (state.under_way.link.last + 1) ≡ asking = cc in
      subst (λ (a : Asking). IsTold a.port (Awaits (OnAsk a.ask)) (change_port port.number (tell (Awaits (OnAsk (state.under_way.link.last + 1)))) (change_port port.number take state.ports))) is (told-served (state.under_way.link.last + 1))
  waits-served (raised key signing free) asking (inl same) = absurd (cc)
  waits-served (raised key signing free) asking (inr (inl same)) = absurd (cc)
  waits-served (raised key signing free) asking (inr (inr none)) = absurd none

-- ---- consent

module _ (confirmation : Confirmation) (port : Port) (state : State) (there : IsIn confirmation state.under_way.confirmations) (opened : find_port confirmation.asker state.ports ≡ Some port) (tied : IsTied state) where
  abbrev rest : List Port
  rest = close_confirmer confirmation.port state.ports

  found_there : find_job confirmation.job state.under_way.confirmations ≡ Some confirmation
  found_there = in-found confirmation 0 state.under_way.last_job tied.raised.order there

  waits_for : port.waits ≡ OnConfirmation confirmation.job
  waits_for = tied.raised.asking.asks confirmation.job confirmation port found_there opened

  asks_it : IsAsking confirmation.asker confirmation.job port state.under_way.confirmations
  asks_it = tied.raised.asking.waits confirmation.asker confirmation.job port opened waits_for

  left : IsTold confirmation.asker (Awaits (OnConfirmation confirmation.job)) rest
  left = told-close_confirmer confirmation.asker (Awaits (OnConfirmation confirmation.job)) confirmation.port state.ports
      (λ n p is. tied.raised.confirmers confirmation.job n confirmation p found_there is)
      record { port = port; found = opened; door = asks_it.door; owed = asks_it.owed; waits = waits_for }

  told-granted : (ask : ℕ)
      → IsTold confirmation.asker (Awaits (OnAsk ask)) (change_port confirmation.asker (tell (Awaits (OnAsk ask))) rest)
  told-granted ask = record {
    port = tell (Awaits (OnAsk ask)) left.port;
    found = find_port-change_port confirmation.asker (tell (Awaits (OnAsk ask))) rest (λ p. refl)
        ∙ ap (option_map (tell (Awaits (OnAsk ask)))) left.found;
    door = left.door;
    owed = ap (λ bytes. bytes ++ []) left.owed;
    waits = refl;
  }

  waits-granted : {work : Work}
      → IsGranted port.chain confirmation state.moment.wall state.held (without_confirmation confirmation.job state.under_way) work
      → Waiting (grant_concluded work confirmation state)
  waits-granted (disallowed never) asking (inl same) = absurd (cc)
  waits-granted (disallowed never) asking (inr none) = absurd none
  waits-granted (unasked cause key may fault) asking (inl same) = absurd (cc)
  waits-granted (unasked cause key may fault) asking (inr none) = absurd none
  waits-granted (allowed key may free) asking (inl same) = absurd (cc)
  waits-granted (allowed key may free) asking (inr (inr none)) = absurd none
  waits-granted (allowed key may free) asking (inr (inl same)) =
      let is : asking_of (Signs key (signing_of key confirmation)) confirmation.asker (state.under_way.link.last + 1) ≡ asking = cc in
      subst (λ (a : Asking). IsTold a.port (Awaits (OnAsk a.ask)) (change_port confirmation.asker (tell (Awaits (OnAsk (state.under_way.link.last + 1)))) rest)) is (told-granted (state.under_way.link.last + 1))

-- ---- events

waits-makes : {event : Happening} {old : State} {outcome : Outcome} → Makes event old outcome
    → IsTied old → Waiting outcome
waits-makes (stays state) tied asking none = absurd none
waits-makes (first quiet rest) tied asking among = waits-makes rest (tied-quiet quiet tied) asking among
waits-makes (serves body_len port state found door nothing owed own) tied asking among =
    let body : List ℕ = front_body body_len port.heard in
    waits-served body (take_frame body_len (attempts state.held.lock body)) (λ p. refl) port state found door owed
    (serve-ends (asker_at state.moment port) state.held state.under_way body) asking among
waits-makes (tells piece state) tied asking among =
    absurd (none-asked _ (each-tells IsSilent (λ one. tt) (λ proving. tt) tt (telling piece state.under_way.link) state) asking among)
waits-makes (loses state) tied asking (inl same) = absurd (cc)
waits-makes (loses state) tied asking (inr none) = absurd none
waits-makes (overs confirmation state there) tied asking (inl same) = absurd (cc)
waits-makes (overs confirmation state there) tied asking (inr none) = absurd none
waits-makes (grants confirmation port state there opened) tied asking among =
    waits-granted confirmation port state there opened tied (grant-ends port.chain confirmation state) asking among

-- each event
pub step-waiting : (state : State) (moment : Moment) (event : Happening) (asking : Asking)
    → IsTied state → IsAmong (Asked asking) (step state moment event).actions
    → WaitsFor asking.port asking.ask (step state moment event).state
step-waiting state moment event asking tied among =
    by_either (among-either (Asked asking) (time_passes moment state).actions (handle event opened).actions among)
  where
    opened : State
    opened = at_moment moment state

    by_either : IsAmong (Asked asking) (time_passes moment state).actions ⊎ IsAmong (Asked asking) (handle event (at_moment moment state)).actions
        → WaitsFor asking.port asking.ask (handle event (at_moment moment state)).state
    by_either (inl early) =
        absurd (none-asked _ (silent-ends (time_passes-ends moment state)) asking early)
    by_either (inr there) =
        by_event Waiting event (at_moment moment state) (λ door other none. absurd none) (λ outcome makes. waits-makes makes (tied-opened moment state tied)) asking there
