-- What becomes of a client that waits for the user: nothing until its confirmation ends, and then what comes of that.
use Rattle.std.proofs.Common.{◌≡◌, ◌≢◌, ℕ, suc, ◌+◌, List, [], ◌∷◌, ◌++◌, refl, ap, sym, subst, ◌∙◌, ◌⊎◌, Some, Bool, true, false, inl, inr}
use Rattle.std.proofs.lemmas.Bool.{cases_eq}
use Rattle.world_ports.specs.declared.Door.{Door}
use Rattle.world_ports.specs.declared.Moment.{Moment}
use Rattle.wire_text.specs.Frames.{front_body}
use Rattle.confirm_desk.specs.Confirmations.{Confirmation, find_job}
use Rattle.dest_rule.specs.declared.binding.Binding.{Binding}
use Rattle.helper_link.specs.Telling.{telling}
use Rattle.agent_model.specs.Actions.{Action, Asked, ForSignature, Granted, Outcome, Over, Work, behind}
use Rattle.agent_model.specs.Children.{changed}
use Rattle.agent_model.specs.Consents.{close_confirmer, grant_concluded, over, signing_of, without_confirmation}
use Rattle.agent_model.specs.Dispatch.{Served}
use Rattle.agent_model.specs.Errands.{Signs}
use Rattle.agent_model.specs.Events.{Ended, Happening, Tick, Took}
use Rattle.agent_model.specs.Fates.{IsTold}
use Rattle.agent_model.specs.Grants.{IsAgreed, IsAmong, agreed, disagreed, unagreed, ungranted}
use Rattle.agent_model.specs.Sound.{IsTied}
use Rattle.agent_model.specs.State.{Nothing, OnAsk, OnConfirmation, Port, State, change_port, find_port}
use Rattle.agent_model.specs.Step.{admitted, asker_at, attempts, concluded, handle, has_room, step, take_frame}
use Rattle.agent_model.specs.Time.{at_moment, time_passes}
use Rattle.agent_model.specs.Verdicts.{Awaits, NoLongerAllowed, NotConfirmed, Refuses, Replies, Verdict, tell, verdict_text, verdict_waits}
use Rattle.agent_model.proofs.FateLemmas.{told-apart, told-here}
use Rattle.agent_model.proofs.FatedLemmas.{tied-opened}
use Rattle.agent_model.proofs.FatedMakeLemmas.{fated-makes, found_still, tied-taken}
use Rattle.agent_model.proofs.TiedLemmas.{tied-quiet}
use Rattle.agent_model.proofs.GrantLemmas.{IsGranted, allowed, disallowed, grant-ends, unasked}
use Rattle.agent_model.proofs.JobLemmas.{IsIn, in-found}
use Rattle.agent_model.proofs.MakeLemmas.{Makes, by_event, first, grants, loses, overs, serves, stays, tells}
use Rattle.agent_model.proofs.ServeLemmas.{IsServed, answered, asked, raised, refused, serve-ends}
use Rattle.agent_model.proofs.ActionLemmas.{ArePlain, IsPlain, among-back, among-each, among-front, plain-tells}
use Rattle.agent_model.proofs.WaitLemmas.{told-close_confirmer, waits-quiet, waits-served}
use Rattle.agent_model.proofs.StillLemmas.{heard-refused, still-handle, still-lost, still-makes, still-tells}
use Rattle.agent_model.proofs.TimeLemmas.{time_passes-brings}
use Rattle.agent_model.proofs.SizeLemmas.{size_of}

-- who waits for the user
abbrev Waits : ℕ → ℕ → List Port → Type 0
Waits number job ports = IsTold number (Awaits (OnConfirmation job)) ports

-- doesn't wait for the helper, nor for nothing
not_ask : (job ask : ℕ) → verdict_waits (Awaits (OnConfirmation job)) ≢ OnAsk ask
not_ask job ask is = absurd (cc)

for_it : (job : ℕ) → OnConfirmation job ≢ Nothing
for_it job is = absurd (cc)

-- none of these actions ends the confirmation
abbrev Unended : ℕ → List Action → Type 0
Unended job actions = (IsAmong (Granted job) actions → ⊥) × (IsAmong (Over job) actions → ⊥)

-- who waits for it goes on waiting where it didn't end, and is told where it ended without consent
abbrev Settles : ℕ → ℕ → Outcome → Type 0
Settles number job outcome =
    (Unended job outcome.actions × Waits number job outcome.state.ports)
    ⊎ (IsAmong (Over job) outcome.actions × IsTold number (Refuses NotConfirmed) outcome.state.ports)

-- a tied state stays tied; who waits for the confirmation goes on waiting or is told; who was told so has it yet
abbrev Ends : ℕ → ℕ → State → Outcome → Type 0
Ends number job old outcome =
    IsTied old → IsTied outcome.state × (Waits number job old.ports → Settles number job outcome)
    × (IsTold number (Refuses NotConfirmed) old.ports → IsTold number (Refuses NotConfirmed) outcome.state.ports)

-- ---- which actions are there

none_of : (action : Action) (some more : List Action) → (IsAmong action some → ⊥)
    → (IsAmong action more → ⊥) → IsAmong action (some ++ more) → ⊥
none_of action [] more none nothing among = nothing among
none_of action (one ∷ some) more none nothing (inl is) = none (inl is)
none_of action (one ∷ some) more none nothing (inr there) =
    none_of action some more (λ among. none (inr among)) nothing there

-- ---- confirmations

-- another one's consent is none of its own
only_grant : (job other : ℕ) (actions : List Action) → ArePlain actions → job ≢ other
    → (IsAmong (Granted job) (Granted other ∷ actions) → ⊥) × (IsAmong (Over job) (Granted other ∷ actions) → ⊥)
only_grant job other actions plain differs = (by_grant, by_over)
  where
    by_grant : IsAmong (Granted job) (Granted other ∷ actions) → ⊥
    by_grant (inl is) = let equal : other ≡ job = cc in differs (sym equal)
    by_grant (inr later) = among-each IsPlain (Granted job) actions (λ is. is) plain later

    by_over : IsAmong (Over job) (Granted other ∷ actions) → ⊥
    by_over (inl is) = absurd (cc)
    by_over (inr later) = among-each IsPlain (Over job) actions (λ is. is) plain later

-- none of two actions
by_two : (action : Action) {one two : Action} → (one ≡ action → ⊥) → (two ≡ action → ⊥)
    → IsAmong action (one ∷ two ∷ []) → ⊥
by_two action not_one not_two (inl is) = not_one is
by_two action not_one not_two (inr (inl is)) = not_two is
by_two action not_one not_two (inr (inr none)) = none

module _ (number job : ℕ) (confirmation : Confirmation) (state : State) (there : IsIn confirmation state.under_way.confirmations) (tied : IsTied state) (told : Waits number job state.ports) where
  found_there : find_job confirmation.job state.under_way.confirmations ≡ Some confirmation
  found_there = in-found confirmation 0 state.under_way.last_job tied.raised.order there

  -- its port stays
  left_open : Waits number job (close_confirmer confirmation.port state.ports)
  left_open =
      told-close_confirmer number _ confirmation.port state.ports (λ n port is. tied.raised.confirmers confirmation.job n confirmation port found_there is) told

  -- the confirmation is its own, or another's
  own : (number ≡ confirmation.asker) ⊎ (number ≢ confirmation.asker)
      → ((job ≡ confirmation.job) × (number ≡ confirmation.asker)) ⊎ ((job ≢ confirmation.job) × (number ≢ confirmation.asker))
  own (inl same) =
      let waits : told.port.waits ≡ OnConfirmation confirmation.job = tied.raised.asking.asks confirmation.job confirmation told.port found_there (ap (λ n. find_port n state.ports) (sym same) ∙ told.found) in
      let both : OnConfirmation job ≡ OnConfirmation confirmation.job = sym told.waits ∙ waits in
      let equal : job ≡ confirmation.job = cc in
      inl (equal, same)
  own (inr other) =
      let asks = tied.raised.asking.waits number job told.port told.found told.waits in
      inr (
        λ equal.
            let is : Some asks.confirmation ≡ Some confirmation = sym asks.found ∙ ap (λ n. find_job n state.under_way.confirmations) equal ∙ found_there in
            let same : asks.confirmation ≡ confirmation = cc in
            other (sym asks.asker ∙ ap (λ (c : Confirmation). c.asker) same),
        other,
      )

  -- another's leaves it
  still : (verdict : Verdict) → number ≢ confirmation.asker
      → Waits number job (change_port confirmation.asker (tell verdict) (close_confirmer confirmation.port state.ports))
  still verdict other = told-apart number confirmation.asker (Awaits (OnConfirmation job)) (tell verdict) _ (λ p. refl) other left_open

  -- its own tells it
  now : (verdict : Verdict) → number ≡ confirmation.asker
      → IsTold number verdict (change_port confirmation.asker (tell verdict) (close_confirmer confirmation.port state.ports))
  now verdict same =
      subst (λ n. IsTold number verdict (change_port n (tell verdict) (close_confirmer confirmation.port state.ports))) same
      (told-here number (Awaits (OnConfirmation job)) verdict (tell verdict) _ (λ p. refl) (λ p. refl) (λ p none. ap (λ bytes. bytes ++ verdict_text verdict) none) (λ p waits. refl) left_open)

  settles-over : Settles number job (over confirmation state)
  settles-over = by_own (own (cases_eq number confirmation.asker))
    where
      by_own : ((job ≡ confirmation.job) × (number ≡ confirmation.asker)) ⊎ ((job ≢ confirmation.job) × (number ≢ confirmation.asker))
          → Settles number job (over confirmation state)
      by_own (inl mine) = inr (inl (ap Over (sym mine.0)), now (Refuses NotConfirmed) mine.1)
      by_own (inr other) = inl ((λ among. by_grant among, λ among. by_over among), still (Refuses NotConfirmed) other.1)
        where
          by_grant : IsAmong (Granted job) (over confirmation state).actions → ⊥
          by_grant (inl is) = absurd (cc)
          by_grant (inr none) = none

          by_over : IsAmong (Over job) (over confirmation state).actions → ⊥
          by_over (inl is) = let equal : confirmation.job ≡ job = cc in other.0 (sym equal)
          by_over (inr none) = none

  agreed-over : IsAgreed number job (over confirmation state).actions (over confirmation state).state.ports
  agreed-over = by_end settles-over
    where
      by_end : Settles number job (over confirmation state)
          → IsAgreed number job (over confirmation state).actions (over confirmation state).state.ports
      by_end (inl waits) = unagreed waits.0.0 waits.0.1 waits.1
      by_end (inr ended) = disagreed ended.0 ended.1

  agreed-grant : {chain : List Binding} {work : Work}
      → IsGranted chain confirmation state.moment.wall state.held (without_confirmation confirmation.job state.under_way) work
      → IsAgreed number job (grant_concluded work confirmation state).actions (grant_concluded work confirmation state).state.ports
  agreed-grant granted = by_own granted (own (cases_eq number confirmation.asker))
    where
      by_own : {chain : List Binding} {work : Work}
          → IsGranted chain confirmation state.moment.wall state.held (without_confirmation confirmation.job state.under_way) work
          → ((job ≡ confirmation.job) × (number ≡ confirmation.asker)) ⊎ ((job ≢ confirmation.job) × (number ≢ confirmation.asker))
          → IsAgreed number job (grant_concluded work confirmation state).actions (grant_concluded work confirmation state).state.ports
      by_own (disallowed never) (inl mine) = ungranted NoLongerAllowed (inl (ap Granted (sym mine.0))) (now (Refuses NoLongerAllowed) mine.1)
      by_own (unasked cause key may fault) (inl mine) =
          ungranted cause (inl (ap Granted (sym mine.0))) (now (Refuses cause) mine.1)
      by_own (allowed key may free) (inl mine) =
          agreed _ (inl (ap Granted (sym mine.0))) (inr (inl refl)) (sym mine.1) (now (Awaits (OnAsk (state.under_way.link.last + 1))) mine.1)
      by_own (disallowed never) (inr other) =
          let only = only_grant job confirmation.job [] tt other.0 in
          unagreed only.0 only.1 (still (Refuses NoLongerAllowed) other.1)
      by_own (unasked cause key may fault) (inr other) =
          let only = only_grant job confirmation.job [] tt other.0 in
          unagreed only.0 only.1 (still (Refuses cause) other.1)
      by_own (allowed key may free) (inr other) =
          let only = only_grant job confirmation.job (Asked (record { ask = state.under_way.link.last + 1; port = confirmation.asker; purpose = ForSignature (signing_of key confirmation); size = size_of (Signs key (signing_of key confirmation)) (state.under_way.link.last + 1) }) ∷ []) (tt, tt) other.0 in
          unagreed only.0 only.1 (still (Awaits (OnAsk (state.under_way.link.last + 1))) other.1)

-- ---- events

agreed-plain : (number job : ℕ) (actions : List Action) (ports : List Port) → ArePlain actions
    → Waits number job ports → IsAgreed number job actions ports
agreed-plain number job actions ports plain told =
    unagreed (among-each IsPlain (Granted job) actions (λ is. is) plain) (among-each IsPlain (Over job) actions (λ is. is) plain) told

module _ (number job : ℕ) (body : List ℕ) (take : Port → Port) (keeps : (p : Port) → (take p).number ≡ p.number) (port : Port) (state : State) (found : find_port port.number state.ports ≡ Some port) (nothing : port.waits ≡ Nothing) (told : Waits number job state.ports) where
  beside : (verdict : Verdict)
      → Waits number job (change_port port.number (tell verdict) (change_port port.number take state.ports))
  beside verdict = waits-served number (OnConfirmation job) (for_it job) take verdict port state.ports keeps found nothing told

  agreed-served : {served : Served}
      → IsServed (asker_at state.moment port) state.held state.under_way served
      → IsAgreed number job (concluded port.number body served (changed port.number take state)).actions (concluded port.number body served (changed port.number take state)).state.ports
  agreed-served (answered reply kept same) =
      agreed-plain number job _ _ (tt, tt) (beside (Replies reply))
  agreed-served (refused cause) = agreed-plain number job _ _ (tt, tt) (beside (Refuses cause))
  agreed-served (asked errand free right) = agreed-plain number job _ _ (tt, (tt, tt)) (beside (Awaits (OnAsk (state.under_way.link.last + 1))))
  agreed-served (raised key signing free) = unagreed
      (λ among. by_two _ (λ is. absurd (cc)) (λ is. absurd (cc)) among) (λ among. by_two _ (λ is. absurd (cc)) (λ is. absurd (cc)) among)
      (beside (Awaits (OnConfirmation (state.under_way.last_job + 1))))

agreed-makes : {event : Happening} {old : State} {outcome : Outcome} (number job : ℕ)
    → Makes event old outcome → event ≢ Ended number → IsTied old → Waits number job old.ports
    → IsAgreed number job outcome.actions outcome.state.ports
agreed-makes number job (stays state) open_yet tied told =
    agreed-plain number job [] state.ports tt told
agreed-makes number job (first quiet rest) open_yet tied told = agreed-makes number job rest open_yet (tied-quiet quiet tied) (waits-quiet number (OnConfirmation job) (for_it job) quiet open_yet told)
agreed-makes number job (serves body_len port state found door nothing owed own) open_yet tied told =
    let body : List ℕ = front_body body_len port.heard in
    agreed-served number job body (take_frame body_len (attempts state.held.lock body)) (λ p. refl) port state found nothing told (serve-ends (asker_at state.moment port) state.held state.under_way body)
agreed-makes number job (tells piece state) open_yet tied told =
    agreed-plain number job _ _ (plain-tells (telling piece state.under_way.link) state)
    (still-tells number (Awaits (OnConfirmation job)) (not_ask job) piece state tied told)
agreed-makes number job (loses state) open_yet tied told = agreed-plain number job _ _ (tt, tt) (still-lost number (Awaits (OnConfirmation job)) (not_ask job) state tied told)
agreed-makes number job (overs confirmation state there) open_yet tied told =
    agreed-over number job confirmation state there tied told
agreed-makes number job (grants confirmation port state there opened) open_yet tied told =
    agreed-grant number job confirmation state there tied told (grant-ends port.chain confirmation state)

agreed-admitted : (number job : ℕ) (room : Bool) (door : Door) (state : State)
    → Waits number job state.ports
    → IsAgreed number job [] (admitted room (suc state.last_port) door state.ports)
agreed-admitted number job false door state told = agreed-plain number job [] _ tt told
agreed-admitted number job true door state told =
    agreed-plain number job [] _ tt record { port = told.port; found = found_still number told.port state.ports _ told.found; door = told.door; owed = told.owed; waits = told.waits }

-- ---- a moment

-- what a moment brings to who waits for the user
time-settles : (number job : ℕ) (moment : Moment) (state : State) → IsTied state
    → Waits number job state.ports → Settles number job (time_passes moment state)
time-settles number job moment state tied told =
    (time_passes-brings (Ends number job) moment state
    (λ s at. (at, λ waits. inl ((λ among. among, λ among. among), waits), λ has. has))
    (λ s at. (
      (fated-makes {event = Tick} (loses s) at).tied,
      λ waits. inl ((by_one (λ is. absurd (cc)), by_one (λ is. absurd (cc))), still-lost number (Awaits (OnConfirmation job)) (not_ask job) s at waits),
      λ has. still-makes number (Refuses NotConfirmed) (heard-refused NotConfirmed) {event = Tick} (loses s) (λ is. absurd (cc)) (λ count is. absurd (cc)) at has,
    ))
    (λ one s there at. (
      (fated-makes {event = Tick} (overs one s there) at).tied,
      λ waits. settles-over number job one s there at waits,
      λ has. still-makes number (Refuses NotConfirmed) (heard-refused NotConfirmed) {event = Tick} (overs one s there) (λ is. absurd (cc)) (λ count is. absurd (cc)) at has,
    ))
    (λ s before later first rest at.
    let a = first at in
    let b = rest a.0 in
    (b.0, λ waits. by_either before later (a.1 waits) b.1 b.2, λ has. b.2 (a.2 has)))
    (tied-taken moment state tied)).1 told
  where
    by_one : {action one : Action} → (one ≡ action → ⊥) → IsAmong action (one ∷ []) → ⊥
    by_one other (inl is) = other is
    by_one other (inr none) = none

    by_either : (before later : Outcome) → Settles number job before
        → (Waits number job before.state.ports → Settles number job later)
        → (IsTold number (Refuses NotConfirmed) before.state.ports → IsTold number (Refuses NotConfirmed) later.state.ports)
        → Settles number job (behind before later)
    by_either before later (inl open_yet) goes stay = by_later (goes open_yet.1)
      where
        by_later : Settles number job later → Settles number job (behind before later)
        by_later (inl more) = inl ((none_of (Granted job) before.actions later.actions open_yet.0.0 more.0.0, none_of (Over job) before.actions later.actions open_yet.0.1 more.0.1), more.1)
        by_later (inr ended) =
            inr (among-back (Over job) before.actions later.actions ended.0, ended.1)
    by_either before later (inr ended) goes stay =
        inr (among-front (Over job) before.actions later.actions ended.0, stay ended.1)

-- actions before that don't end it make no difference
agreed-behind : (number job : ℕ) (some more : List Action) (ports : List Port) → Unended job some
    → IsAgreed number job more ports → IsAgreed number job (some ++ more) ports
agreed-behind number job some more ports none (unagreed not_granted not_over told) =
    unagreed (none_of (Granted job) some more none.0 not_granted) (none_of (Over job) some more none.1 not_over) told
agreed-behind number job some more ports none (disagreed over_it told) =
    disagreed (among-back (Over job) some more over_it) told
agreed-behind number job some more ports none (agreed asking granted put its told) =
    agreed asking (among-back (Granted job) some more granted) (among-back (Asked asking) some more put) its told
agreed-behind number job some more ports none (ungranted cause granted told) =
    ungranted cause (among-back (Granted job) some more granted) told

-- each event
pub step-agreed : (number job : ℕ) (state : State) (moment : Moment) (event : Happening)
    → event ≢ Ended number → ((count : ℕ) → event ≢ Took number count) → IsTied state
    → Waits number job state.ports
    → IsAgreed number job (step state moment event).actions (step state moment event).state.ports
step-agreed number job state moment event open_yet untaken tied told = by_time (time-settles number job moment state tied told)
  where
    opened : State
    opened = at_moment moment state

    tied_yet : IsTied (at_moment moment state)
    tied_yet = tied-opened moment state tied

    by_time : Settles number job (time_passes moment state)
        → IsAgreed number job (step state moment event).actions (step state moment event).state.ports
    by_time (inl waits) =
        agreed-behind number job (time_passes moment state).actions (handle event opened).actions (handle event opened).state.ports waits.0
        (by_event (λ outcome. IsAgreed number job outcome.actions outcome.state.ports) event opened
        (λ door. agreed-admitted number job (has_room door opened.ports opened.under_way) door opened waits.1)
        (λ outcome makes. agreed-makes number job makes open_yet tied_yet waits.1))
    by_time (inr ended) =
        disagreed (among-front (Over job) (time_passes moment state).actions (handle event opened).actions ended.0)
        (still-handle number (Refuses NotConfirmed) (heard-refused NotConfirmed) event opened open_yet untaken tied_yet ended.1)
