-- Steps of a state that is locked with a passphrase of another name: all but a client's request.
use Rattle.std.proofs.Common.{◌≡◌, ℕ, List, [], ◌∷◌, ◌++◌, refl, ap, sym, subst, ◌∙◌, Bool, true, false, Option, Some, None}
use Rattle.std.specs.Option.{option_map}
use Rattle.world_ports.specs.declared.Moment.{Moment}
use Rattle.helper_link.specs.Telling.{telling}
use Rattle.helper_link.specs.declared.fault.LinkFault.{LinkFault}
use Rattle.dest_rule.specs.declared.binding.Binding.{Binding}
use Rattle.confirm_desk.specs.Confirmations.{Confirmation, Consent, No, NotYet, Yes, consent}
use Rattle.agent_model.specs.Actions.{Outcome, Work, acted, and_then, behind, closing, stay}
use Rattle.agent_model.specs.Answers.{answers_in, helper_heard, lose, lose_if, lose_where, with_answers}
use Rattle.agent_model.specs.Children.{changed, closed, confirmer_named, heard_more, helper_named, job_left}
use Rattle.agent_model.specs.Consents.{confirmer_heard, consent_by, grant_by, grant_concluded, grant_to, grant_work, over, over_if, without_confirmation}
use Rattle.agent_model.specs.KeyStates.{KeyState, after_use}
use Rattle.agent_model.specs.State.{Port, State, UnderWay, find_port}
use Rattle.agent_model.specs.Step.{confirmer_took, helper_took}
use Rattle.agent_model.specs.Time.{all_over, at_moment, end_late, first_late, is_helper_late, lose_late, taken_in, time_passes}
use Rattle.agent_model.proofs.BothLemmas.{AreAlikeInBoth, IsSameWay}
use Rattle.replay_laws.specs.Redacting.{relocked, relocked_outcome, relocked_state}
use Rattle.identity_table.specs.Identities.{HeldKey, find_number}

module _ (rename : List ℕ → List ℕ) where
  abbrev state_of : State → State
  state_of state = relocked_state rename state

  abbrev outcome_of : Outcome → Outcome
  outcome_of outcome = relocked_outcome rename outcome

  pub and_then-relocked : (one other : Outcome) (next : State → Outcome) → other ≡ outcome_of one
      → next (state_of one.state) ≡ outcome_of (next one.state) → and_then other next ≡ outcome_of (and_then one next)
  and_then-relocked one other next same later =
      ap (λ first. and_then first next) same ∙ ap (behind (outcome_of one)) later

  -- ---- what ends

  pub lose_where-relocked : (is : Bool) (state : State)
      → lose_where is (state_of state) ≡ outcome_of (lose_where is state)
  lose_where-relocked false state = refl
  lose_where-relocked true state = refl

  pub lose_if-relocked : (fault : Option LinkFault) (state : State)
      → lose_if fault (state_of state) ≡ outcome_of (lose_if fault state)
  lose_if-relocked None state = refl
  lose_if-relocked (Some fault) state = refl

  pub over_if-relocked : (found : Option Confirmation) (state : State)
      → over_if found (state_of state) ≡ outcome_of (over_if found state)
  over_if-relocked None state = refl
  over_if-relocked (Some confirmation) state = refl

  all_over-relocked : (all : List Confirmation) (state : State)
      → all_over all (state_of state) ≡ outcome_of (all_over all state)
  all_over-relocked [] state = refl
  all_over-relocked (one ∷ others) state =
      let late : Option Confirmation = first_late state.under_way in
      and_then-relocked (over_if late state) _ (all_over others) (over_if-relocked late state)
      (all_over-relocked others (over_if late state).state)

  pub time_passes-relocked : (moment : Moment) (state : State)
      → time_passes moment (state_of state) ≡ outcome_of (time_passes moment state)
  time_passes-relocked moment state =
      let late : Bool = is_helper_late (taken_in moment state).under_way in
      and_then-relocked (lose_late (taken_in moment state)) _ end_late
      (lose_where-relocked late (taken_in moment state))
      (all_over-relocked (lose_late (taken_in moment state)).state.under_way.confirmations (lose_late (taken_in moment state)).state)

  pub at_moment-relocked : (moment : Moment) (state : State)
      → at_moment moment (state_of state) ≡ state_of (at_moment moment state)
  at_moment-relocked moment state =
      ap (λ (outcome : Outcome). outcome.state) (time_passes-relocked moment state)

  -- ---- what the helper and the user say

  pub helper_heard-relocked : (piece : List ℕ) (state : State)
      → helper_heard piece (state_of state) ≡ outcome_of (helper_heard piece state)
  helper_heard-relocked piece state =
      let told = telling piece state.under_way.link in
      and_then-relocked
      (acted (answers_in told.settled state).actions (with_answers told.link (answers_in told.settled state) state)) _
      (lose_if told.fault) refl
      (lose_if-relocked told.fault (with_answers told.link (answers_in told.settled state) state))

  pub after_use-relocked : (used : Option ℕ) (held : KeyState)
      → after_use used (relocked rename held) ≡ relocked rename (after_use used held)
  after_use-relocked None held = refl
  after_use-relocked (Some addition) held = refl

  grant_by-relocked : (lock : Option (List ℕ)) (found : Option HeldKey) (chain : List Binding) (confirmation : Confirmation) (wall : ℕ) (under_way : UnderWay)
      → grant_by (option_map rename lock) found chain confirmation wall under_way
      ≡ grant_by lock found chain confirmation wall under_way
  grant_by-relocked None found chain confirmation wall under_way = refl
  grant_by-relocked (Some passphrase) found chain confirmation wall under_way = refl

  concluded-relocked : (work : Work) (confirmation : Confirmation) (state : State)
      → grant_concluded work confirmation (state_of state) ≡ outcome_of (grant_concluded work confirmation state)
  concluded-relocked work confirmation state =
      ap
      (λ held. let old : Outcome = grant_concluded work confirmation state in let new : Outcome = record { state = record { held = held; under_way = old.state.under_way; ports = old.state.ports; last_port = old.state.last_port; moment = old.state.moment }; actions = old.actions; put = old.put; closes = old.closes } in new)
      (after_use-relocked work.used state.held)

  grant_to-relocked : (found : Option Port) (confirmation : Confirmation) (state : State)
      → grant_to found confirmation (state_of state) ≡ outcome_of (grant_to found confirmation state)
  grant_to-relocked None confirmation state = refl
  grant_to-relocked (Some port) confirmation state =
      ap (λ work. grant_concluded work confirmation (state_of state))
      (grant_by-relocked state.held.lock (find_number confirmation.addition state.held.table.identities) port.chain confirmation state.moment.wall (without_confirmation confirmation.job state.under_way))
      ∙ concluded-relocked (grant_work port.chain confirmation state) confirmation state

  consent_by-relocked : (said : Consent) (confirmation : Confirmation) (piece : List ℕ) (state : State)
      → consent_by said confirmation piece (state_of state) ≡ outcome_of (consent_by said confirmation piece state)
  consent_by-relocked NotYet confirmation piece state = refl
  consent_by-relocked Yes confirmation piece state =
      grant_to-relocked (find_port confirmation.asker state.ports) confirmation state
  consent_by-relocked No confirmation piece state = refl

  pub confirmer_heard-relocked : (confirmation : Confirmation) (piece : List ℕ) (state : State)
      → confirmer_heard confirmation piece (state_of state) ≡ outcome_of (confirmer_heard confirmation piece state)
  confirmer_heard-relocked confirmation piece state =
      consent_by-relocked (consent confirmation.job (confirmation.heard ++ piece)) confirmation piece state

  -- ---- events of no client

  abbrev IsRelocked : State → State → Type 0
  IsRelocked one other = other ≡ state_of one

  abbrev AreRelocked : Outcome → Outcome → Type 0
  AreRelocked one other = other ≡ outcome_of one

  abbrev with_closes : Outcome → List ℕ → Outcome
  with_closes left closes =
      record { state = left.state; actions = left.actions; put = left.put; closes = closes }

  pub relocks : AreAlikeInBoth IsRelocked AreRelocked
  relocks = record {
    way = λ one other is. subst (IsSameWay one) (sym is) record { role = λ door number. refl; link = refl; confirmations = refl; started = refl; to_start = refl };
    hears = λ number piece one other child is. ap (changed number (heard_more piece)) is;
    closes = λ number one other is. ap (closed number) is;
    names = λ job number one other child is. ap (helper_named job number) is;
    links = λ job number one other child is. ap (confirmer_named job number) is;
    leaves = λ job one other is. ap (job_left job) is;
    sends = λ count one other is. ap (helper_took count) is;
    prompts = λ job count one other is. ap (confirmer_took job count) is;
    stays = λ one other is. ap stay is;
    shuts = λ number next one other is same.
        ap (λ (left : Outcome). with_closes left (closing number other.ports left.closes)) same
        ∙ ap (λ (s : State). with_closes (outcome_of (next (closed number one))) (closing number s.ports (next (closed number one)).closes)) is;
    tells = λ piece one other is. ap (helper_heard piece) is ∙ helper_heard-relocked piece one;
    loses = λ one other is. ap lose is;
    overs = λ confirmation one other there is. ap (over confirmation) is;
    consents = λ confirmation piece one other there is.
        ap (confirmer_heard confirmation piece) is ∙ confirmer_heard-relocked confirmation piece one;
  }
