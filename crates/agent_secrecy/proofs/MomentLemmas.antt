-- What a moment brings, with secrets hidden.
use Rattle.std.proofs.Common.{◌≡◌, ℕ, List, [], ◌∷◌, length, max, refl, ap, ◌∙◌, Option}
use Rattle.world_ports.specs.declared.Moment.{Moment}
use Rattle.confirm_desk.specs.Confirmations.{Confirmation}
use Rattle.agent_model.specs.Actions.{Outcome}
use Rattle.agent_model.specs.Consents.{over_if}
use Rattle.agent_model.specs.State.{State}
use Rattle.agent_model.specs.Time.{all_over, at_moment, end_late, first_late, is_helper_late, lose_late, taken_in, time_passes}
use Rattle.agent_secrecy.specs.Hiding.{hide_state}
use Rattle.agent_secrecy.proofs.TableLemmas.{expired-hidden}
use Rattle.agent_secrecy.proofs.StateLemmas.{and_then-hidden, hide_outcome, lose_where-hidden, over_if-hidden}

module _ (key : List ℕ → List ℕ) (keeps : (bytes : List ℕ) → length (key bytes) ≡ length bytes) (heard : ℕ → List ℕ → List ℕ) where
  abbrev hide : State → State
  hide state = hide_state key heard state

  abbrev hidden_outcome : Outcome → Outcome
  hidden_outcome outcome = hide_outcome key keeps heard outcome

  taken_in-hidden : (moment : Moment) (state : State)
      → taken_in moment (hide state) ≡ hide (taken_in moment state)
  taken_in-hidden moment state =
      ap (λ held. let new : State = record (hide (taken_in moment state)) { held = held } in new) (expired-hidden key (max state.moment.mono moment.mono) state.held)

  all_over-hidden : (all : List Confirmation) (state : State)
      → all_over all (hide state) ≡ hidden_outcome (all_over all state)
  all_over-hidden [] state = refl
  all_over-hidden (one ∷ others) state =
      let late : Option Confirmation = first_late state.under_way in
      and_then-hidden key keeps heard (over_if late state) _ (all_over others) (over_if-hidden key keeps heard late state) (all_over-hidden others (over_if late state).state)

  end_late-hidden : (state : State) → end_late (hide state) ≡ hidden_outcome (end_late state)
  end_late-hidden state = all_over-hidden state.under_way.confirmations state

  pub time_passes-hidden : (moment : Moment) (state : State)
      → time_passes moment (hide state) ≡ hidden_outcome (time_passes moment state)
  time_passes-hidden moment state =
      and_then-hidden key keeps heard (lose_late (taken_in moment state)) _ end_late
      (ap lose_late (taken_in-hidden moment state) ∙ lose_where-hidden key keeps heard (is_helper_late (taken_in moment state).under_way) (taken_in moment state))
      (end_late-hidden (lose_late (taken_in moment state)).state)

  pub at_moment-hidden : (moment : Moment) (state : State)
      → at_moment moment (hide state) ≡ hide (at_moment moment state)
  at_moment-hidden moment state =
      ap (λ (outcome : Outcome). outcome.state) (time_passes-hidden moment state)
