-- The signing requests of a report are those of the run that it is of.
use Rattle.std.proofs.Common.{◌≡◌, ℕ, true, List, [], ◌∷◌, ◌++◌, map, refl, ap, sym, ◌∙◌, Option, None, Some}
use Rattle.std.specs.List.{filter_map, flat_map}
use Rattle.std.proofs.lemmas.List.{map-append}
use Rattle.std.proofs.lemmas.List.Elements.{filter_map-append}
use Rattle.world_ports.specs.declared.Moment.{Moment}
use Rattle.agent_model.specs.Actions.{Action, Answered, Asked, ForBinding, ForSignature, Granted, Lost, Over, Proved, Purpose, Raised, Requested}
use Rattle.agent_model.specs.Runs.{Stamped, history, stamped}
use Rattle.agent_model.specs.State.{Settings, State, first_state}
use Rattle.agent_model.specs.Step.{step}
use Rattle.replay_run.specs.Replay.{course, events_of, parts_of, run_of, settings_of, start_run}
use Rattle.replay_run.specs.Told.{Told, Barred, Came, events_in}
use Rattle.replay_run.proofs.BroughtLemmas.{IsCourse, schedule-course}
use Rattle.audit_core.specs.Puts.{Signed, puts, puts_by, puts_from, puts_in, signed_by, signed_in, without_line}

-- ---- what is put

signed-actions : (line : ℕ) (actions : List Action)
    → map without_line (puts_by line actions) ≡ filter_map signed_by actions
signed-actions line [] = refl
signed-actions line (Requested requesting ∷ later) = signed-actions line later
signed-actions line (Asked asking ∷ later) = by_purpose asking.purpose refl (signed-actions line later)
  where
    by_purpose : (purpose : Purpose) → asking.purpose ≡ purpose
        → map without_line (puts_by line later) ≡ filter_map signed_by later
        → map without_line (puts_by line (Asked asking ∷ later)) ≡ filter_map signed_by (Asked asking ∷ later)
    by_purpose (ForSignature signing) is rest = rw is (ap (λ l. record { ask = asking.ask; port = asking.port; blob = signing.blob } ∷ l) rest)
    by_purpose (ForBinding binding) is rest = rw is rest
signed-actions line (Answered one ∷ later) = signed-actions line later
signed-actions line (Proved proving ∷ later) = signed-actions line later
signed-actions line (Raised raising ∷ later) = signed-actions line later
signed-actions line (Granted job ∷ later) = signed-actions line later
signed-actions line (Over job ∷ later) = signed-actions line later
signed-actions line (Lost ∷ later) = signed-actions line later

signed-stamped : (moment : Moment) (actions : List Action) → signed_in (map (λ action. record { moment = moment; action = action }) actions) ≡ filter_map signed_by actions
signed-stamped moment [] = refl
signed-stamped moment (action ∷ later) = by_found (signed_by action) refl (signed-stamped moment later)
  where
    by_found : (found : Option Signed) → signed_by action ≡ found → signed_in (map (λ a. record { moment = moment; action = a }) later) ≡ filter_map signed_by later → signed_in (map (λ a. record { moment = moment; action = a }) (action ∷ later)) ≡ filter_map signed_by (action ∷ later)
    by_found None is rest = rw is rest
    by_found (Some one) is rest = rw is (ap (λ l. one ∷ l) rest)

-- what is told of events puts what their history has
signed-told : (state : State) (told : List Told) (end : State) → IsCourse state told end
    → map without_line (flat_map puts_in told) ≡ signed_in (history state (events_in told))
signed-told state [] end is = refl
signed-told state (Came line before timed ∷ later) end is =
    let outcome = step before timed.moment timed.event in
    map-append without_line (puts_by line outcome.actions) (flat_map puts_in later)
    ∙ ap (λ l. l ++ map without_line (flat_map puts_in later)) (signed-actions line outcome.actions ∙ sym (signed-stamped outcome.state.moment outcome.actions))
    ∙ ap (λ l. signed_in (stamped outcome) ++ l) (signed-told outcome.state later end is.1)
    ∙ sym (filter_map-append (λ (one : Stamped). signed_by one.action) (stamped outcome) (history outcome.state (events_in later)))
    ∙ sym (ap (λ (s : State). signed_in (history s (timed ∷ events_in later))) is.0)
signed-told state (Barred line fault ∷ later) end is = signed-told state later end is

pub all_signed : (settings : Settings) (text : List ℕ)
    → map without_line (puts settings text) ≡ signed_in (history (first_state (settings_of settings text)) (events_of settings text))
unfolding puts_from
all_signed settings text =
    signed-told (first_state (settings_of settings text)) (course true (start_run settings) (parts_of text)).told (run_of settings text).agent (schedule-course settings text)
