-- A confirmation that ended is nowhere.
use Rattle.std.proofs.Common.{◌≡◌, ◌⊎◌, ℕ, ◌≤◌, List, [], ◌∷◌, refl, ap, arith, ◌∙◌, ◌==◌, nat_lt, Option, Some, None, Bool, true, false, if◌then◌else◌, inl, inr}
use Rattle.std.specs.Option.{option_map}
use Rattle.std.proofs.lemmas.Bool.Decides.{nat_tests}
use Rattle.std.proofs.lemmas.List.Sums.{sum_by-cons}
use Rattle.confirm_desk.specs.Confirmations.{Confirmation, find_job}
use Rattle.agent_model.specs.Actions.{Action, Granted, Over}
use Rattle.agent_model.specs.Events.{Timed}
use Rattle.agent_model.specs.Fates.{actions_of}
use Rattle.agent_model.specs.Grants.{IsAmong}
use Rattle.agent_model.specs.Runs.{run}
use Rattle.agent_model.specs.State.{Settings, UnderWay, first_state}
use Rattle.agent_model.proofs.FatedLemmas.{first-tied}
use Rattle.agent_laws.specs.Grants.{ends_by, times_ended, wanted_of}
use Rattle.agent_laws.proofs.TraceLemmas.{endable, endable_most, noted_by, run-ended}

-- an end among actions is counted
counted : (job : ℕ) (end : Action) (actions : List Action) → ends_by job end ≡ 1
    → IsAmong end actions → 1 ≤ times_ended job actions
counted job end [] one among = absurd among
counted job end (first ∷ later) one (inl same) =
    omega (arith, sum_by-cons (ends_by job) first later, ap (ends_by job) same, one)
counted job end (first ∷ later) one (inr among) =
    omega (arith, sum_by-cons (ends_by job) first later, counted job end later one among)

-- what can't end any more isn't there
none_left : (job : ℕ) (under_way : UnderWay) → endable job under_way ≤ 0
    → find_job job under_way.confirmations ≡ None
none_left job under_way low = by_cases (nat_lt under_way.last_job job) (find_job job under_way.confirmations) refl refl
  where
    is : (above : Bool) (found : Option Confirmation) → nat_lt under_way.last_job job ≡ above
        → find_job job under_way.confirmations ≡ found
        → endable job under_way ≡ (if above then 1 else noted_by (option_map wanted_of found))
    is above found a f =
        ap (λ (b : Bool). if b then 1 else noted_by (option_map wanted_of (find_job job under_way.confirmations))) a
        ∙ ap (λ (c : Option Confirmation). if above then 1 else noted_by (option_map wanted_of c)) f

    by_cases : (above : Bool) (found : Option Confirmation) → nat_lt under_way.last_job job ≡ above
        → find_job job under_way.confirmations ≡ found → find_job job under_way.confirmations ≡ None
    by_cases true found a f = absurd (omega (arith, low, is true found a f))
    by_cases false (Some one) a f = absurd (omega (arith, low, is false (Some one) a f))
    by_cases false None a f = f

-- the ends of this job
ends_by-own : (job : ℕ) → (ends_by job (Granted job) ≡ 1) × (ends_by job (Over job) ≡ 1)
ends_by-own job =
    let test : (job == job) ≡ true = grind (arith, nat_tests) in
    let one = ap (λ (b : Bool). if b then 1 else 0) test in
    (one, one)

ended-by : (settings : Settings) (events : List Timed) (job : ℕ)
    → 1 ≤ times_ended job (actions_of (first_state settings) events)
    → find_job job (run (first_state settings) events).under_way.confirmations ≡ None
ended-by settings events job some =
    none_left job (run (first_state settings) events).under_way
    (omega (arith, some, run-ended job (first_state settings) events (first-tied settings), endable_most job (first_state settings).under_way))

pub first-ended : (settings : Settings) (events : List Timed) (job : ℕ)
    → IsAmong (Granted job) (actions_of (first_state settings) events) ⊎ IsAmong (Over job) (actions_of (first_state settings) events)
    → find_job job (run (first_state settings) events).under_way.confirmations ≡ None
first-ended settings events job (inl granted) = ended-by settings events job (counted job (Granted job) (actions_of (first_state settings) events) (ends_by-own job).0 granted)
first-ended settings events job (inr over) = ended-by settings events job (counted job (Over job) (actions_of (first_state settings) events) (ends_by-own job).1 over)
