-- Long rows without limits: what a moment would end needs no computing.
use Rattle.std.proofs.Common.{◌≡◌, ℕ, zero, suc, List, [], ◌∷◌, refl, ap, ◌∙◌}
use Rattle.world_ports.specs.declared.Door.TheVariants.{Clients, Children}
use Rattle.world_ports.specs.declared.Moment.{Moment}
use Rattle.agent_model.specs.Actions.{Outcome}
use Rattle.agent_model.specs.ChildRows.{hello, then, ticket}
use Rattle.agent_model.specs.ConsentRows.{add_for_host, at_second, bind, bound_to_host, sign_login, true_for, unanswered}
use Rattle.agent_model.specs.Events.{Ended, Happening, Heard, Joined, Started, Took}
use Rattle.agent_model.specs.Rows.{add, add_asking, moment_at, sign, with_event}
use Rattle.agent_model.specs.State.{State, TimeLimits, first_state, no_limits, no_settings}
use Rattle.agent_model.specs.Step.{handle, step}
use Rattle.agent_model.specs.Time.{taken_in}
use Rattle.agent_model.proofs.OnTimeLemmas.{unlimited-on_time}
use Rattle.agent_model.proofs.TimeKeptLemmas.{keeps_time-handle}
use Rattle.agent_model.proofs.TimeLemmas.{on_time-step}

-- ---- events that end nothing

-- an event at a moment that ends nothing
abbrev pub plain_at : Moment → Happening → State → State
plain_at moment event state = (handle event (taken_in moment state)).state

-- events at second 0
abbrev pub plain : State → List Happening → State
plain state [] = state
plain state (event ∷ later) = plain (plain_at (moment_at 0) event state) later

-- without limits
abbrev HasNone : State → Type 0
HasNone state = state.under_way.limits ≡ no_limits

plain-keeps : (moment : Moment) (event : Happening) (state : State) → HasNone state
    → HasNone (plain_at moment event state)
plain-keeps moment event state none =
    (keeps_time-handle event (taken_in moment state)).limits ∙ none

step-plain : (moment : Moment) (event : Happening) (state : State) → HasNone state
    → (step state moment event).state ≡ plain_at moment event state
step-plain moment event state none =
    ap (λ (o : Outcome). o.state) (on_time-step moment state event
    (unlimited-on_time moment state (ap (λ (l : TimeLimits). l.ask) none) (ap (λ (l : TimeLimits). l.confirmation) none)))

then-plain : (state : State) (events : List Happening) → HasNone state
    → then state events ≡ plain state events
then-plain state [] none = refl
then-plain state (event ∷ later) none =
    ap (λ s. then s later) (step-plain (moment_at 0) event state none)
    ∙ then-plain (plain_at (moment_at 0) event state) later (plain-keeps (moment_at 0) event state none)

many-keep : (state : State) (events : List Happening) → HasNone state → HasNone (plain state events)
many-keep state [] none = none
many-keep state (event ∷ later) none = many-keep (plain_at (moment_at 0) event state) later (plain-keeps (moment_at 0) event state none)

-- ---- many asks

-- the child process of port 2 asks the user
abbrev asks_begin : List Happening
asks_begin =
    Joined Clients ∷ Heard 1 (add 18) ∷ Took 1 5 ∷ Heard 1 (add_asking 17) ∷ Took 1 5 ∷ Heard 1 (sign 17) ∷ Started 1 (ticket 9) ∷ Joined Children ∷ Heard 2 (hello 1 9) ∷ []

-- one client more asks and leaves
abbrev one_asks : ℕ → List Happening
one_asks count =
    Joined Clients ∷ Heard (suc (suc (suc count))) (sign 18) ∷ Ended (suc (suc (suc count))) ∷ []

abbrev pub plain_unanswered : ℕ → State
plain_unanswered zero =
    plain (first_state no_settings) asks_begin
plain_unanswered (suc count) =
    plain (plain_unanswered count) (one_asks count)

unanswered-keeps : (count : ℕ) → HasNone (plain_unanswered count)
unanswered-keeps zero = many-keep (first_state no_settings) asks_begin refl
unanswered-keeps (suc count) =
    many-keep (plain_unanswered count) (one_asks count) (unanswered-keeps count)

unanswered-plain : (count : ℕ) → unanswered count ≡ plain_unanswered count
unanswered-plain zero = then-plain (first_state no_settings) asks_begin refl
unanswered-plain (suc count) =
    ap (λ s. then s (one_asks count)) (unanswered-plain count)
    ∙ then-plain (plain_unanswered count) (one_asks count) (unanswered-keeps count)

-- and then an event
pub event-plain : (count : ℕ) (event : Happening)
    → with_event event (unanswered count) ≡ plain_at (moment_at 0) event (plain_unanswered count)
event-plain count event =
    ap (with_event event) (unanswered-plain count) ∙ step-plain (moment_at 0) event (plain_unanswered count) (unanswered-keeps count)

-- ---- a key for one host

-- the client is bound
abbrev binds : List Happening
binds =
    Joined Clients ∷ Heard 1 add_for_host ∷ Took 1 5 ∷ Heard 1 bind ∷ Started 1 (ticket 9) ∷ Joined Children ∷ Heard 2 (hello 1 9) ∷ Heard 2 (true_for 1) ∷ Took 1 5 ∷ []

-- a child process asks the user
abbrev child_comes : List Happening
child_comes = Started 2 (ticket 7) ∷ Joined Children ∷ Heard 3 (hello 2 7) ∷ []

-- before the signature is asked for
abbrev before_login : State
before_login =
    plain (first_state no_settings) binds

abbrev moment_of : ℕ → ℕ → Moment
moment_of mono wall = record { mono = mono; wall = wall }

abbrev pub plain_bound : State
plain_bound =
    plain (plain_at (moment_of 0 150) (Heard 1 sign_login) before_login) child_comes

login-keeps : HasNone (plain_at (moment_of 0 150) (Heard 1 sign_login) before_login)
login-keeps = plain-keeps (moment_of 0 150) (Heard 1 sign_login) before_login (many-keep (first_state no_settings) binds refl)

bound-plain : bound_to_host ≡ plain_bound
bound-plain =
    ap (λ s. then (at_second 0 150 (Heard 1 sign_login) s) child_comes) (then-plain (first_state no_settings) binds refl)
    ∙ ap (λ s. then s child_comes)
    (step-plain (moment_of 0 150) (Heard 1 sign_login) before_login (many-keep (first_state no_settings) binds refl))
    ∙ then-plain (plain_at (moment_of 0 150) (Heard 1 sign_login) before_login) child_comes login-keeps

pub at_second-plain : (mono wall : ℕ) (event : Happening)
    → at_second mono wall event bound_to_host ≡ plain_at (record { mono = mono; wall = wall }) event plain_bound
at_second-plain mono wall event =
    ap (at_second mono wall event) bound-plain
    ∙ step-plain (record { mono = mono; wall = wall }) event plain_bound (many-keep (plain_at (moment_of 0 150) (Heard 1 sign_login) before_login) child_comes login-keeps)
